-- What a list holds once some of its records moved by one place.
use Rattle.std.proofs.Common.{◌≡◌, ℕ, suc, ◌+◌, ◌-◌, ◌<◌, ◌≤◌, ◌⊎◌, List, ◌++◌, length, get_or, take, set, ◌∙◌, arith, rules}
use Rattle.std.specs.List.{insert, remove, copy_within}
use Rattle.std.proofs.lemmas.List.{places, same_lists, get_or-set_same, take_all, drop_all, append-nil}
use Rattle.std.proofs.lemmas.Bool.{cases_order, cases_lt}

module _ {X : Type 0} where
  -- what stands at k once x was put at i
  get_or-inserted : (xs : List X) (i : ℕ) (x d : X) (k : ℕ) → i ≤ length xs
      → ((k < i) × (get_or (insert xs i x) k d ≡ get_or xs k d)) ⊎ (((k ≡ i) × (get_or (insert xs i x) k d ≡ x)) ⊎ ((i < k) × (get_or (insert xs i x) k d ≡ get_or xs (k - 1) d)))
  get_or-inserted xs i x d k le = grind (arith, places, cases_order k i)

  -- what stands at k once the record at i went
  get_or-removed : (xs : List X) (i : ℕ) (d : X) (k : ℕ) → i < length xs
      → ((k < i) × (get_or (remove xs i) k d ≡ get_or xs k d)) ⊎ ((i ≤ k) × (get_or (remove xs i) k d ≡ get_or xs (k + 1) d))
  get_or-removed xs i d k l = grind (arith, places, cases_lt k i)

  -- ys is xs with the records from i up to n one place further on
  pub inserted-from-moved-on : (xs ys : List X) (i n : ℕ) (x : X) → i ≤ n → n < length xs → length ys ≡ length xs
      → ((j : ℕ) (d : X) → j < i → get_or ys j d ≡ get_or xs j d)
      → ((j : ℕ) (d : X) → i ≤ j → j < n → get_or ys (j + 1) d ≡ get_or xs j d)
      → take (n + 1) (set ys i x) ≡ insert (take n xs) i x
  inserted-from-moved-on xs ys i n x a b same low high =
      same_lists _ _ (search (rules, places)) (λ k d h. grind (arith, places, get_or-set_same, get_or-inserted (take n xs) i x d k, low, high))

  -- by `copy_within` the records from i up to n go one place further on
  pub inserted-from-copied : (xs : List X) (i n : ℕ) (x : X) → i ≤ n → n < length xs → take (n + 1) (set (copy_within xs i n (i + 1)) i x) ≡ insert (take n xs) i x
  inserted-from-copied xs i n x a b =
      inserted-from-moved-on xs (copy_within xs i n (i + 1)) i n x a b (search (rules, places)) (λ j d lt. grind (arith, places)) (λ j d from to. grind (arith, places))

  -- ys is xs with the records behind i up to n one place nearer
  pub removed-from-moved-up : (xs ys : List X) (i n : ℕ) → i < n → n ≤ length xs → length ys ≡ length xs
      → ((j : ℕ) (d : X) → j < i → get_or ys j d ≡ get_or xs j d)
      → ((j : ℕ) (d : X) → i ≤ j → j + 1 < n → get_or ys j d ≡ get_or xs (j + 1) d)
      → take (n - 1) ys ≡ remove (take n xs) i
  removed-from-moved-up xs ys i n a b same low high =
      same_lists _ _ (search (rules, places)) (λ k d h. grind (arith, places, get_or-removed (take n xs) i d k, low, high))

  -- by `copy_within` the records behind i up to n come one place nearer
  pub removed-from-copied : (xs : List X) (i n : ℕ) → i < n → n ≤ length xs → take (n - 1) (copy_within xs (i + 1) n i) ≡ remove (take n xs) i
  removed-from-copied xs i n a b =
      removed-from-moved-up xs (copy_within xs (i + 1) n i) i n a b (search (rules, places)) (λ j d lt. grind (arith, places)) (λ j d from to. grind (arith, places))

  -- at a place past the end nothing is taken out
  pub removed-past : (xs : List X) (i : ℕ) → length xs ≤ i → remove xs i ≡ xs
  removed-past xs i le = (λ k. take_all i xs le k ++ drop_all (suc i) xs (omega arith) k) ∙ append-nil xs
