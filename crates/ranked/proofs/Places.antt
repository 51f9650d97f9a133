-- The place of a record in a list.
use Rattle.std.specs.List.Sorted.{IsPartitionPoint}
use Rattle.std.proofs.Common.{not, ◌≡◌, ℕ, zero, suc, ◌<◌, ◌≤◌, Bool, true, false, cond, leb, List, [], ◌∷◌, length, get_or, Some, None, sym, refl, ap, ◌∙◌, arith}
use Rattle.std.specs.List.{insert}
use Rattle.std.proofs.lemmas.Bool.{not-true, not-false, cond-true, cond-false, cond_both}
use Rattle.ranked.specs.Order.{place_for, place_given, in_rank}

module _ {X : Type 0} (before : X → X → Bool) where
  pub inserted-in-rank : (x : X) (xs : List X) → insert xs (place_for before x xs) x ≡ in_rank before x xs
  inserted-in-rank x [] = refl
  inserted-in-rank x (y ∷ ys) = by (before x y) (inserted-in-rank x ys)
    where
      by : (b : Bool) → insert ys (place_for before x ys) x ≡ in_rank before x ys → insert (y ∷ ys) (cond b 0 (suc (place_for before x ys))) x ≡ cond b (x ∷ y ∷ ys) (y ∷ in_rank before x ys)
      by true rest = refl
      by false rest = ap (λ (l : List X). y ∷ l) rest

  -- the place is one of the list's, or its end
  pub place-within : (x : X) (xs : List X) → place_for before x xs ≤ length xs
  place-within x [] = omega arith
  place-within x (y ∷ ys) = cond_both (before x y) _ _ (λ (n : ℕ). n ≤ length (y ∷ ys)) (λ _. omega arith) (λ _. omega (arith, place-within x ys))

  -- the first place whose record x precedes, or the end
  pub place-from-first-ahead : (x : X) (xs : List X) (i : ℕ) → i ≤ length xs
      → ((k : ℕ) (d : X) → k < i → before x (get_or xs k d) ≡ false)
      → ((d : X) → i < length xs → before x (get_or xs i d) ≡ true)
      → i ≡ place_for before x xs
  place-from-first-ahead x [] i within behind ahead = omega arith
  place-from-first-ahead x (y ∷ ys) zero within behind ahead = sym (cond-true (before x y) _ _ (ahead y (omega arith)))
  place-from-first-ahead x (y ∷ ys) (suc i) within behind ahead =
      ap suc (place-from-first-ahead x ys i (omega arith) (λ k d lt. behind (suc k) d (omega arith)) (λ d lt. ahead d (omega arith)))
      ∙ sym (cond-false (before x y) _ _ (behind zero y (omega arith)))

  -- the place behind all that x does not precede
  pub place-from-point : (x : X) (xs : List X) (i : ℕ) → i ≤ length xs → IsPartitionPoint (λ y. not (before x y) ≡ true) (λ y. not (before x y) ≡ false) xs i → i ≡ place_for before x xs
  place-from-point x xs i within point =
      place-from-first-ahead x xs i within (λ k d lt. not-true _ (point.0 k d (omega arith) lt)) (λ d lt. not-false _ (point.1 i d (omega arith) lt))

  pub place-from-given : (x : X) (xs : List X) (place room : ℕ) → Some place ≡ place_given before x xs room → place ≡ place_for before x xs
  place-from-given x xs place room = by (leb room (length xs))
    where
      by : (full : Bool) → Some place ≡ cond full None (Some (place_for before x xs)) → place ≡ place_for before x xs
      by true given = let no : ◌≡◌ {A = ℕ} 0 1 = cc in absurd (omega arith)
      by false given = cc
