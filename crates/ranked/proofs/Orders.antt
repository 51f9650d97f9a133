-- What a list in rank order says of two places, and what keeps it in order.
use Rattle.std.proofs.lemmas.Option.{slice_get_past}
use Rattle.std.proofs.Common.{Option, ap, ◌∙◌, not, ◌≡◌, ℕ, zero, suc, ◌<◌, Bool, true, false, List, [], ◌∷◌, length, get_or, set, Some, sym, refl, subst, ⊎_elim, arith}
use Rattle.std.specs.List.{slice_get, insert, remove}
use Rattle.std.specs.List.Sorted.{IsPartitionedBy}
use Rattle.std.proofs.lemmas.Bool.{cases_lt, and_from, and_parts, not-true, not_from_false, cond_both, cases_eq}
use Rattle.ranked.specs.Order.{in_order, in_rank, place_for, place_given, may_set}
use Rattle.ranked.proofs.Leads.{leads-not-before, leads-removed, leads-in-rank, leads-from-behind, leads-set}
use Rattle.ranked.proofs.Places.{inserted-in-rank, place-from-given}

module _ {X : Type 0} (before : X → X → Bool) where
  pub in-order-not-before : (xs : List X) → in_order before xs ≡ true → (i j : ℕ) (d : X) → i < j → j < length xs → before (get_or xs j d) (get_or xs i d) ≡ false
  in-order-not-before [] up i j d lt within = absurd (omega arith)
  in-order-not-before (x ∷ xs) up i zero d lt within = absurd (omega arith)
  in-order-not-before (x ∷ xs) up zero (suc j) d lt within = leads-not-before before x xs (and_parts _ _ up).0 j d (omega arith)
  in-order-not-before (x ∷ xs) up (suc i) (suc j) d lt within = in-order-not-before xs (and_parts _ _ up).1 i j d (omega arith) (omega arith)

  pub may-set-within : (xs : List X) (i : ℕ) (y : X) → may_set before (slice_get xs i) y ≡ true → i < length xs
  may-set-within xs i y may =
      ⊎_elim
      (λ lt. lt)
      (λ le. let past : false ≡ true = sym (ap (λ (o : Option X). may_set before o y) (slice_get_past xs i le)) ∙ may in let no : ◌≡◌ {A = ℕ} 0 1 = cc in absurd (omega arith))
      (cases_lt i (length xs))

  pub in-order-removed : (xs : List X) (i : ℕ) → in_order before xs ≡ true → in_order before (remove xs i) ≡ true
  in-order-removed [] zero up = refl
  in-order-removed [] (suc i) up = refl
  in-order-removed (x ∷ xs) zero up = (and_parts _ _ up).1
  in-order-removed (x ∷ xs) (suc i) up = let both = and_parts _ _ up in and_from _ _ (leads-removed before x xs i both.0) (in-order-removed xs i both.1)

  module _ (chain : (x y z : X) → before x y ≡ false → before y z ≡ false → before x z ≡ false) where
    pub in-order-set : (xs : List X) (i : ℕ) (y : X) → may_set before (slice_get xs i) y ≡ true → in_order before xs ≡ true → in_order before (set xs i y) ≡ true
    in-order-set [] i y may up = refl
    in-order-set (x ∷ xs) zero y may up =
        let both = and_parts _ _ up in
        and_from _ _ (leads-from-behind before chain y x xs (not-true _ (and_parts _ _ may).0) both.0) both.1
    in-order-set (x ∷ xs) (suc i) y may up =
        let both = and_parts _ _ up in
        and_from _ _ (leads-set before chain x y xs i may both.0) (in-order-set xs i y may both.1)

    -- the records that x does not precede stand ahead of those that it does
    pub parted-in-order : (x : X) (xs : List X) → in_order before xs ≡ true → IsPartitionedBy (λ y. not (before x y)) xs
    parted-in-order x xs up i j d le within passed =
        ⊎_elim
        (λ e. subst (λ (n : ℕ). not (before x (get_or xs n d)) ≡ true) (sym e) passed)
        (λ apart. not_from_false _ (chain x (get_or xs j d) (get_or xs i d) (not-true _ passed) (in-order-not-before xs up i j d (omega arith) within)))
        (cases_eq i j)

    module _ (oneway : (x y : X) → before x y ≡ true → before y x ≡ false) where
      pub in-order-in-rank : (x : X) (ys : List X) → in_order before ys ≡ true → in_order before (in_rank before x ys) ≡ true
      in-order-in-rank x [] up = refl
      in-order-in-rank x (y ∷ ys) up =
          let both = and_parts _ _ up in
          cond_both (before x y) _ _ (λ (l : List X). in_order before l ≡ true)
          (λ ahead. let behind = oneway x y ahead in and_from _ _ (and_from _ _ (not_from_false _ behind) (leads-from-behind before chain x y ys behind both.0)) up)
          (λ behind. and_from _ _ (leads-in-rank before y x ys behind both.0) (in-order-in-rank x ys both.1))

      pub in-order-inserted : (x : X) (xs : List X) → in_order before xs ≡ true → in_order before (insert xs (place_for before x xs) x) ≡ true
      in-order-inserted x xs up = subst (λ (l : List X). in_order before l ≡ true) (sym (inserted-in-rank before x xs)) (in-order-in-rank x xs up)

      pub in-order-inserted-given : (x : X) (xs : List X) (place room : ℕ) → in_order before xs ≡ true → Some place ≡ place_given before x xs room → in_order before (insert xs place x) ≡ true
      in-order-inserted-given x xs place room up given = subst (λ (n : ℕ). in_order before (insert xs n x) ≡ true) (sym (place-from-given before x xs place room given)) (in-order-inserted x xs up)
