-- What `leads` says of each place, and what keeps it.
use Rattle.std.proofs.Common.{◌≡◌, ℕ, zero, suc, ◌<◌, Bool, true, false, List, [], ◌∷◌, length, get_or, set, refl, arith}
use Rattle.std.specs.List.{slice_get, remove}
use Rattle.std.proofs.lemmas.Bool.{and_from, and_parts, not-true, not_from_false, cond_both}
use Rattle.ranked.specs.Order.{leads, in_rank, may_set}

module _ {X : Type 0} (before : X → X → Bool) where
  pub leads-not-before : (x : X) (xs : List X) → leads before x xs ≡ true → (k : ℕ) (d : X) → k < length xs → before (get_or xs k d) x ≡ false
  leads-not-before x [] led k d lt = absurd (omega arith)
  leads-not-before x (y ∷ ys) led zero d lt = not-true (before y x) (and_parts _ _ led).0
  leads-not-before x (y ∷ ys) led (suc k) d lt = leads-not-before x ys (and_parts _ _ led).1 k d (omega arith)

  -- x leads where no record precedes it
  pub leads-from-not-before : (x : X) (xs : List X) → ((k : ℕ) (d : X) → k < length xs → before (get_or xs k d) x ≡ false) → leads before x xs ≡ true
  leads-from-not-before x [] each = refl
  leads-from-not-before x (y ∷ ys) each = and_from _ _ (not_from_false _ (each zero y (omega arith))) (leads-from-not-before x ys (λ k d lt. each (suc k) d (omega arith)))

  pub leads-removed : (x : X) (xs : List X) (i : ℕ) → leads before x xs ≡ true → leads before x (remove xs i) ≡ true
  leads-removed x [] zero led = refl
  leads-removed x [] (suc i) led = refl
  leads-removed x (y ∷ ys) zero led = (and_parts _ _ led).1
  leads-removed x (y ∷ ys) (suc i) led = let both = and_parts _ _ led in and_from _ _ both.0 (leads-removed x ys i both.1)

  pub leads-in-rank : (x y : X) (zs : List X) → before y x ≡ false → leads before x zs ≡ true → leads before x (in_rank before y zs) ≡ true
  leads-in-rank x y [] behind led = and_from _ _ (not_from_false _ behind) refl
  leads-in-rank x y (z ∷ zs) behind led =
      let both = and_parts _ _ led in
      cond_both (before y z) _ _ (λ (l : List X). leads before x l ≡ true)
      (λ _. and_from _ _ (not_from_false _ behind) led)
      (λ _. and_from _ _ both.0 (leads-in-rank x y zs behind both.1))

  module _ (chain : (x y z : X) → before x y ≡ false → before y z ≡ false → before x z ≡ false) where
    -- what stands behind y stands behind each record that y may stand behind
    pub leads-from-behind : (x y : X) (zs : List X) → before y x ≡ false → leads before y zs ≡ true → leads before x zs ≡ true
    leads-from-behind x y [] behind led = refl
    leads-from-behind x y (z ∷ zs) behind led =
        let both = and_parts _ _ led in
        and_from _ _ (not_from_false _ (chain z y x (not-true _ both.0) behind)) (leads-from-behind x y zs behind both.1)

    pub leads-set : (x y : X) (zs : List X) (i : ℕ) → may_set before (slice_get zs i) y ≡ true → leads before x zs ≡ true → leads before x (set zs i y) ≡ true
    leads-set x y [] i may led = refl
    leads-set x y (z ∷ zs) zero may led =
        let both = and_parts _ _ led in
        and_from _ _ (not_from_false _ (chain y z x (not-true _ (and_parts _ _ may).1) (not-true _ both.0))) both.1
    leads-set x y (z ∷ zs) (suc i) may led = let both = and_parts _ _ led in and_from _ _ both.0 (leads-set x y zs i may both.1)
