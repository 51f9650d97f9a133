-- One order's contracts go first of the level that it joins.
use Rattle.std.proofs.Common.{◌≡◌, ℕ, ◌+◌, ◌-◌, ◌<◌, ◌≤◌, Bool, true, false, cond, eqb, ltb, leb, List, [], ◌∷◌, sym, refl, ap, ◌∙◌, inl, inr, arith}
use Rattle.std.proofs.lemmas.Bool.{cases_eq, cases_lt, eq-eqb, ne_eqb, eqb-true, leb-true, le-leb, lt-ltb, le-ltb}
use Rattle.quotes.specs.declared.level.Level.{Level}
use Rattle.quotes.specs.Shown.{contracts}
use Rattle.quotes.specs.Takes.{lessened, less_best}
use Rattle.quotes.proofs.LessTaken.{lessened-none}
use Rattle.leg_orders.specs.Levels.{plus, join}

-- the level of these contracts alone
abbrev pub alone : ℕ → Bool → ℕ → Level
alone price customer n = record { price = price; customer = cond customer n 0; other = cond customer 0 n }

pub alone-contracts : (price : ℕ) (customer : Bool) (n : ℕ) → contracts (alone price customer n) ≡ n
alone-contracts price true n = omega arith
alone-contracts price false n = omega arith

-- the best level, if there is one, holds as many
abbrev pub enough : List Level → ℕ → Bool
enough [] n = eqb n 0
enough (level ∷ levels) n = leb n (contracts level)

abbrev pub some_first : List Level → Bool
some_first [] = true
some_first (level ∷ levels) = leb 1 (contracts level)

-- at this price only contracts of others stand
abbrev pub others_first : ℕ → List Level → Bool
others_first price [] = true
others_first price (level ∷ levels) = cond (eqb price level.price) (eqb level.customer 0) true

part-alone : (p : ℕ) (b : Bool) (c n : ℕ) → n < c → alone p b (c - n) ≡ lessened (alone p b c) n
part-alone p true c n h = let x : 0 ≡ 0 - (n - c) = omega arith in cc
part-alone p false c n h = let x : 0 ≡ 0 - n = omega arith in let y : c - n ≡ c - (n - 0) = omega arith in cc

part-joined : (p : ℕ) (b : Bool) (c n : ℕ) (l : Level) → n < c → (b ≡ false → l.customer ≡ 0) → plus (alone p b (c - n)) l ≡ lessened (plus (alone p b c) l) n
part-joined p true c n l h k =
    let x : (c - n) + l.customer ≡ (c + l.customer) - n = omega arith in
    let y : 0 + l.other ≡ (0 + l.other) - (n - (c + l.customer)) = omega arith in
    cc
part-joined p false c n l h k =
    let z = k refl in
    let x : 0 + l.customer ≡ (0 + l.customer) - n = omega arith in
    let y : (c - n) + l.other ≡ (c + l.other) - (n - (0 + l.customer)) = omega arith in
    cc

all-joined : (p : ℕ) (b : Bool) (c n : ℕ) (l : Level) → c ≤ n → p ≡ l.price → (b ≡ false → l.customer ≡ 0) → lessened l (n - c) ≡ lessened (plus (alone p b c) l) n
all-joined p true c n l h e k =
    let x : l.customer - (n - c) ≡ (c + l.customer) - n = omega arith in
    let y : l.other - ((n - c) - l.customer) ≡ (0 + l.other) - (n - (c + l.customer)) = omega arith in
    cc
all-joined p false c n l h e k =
    let z = k refl in
    let x : l.customer - (n - c) ≡ (0 + l.customer) - n = omega arith in
    let y : l.other - ((n - c) - l.customer) ≡ (c + l.other) - (n - (0 + l.customer)) = omega arith in
    cc

plus-contracts : (a b : Level) → contracts (plus a b) ≡ contracts a + contracts b
plus-contracts a b = omega arith

others-there : (p : ℕ) (l : Level) (ls : List Level) → p ≡ l.price → others_first p (l ∷ ls) ≡ true → l.customer ≡ 0
others-there p l ls e h = eqb-true l.customer 0 (ap (λ t. cond t (eqb l.customer 0) true) (sym (eq-eqb p l.price e)) ∙ h)

-- ---- part of the order's contracts

pub part-used : (p : ℕ) (b : Bool) (c n : ℕ) (levels : List Level) → n < c → (b ≡ false → others_first p levels ≡ true) → join (alone p b (c - n)) levels ≡ less_best (join (alone p b c) levels) n
part-used p b c n [] h k =
    let t : ltb n (contracts (alone p b c)) ≡ true = lt-ltb _ _ (omega (arith, alone-contracts p b c)) in
    rw t (ap (λ (x : Level). x ∷ []) (part-alone p b c n h))
part-used p b c n (l ∷ ls) h k =
    elim (cases_eq p l.price) [
      | inl e ↦
          let t : ltb n (contracts (plus (alone p b c) l)) ≡ true = lt-ltb _ _ (omega (arith, alone-contracts p b c, plus-contracts (alone p b c) l)) in
          rw (eq-eqb p l.price e, t) (ap (λ (x : Level). x ∷ ls) (part-joined p b c n l h (λ f. others-there p l ls e (k f))))
      | inr d ↦
          let t : ltb n (contracts (alone p b c)) ≡ true = lt-ltb _ _ (omega (arith, alone-contracts p b c)) in
          rw (ne_eqb p l.price d, t) (ap (λ (x : Level). x ∷ l ∷ ls) (part-alone p b c n h))
    ]

-- ---- all of them, and perhaps more

pub all-enough : (p : ℕ) (b : Bool) (c n : ℕ) (levels : List Level) → c ≤ n → enough (join (alone p b c) levels) n ≡ true → enough levels (n - c) ≡ true
all-enough p b c n [] h e = eq-eqb (n - c) 0 (omega (arith, leb-true _ _ e, alone-contracts p b c))
all-enough p b c n (l ∷ ls) h e =
    elim (cases_eq p l.price) [
      | inl same ↦
          let f : leb n (contracts (plus (alone p b c) l)) ≡ true = rw (eq-eqb p l.price same) at e in
          le-leb _ _ (omega (arith, leb-true _ _ f, alone-contracts p b c, plus-contracts (alone p b c) l))
      | inr other ↦
          let f : leb n (contracts (alone p b c)) ≡ true = rw (ne_eqb p l.price other) at e in
          le-leb _ _ (omega (arith, leb-true _ _ f, alone-contracts p b c))
    ]

pub all-used : (p : ℕ) (b : Bool) (c n : ℕ) (levels : List Level) → c ≤ n → enough (join (alone p b c) levels) n ≡ true → some_first levels ≡ true → (b ≡ false → others_first p levels ≡ true) → less_best levels (n - c) ≡ less_best (join (alone p b c) levels) n
all-used p b c n [] h e some k =
    let t : ltb n (contracts (alone p b c)) ≡ false = le-ltb _ _ (omega (arith, alone-contracts p b c)) in
    rw t refl
all-used p b c n (l ∷ ls) h e some k =
    elim (cases_eq p l.price) [
      | inl same ↦
          rw (eq-eqb p l.price same)
          (elim (cases_lt (n - c) (contracts l)) [
            | inl part ↦
                let t : ltb n (contracts (plus (alone p b c) l)) ≡ true = lt-ltb _ _ (omega (arith, alone-contracts p b c, plus-contracts (alone p b c) l)) in
                rw (lt-ltb _ _ part, t) (ap (λ (x : Level). x ∷ ls) (all-joined p b c n l h same (λ f. others-there p l ls same (k f))))
            | inr all ↦
                let t : ltb n (contracts (plus (alone p b c) l)) ≡ false = le-ltb _ _ (omega (arith, alone-contracts p b c, plus-contracts (alone p b c) l)) in
                rw (le-ltb _ _ all, t) refl
          ])
      | inr other ↦
          let f : leb n (contracts (alone p b c)) ≡ true = rw (ne_eqb p l.price other) at e in
          let none : n - c ≡ 0 = omega (arith, leb-true _ _ f, alone-contracts p b c) in
          let t : ltb n (contracts (alone p b c)) ≡ false = le-ltb _ _ (omega (arith, alone-contracts p b c)) in
          let u : ltb 0 (contracts l) ≡ true = lt-ltb _ _ (omega (arith, leb-true _ _ some)) in
          rw (ne_eqb p l.price other, t, none, u) (ap (λ (x : Level). x ∷ ls) (lessened-none l))
    ]
