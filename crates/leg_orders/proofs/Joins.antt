-- Contracts that join the levels behind them, and contracts that come in at their price.
use Rattle.std.proofs.Common.{◌≡◌, ℕ, ◌+◌, Bool, true, false, not, eqb, List, [], ◌∷◌, refl, inl, inr, arith}
use Rattle.std.proofs.lemmas.Bool.Decides.{nat_tests}
use Rattle.std.proofs.lemmas.Bool.{cases_Bool}
use Rattle.terms.specs.declared.side.Side.{Side}
use Rattle.terms.specs.declared.side.Side.TheVariants.{Buy, Sell}
use Rattle.quotes.specs.declared.level.Level.{Level}
use Rattle.quotes.specs.Shown.{better}
use Rattle.leg_orders.specs.Levels.{plus, join, join_if, enter, enter_if}

-- no level here has a better price
abbrev pub at_least : Side → ℕ → List Level → Bool
at_least side price [] = true
at_least side price (level ∷ levels) = not (better side level.price price)

pub first-joined : (side : Side) (price : ℕ) (level : Level) (levels : List Level) → at_least side price (join level levels) ≡ not (better side level.price price)
first-joined side price level [] = refl
first-joined side price level (next ∷ rest) =
    elim (cases_Bool (eqb level.price next.price)) [ inl e ↦ rw e refl | inr e ↦ rw e refl ]

pub join-enters : (side : Side) (level : Level) (levels : List Level) → at_least side level.price levels ≡ true → join level levels ≡ enter side level levels
join-enters side level [] h = refl
join-enters Buy level (next ∷ rest) h = grind (arith, nat_tests)
join-enters Sell level (next ∷ rest) h = grind (arith, nat_tests)

plus-swaps : (a b : Level) → a.price ≡ b.price → plus a b ≡ plus b a
plus-swaps a b e =
    let c : a.customer + b.customer ≡ b.customer + a.customer = omega arith in
    let o : a.other + b.other ≡ b.other + a.other = omega arith in
    cc

plus-turns : (a b c : Level) → a.price ≡ b.price → plus a (plus b c) ≡ plus b (plus a c)
plus-turns a b c e =
    let x : a.customer + (b.customer + c.customer) ≡ b.customer + (a.customer + c.customer) = omega arith in
    let y : a.other + (b.other + c.other) ≡ b.other + (a.other + c.other) = omega arith in
    cc

pub join-past-enter : (side : Side) (ahead level : Level) (levels : List Level) → better side level.price ahead.price ≡ false → at_least side ahead.price levels ≡ true → join ahead (enter side level levels) ≡ enter side level (join ahead levels)
join-past-enter Buy a m [] g h = let e = plus-swaps a m in grind (arith, nat_tests)
join-past-enter Sell a m [] g h = let e = plus-swaps a m in grind (arith, nat_tests)
join-past-enter Buy a m (l ∷ ls) g h = let e = plus-swaps a m in let f = plus-turns a m l in grind (arith, nat_tests)
join-past-enter Sell a m (l ∷ ls) g h = let e = plus-swaps a m in let f = plus-turns a m l in grind (arith, nat_tests)

pub join-past-enter-if : (here there : Bool) (side : Side) (ahead level : Level) (levels : List Level) →
    (here ≡ true → there ≡ true → better side level.price ahead.price ≡ false) → (here ≡ true → at_least side ahead.price levels ≡ true) →
    join_if here ahead (enter_if there side level levels) ≡ enter_if there side level (join_if here ahead levels)
join-past-enter-if true true side a m ls g h = join-past-enter side a m ls (g refl refl) (h refl)
join-past-enter-if true false side a m ls g h = refl
join-past-enter-if false true side a m ls g h = refl
join-past-enter-if false false side a m ls g h = refl
