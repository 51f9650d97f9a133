-- Leg orders rank one way and in a chain. The laws of an impl may cite `specs/` of their own crate and not its `proofs/`, so these
-- proofs stand here. No clause and no definition cites them, and so none hangs on what a tactic finds.
use Rattle.std.specs.Prelude.{◌≡◌, ℕ, Bool, true, false, cond, ◌==◌, nat_lt}
use Rattle.std.proofs.Common.{arith}
use Rattle.std.proofs.lemmas.Bool.Decides.{nat_tests}
use Rattle.terms.specs.declared.side.Side.{Side}
use Rattle.terms.specs.declared.side.Side.TheVariants.{Buy, Sell}
use Rattle.leg_orders.specs.declared.order.LegOrder.{LegOrder}
use Rattle.leg_orders.specs.Ranks.{sooner_of, sooner, placed_of, better_placed, leg_before}

-- ---- one way

sooner-oneway : (a b : Bool) (m n : ℕ) → sooner_of a m b n ≡ true → sooner_of b n a m ≡ false
sooner-oneway true true m n h = grind (arith, nat_tests)
sooner-oneway true false m n h = grind (arith, nat_tests)
sooner-oneway false true m n h = grind (arith, nat_tests)
sooner-oneway false false m n h = grind (arith, nat_tests)

placed-oneway : (s t : Side) (p q : ℕ) (x y : Bool) → (x ≡ true → y ≡ false) → placed_of s p t q x ≡ true → placed_of t q s p y ≡ false
placed-oneway Buy Buy p q x y k h = grind (arith, nat_tests)
placed-oneway Buy Sell p q x y k h = grind (arith, nat_tests)
placed-oneway Sell Buy p q x y k h = grind (arith, nat_tests)
placed-oneway Sell Sell p q x y k h = grind (arith, nat_tests)

leg-oneway : (i j : ℕ) (x y : Bool) → (x ≡ true → y ≡ false) → cond (i == j) x (nat_lt i j) ≡ true → cond (j == i) y (nat_lt j i) ≡ false
leg-oneway i j x y k h = grind (arith, nat_tests)

pub oneway : (a b : LegOrder) → leg_before a b ≡ true → leg_before b a ≡ false
oneway a b =
    leg-oneway a.at.leg b.at.leg (better_placed a b) (better_placed b a)
    (placed-oneway a.at.side b.at.side a.price b.price (sooner a b) (sooner b a)
    (sooner-oneway a.customer b.customer a.number b.number))

-- ---- in a chain

sooner-chain : (a b c : Bool) (k m n : ℕ) → sooner_of a k b m ≡ false → sooner_of b m c n ≡ false → sooner_of a k c n ≡ false
sooner-chain true true true k m n g h = grind (arith, nat_tests)
sooner-chain true true false k m n g h = grind (arith, nat_tests)
sooner-chain true false true k m n g h = grind (arith, nat_tests)
sooner-chain true false false k m n g h = grind (arith, nat_tests)
sooner-chain false true true k m n g h = grind (arith, nat_tests)
sooner-chain false true false k m n g h = grind (arith, nat_tests)
sooner-chain false false true k m n g h = grind (arith, nat_tests)
sooner-chain false false false k m n g h = grind (arith, nat_tests)

placed-chain : (s t u : Side) (p q r : ℕ) (x y z : Bool) → (x ≡ false → y ≡ false → z ≡ false) → placed_of s p t q x ≡ false → placed_of t q u r y ≡ false → placed_of s p u r z ≡ false
placed-chain Buy Buy Buy p q r x y z k g h = grind (arith, nat_tests)
placed-chain Buy Buy Sell p q r x y z k g h = grind (arith, nat_tests)
placed-chain Buy Sell Buy p q r x y z k g h = grind (arith, nat_tests)
placed-chain Buy Sell Sell p q r x y z k g h = grind (arith, nat_tests)
placed-chain Sell Buy Buy p q r x y z k g h = grind (arith, nat_tests)
placed-chain Sell Buy Sell p q r x y z k g h = grind (arith, nat_tests)
placed-chain Sell Sell Buy p q r x y z k g h = grind (arith, nat_tests)
placed-chain Sell Sell Sell p q r x y z k g h = grind (arith, nat_tests)

leg-chain : (i j k : ℕ) (x y z : Bool) → (x ≡ false → y ≡ false → z ≡ false) → cond (i == j) x (nat_lt i j) ≡ false → cond (j == k) y (nat_lt j k) ≡ false → cond (i == k) z (nat_lt i k) ≡ false
leg-chain i j k x y z w g h = grind (arith, nat_tests)

pub chain : (a b c : LegOrder) → leg_before a b ≡ false → leg_before b c ≡ false → leg_before a c ≡ false
chain a b c =
    leg-chain a.at.leg b.at.leg c.at.leg (better_placed a b) (better_placed b c) (better_placed a c)
    (placed-chain a.at.side b.at.side c.at.side a.price b.price c.price (sooner a b) (sooner b c) (sooner a c)
    (sooner-chain a.customer b.customer c.customer a.number b.number c.number))
