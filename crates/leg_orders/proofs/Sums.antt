-- What the levels show at a price is what the orders at that price add up to.
use Rattle.std.proofs.Common.{◌≡◌, ℕ, ◌+◌, Bool, true, false, cond, not, ◌&&◌, eqb, List, [], ◌∷◌, refl, ap, ◌∙◌, inl, inr, arith}
use Rattle.std.proofs.lemmas.Bool.Decides.{nat_tests}
use Rattle.std.proofs.lemmas.Bool.{cases_Bool}
use Rattle.terms.specs.declared.side.Side.{Side}
use Rattle.quotes.specs.declared.level.Level.{Level}
use Rattle.leg_orders.specs.declared.order.LegOrder.{LegOrder}
use Rattle.leg_orders.specs.Levels.{is_of, level_from, join, join_if, own}
use Rattle.leg_orders.specs.Sums.{customers_at, others_at, customers_ordered, others_ordered}

joined-customers : (price : ℕ) (level : Level) (levels : List Level) → customers_at price (join level levels) ≡ cond (eqb level.price price) level.customer 0 + customers_at price levels
joined-customers price level [] = refl
joined-customers price level (next ∷ rest) = grind (arith, nat_tests)

joined-others : (price : ℕ) (level : Level) (levels : List Level) → others_at price (join level levels) ≡ cond (eqb level.price price) level.other 0 + others_at price levels
joined-others price level [] = refl
joined-others price level (next ∷ rest) = grind (arith, nat_tests)

-- the part of one order
customer-part : (here customer there : Bool) (n : ℕ) → here ≡ true → cond there (cond customer n 0) 0 ≡ cond (here && (there && customer)) n 0
customer-part true true true n e = refl
customer-part true true false n e = refl
customer-part true false true n e = refl
customer-part true false false n e = refl
customer-part false customer there n e = absurd (cc)

other-part : (here customer there : Bool) (n : ℕ) → here ≡ true → cond there (cond customer 0 n) 0 ≡ cond (here && (there && not customer)) n 0
other-part true true true n e = refl
other-part true true false n e = refl
other-part true false true n e = refl
other-part true false false n e = refl
other-part false customer there n e = absurd (cc)

pub customers-add-up : (leg : ℕ) (side : Side) (price : ℕ) (orders : List LegOrder) → customers_at price (own leg side orders) ≡ customers_ordered leg side price orders
customers-add-up leg side price [] = refl
customers-add-up leg side price (x ∷ xs) =
    let rest = customers-add-up leg side price xs in
    elim (cases_Bool (is_of leg side x)) [
      | inl of ↦
          let here = customer-part (is_of leg side x) x.customer (eqb x.price price) x.contracts of in
          let join_is : customers_at price (own leg side (x ∷ xs)) ≡ cond (eqb x.price price) (level_from x).customer 0 + customers_at price (own leg side xs) =
          ap (λ (b : Bool). customers_at price (join_if b (level_from x) (own leg side xs))) of ∙ joined-customers price (level_from x) (own leg side xs) in
          omega (arith, join_is, here, rest)
      | inr off ↦ rw off (omega (arith, rest))
    ]

pub others-add-up : (leg : ℕ) (side : Side) (price : ℕ) (orders : List LegOrder) → others_at price (own leg side orders) ≡ others_ordered leg side price orders
others-add-up leg side price [] = refl
others-add-up leg side price (x ∷ xs) =
    let rest = others-add-up leg side price xs in
    elim (cases_Bool (is_of leg side x)) [
      | inl of ↦
          let here = other-part (is_of leg side x) x.customer (eqb x.price price) x.contracts of in
          let join_is : others_at price (own leg side (x ∷ xs)) ≡ cond (eqb x.price price) (level_from x).other 0 + others_at price (own leg side xs) =
          ap (λ (b : Bool). others_at price (join_if b (level_from x) (own leg side xs))) of ∙ joined-others price (level_from x) (own leg side xs) in
          omega (arith, join_is, here, rest)
      | inr off ↦ rw off (omega (arith, rest))
    ]
