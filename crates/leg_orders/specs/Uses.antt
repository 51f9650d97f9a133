-- What a take leaves of the orders.
--   fewer         an order with that many contracts fewer
--   used_up       the orders of one side of one leg are used up in rank: one left with no contracts leaves, the last
--                 that gives contracts keeps the rest of its own
--   orders_left   the orders after a take: where it is refused, all stay
use Rattle.std.specs.Prelude.{ℕ, ◌-◌, cond, List, [], ◌∷◌, nat_le}
use Rattle.terms.specs.declared.side.Side.{Side}
use Rattle.quotes.specs.Takes.{may_take}
use Rattle.leg_orders.specs.declared.order.LegOrder.{LegOrder}
use Rattle.leg_orders.specs.Levels.{is_of, own}

abbrev pub fewer : LegOrder → ℕ → LegOrder
fewer order quantity =
    record {
      number = order.number;
      at = order.at;
      price = order.price;
      contracts = order.contracts - quantity;
      customer = order.customer;
    }

abbrev pub used_up : ℕ → Side → ℕ → List LegOrder → List LegOrder
used_up leg side quantity [] = []
used_up leg side quantity (order ∷ orders) =
    cond (is_of leg side order)
    (cond (nat_le order.contracts quantity) (used_up leg side (quantity - order.contracts) orders) (fewer order quantity ∷ orders))
    (order ∷ used_up leg side quantity orders)

abbrev pub orders_left : ℕ → Side → ℕ → List LegOrder → List LegOrder
orders_left leg side quantity orders = cond (may_take (own leg side orders) quantity) (used_up leg side quantity orders) orders
