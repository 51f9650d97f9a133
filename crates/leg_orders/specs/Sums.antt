-- A level is the sum of the orders at its price, customers' and others' apart.
--   customers_at, others_at            the contracts that levels show at a price
--   customers_ordered, others_ordered  the contracts of the orders that stand on one side of one leg at a price
use Rattle.std.specs.Prelude.{ℕ, ◌+◌, cond, not, ◌&&◌, List, [], ◌∷◌, ◌==◌}
use Rattle.terms.specs.declared.side.Side.{Side}
use Rattle.quotes.specs.declared.level.Level.{Level}
use Rattle.leg_orders.specs.declared.order.LegOrder.{LegOrder}
use Rattle.leg_orders.specs.Levels.{is_of}

abbrev pub customers_at : ℕ → List Level → ℕ
customers_at price [] = 0
customers_at price (level ∷ levels) = cond (level.price == price) level.customer 0 + customers_at price levels

abbrev pub others_at : ℕ → List Level → ℕ
others_at price [] = 0
others_at price (level ∷ levels) = cond (level.price == price) level.other 0 + others_at price levels

abbrev pub customers_ordered : ℕ → Side → ℕ → List LegOrder → ℕ
customers_ordered leg side price [] = 0
customers_ordered leg side price (order ∷ orders) =
    cond (is_of leg side order && (order.price == price && order.customer)) order.contracts 0 + customers_ordered leg side price orders

abbrev pub others_ordered : ℕ → Side → ℕ → List LegOrder → ℕ
others_ordered leg side price [] = 0
others_ordered leg side price (order ∷ orders) =
    cond (is_of leg side order && (order.price == price && not order.customer)) order.contracts 0 + others_ordered leg side price orders
