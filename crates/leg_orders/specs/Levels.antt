-- The levels that leg orders make.
--   is_of        the order stands on this side of this leg
--   level_from   the level that an order makes alone
--   plus         two levels of one price in one
--   join         a level with the levels behind it: it is one with the first of them if they have the same price
--   join_if      a level joins if its order is of the side
--   own          the own levels of one side of one leg, of orders in rank: those at one price are neighbours
--   enter        contracts come in at their price: they add to the level there, or make one at its place (enter_if: if they are of the side)
use Rattle.std.specs.Prelude.{ℕ, ◌+◌, Bool, cond, ◌&&◌, List, [], ◌∷◌, ◌==◌}
use Rattle.terms.specs.declared.side.Side.{Side}
use Rattle.terms.specs.Sides.{same_side}
use Rattle.quotes.specs.declared.level.Level.{Level}
use Rattle.quotes.specs.Shown.{better}
use Rattle.leg_orders.specs.declared.order.LegOrder.{LegOrder}

abbrev pub is_of : ℕ → Side → LegOrder → Bool
is_of leg side order = order.at.leg == leg && same_side order.at.side side

abbrev pub level_from : LegOrder → Level
level_from order =
    record {
      price = order.price;
      customer = cond order.customer order.contracts 0;
      other = cond order.customer 0 order.contracts;
    }

abbrev pub plus : Level → Level → Level
plus a b = record { price = a.price; customer = a.customer + b.customer; other = a.other + b.other }

abbrev pub join : Level → List Level → List Level
join level [] = level ∷ []
join level (next ∷ rest) = cond (level.price == next.price) (plus level next ∷ rest) (level ∷ next ∷ rest)

abbrev pub join_if : Bool → Level → List Level → List Level
join_if here level levels = cond here (join level levels) levels

abbrev pub own : ℕ → Side → List LegOrder → List Level
own leg side [] = []
own leg side (order ∷ orders) = join_if (is_of leg side order) (level_from order) (own leg side orders)

abbrev pub enter : Side → Level → List Level → List Level
enter side level [] = level ∷ []
enter side level (next ∷ rest) =
    cond (better side level.price next.price) (level ∷ next ∷ rest)
    (cond (level.price == next.price) (plus level next ∷ rest) (next ∷ enter side level rest))

abbrev pub enter_if : Bool → Side → Level → List Level → List Level
enter_if here side level levels = cond here (enter side level levels) levels
