-- Orders from where one side of one leg begins.
--   Scannable        they are in rank, none ranks before that side, and its levels are sound
--   used_from_first  orders used up from the first on, whatever their leg and side
--   used_from        the same from a place on
use Rattle.std.specs.Prelude.{◌≡◌, ℕ, ◌-◌, true, cond, List, [], ◌∷◌, ◌++◌, take, drop, nat_le}
use Rattle.terms.specs.declared.side.Side.{Side}
use Rattle.quotes.specs.Shown.{sound_levels}
use Rattle.ranked.specs.Order.{leads, in_order}
use Rattle.leg_orders.specs.declared.order.LegOrder.{LegOrder}
use Rattle.leg_orders.specs.Ranks.{leg_before, ahead_of}
use Rattle.leg_orders.specs.Levels.{own}
use Rattle.leg_orders.specs.Uses.{fewer}

pub record Scannable (leg : ℕ) (side : Side) (orders : List LegOrder) : Type 0 where
  pub ranked : in_order leg_before orders ≡ true
  pub lead : leads leg_before (ahead_of leg side) orders ≡ true
  pub sound : sound_levels side (own leg side orders) ≡ true

abbrev pub used_from_first : ℕ → List LegOrder → List LegOrder
used_from_first quantity [] = []
used_from_first quantity (order ∷ orders) = cond (nat_le order.contracts quantity) (used_from_first (quantity - order.contracts) orders) (fewer order quantity ∷ orders)

abbrev pub used_from : ℕ → ℕ → List LegOrder → List LegOrder
used_from place quantity orders = take place orders ++ used_from_first quantity (drop place orders)
