-- What withdrawing a leg order does.
--   order_numbered     the order of this number, if it stands
--   withdraw_refusal   why a withdrawal is refused, if it is
--   without            the orders without the one of this number
--   less               a level less another of the same price
--   leave              contracts leave the level of their price, and it goes with the last of them
--   left, left_if      the quotes without an order's contracts
use Rattle.std.specs.Prelude.{ℕ, ◌-◌, cond, List, [], ◌∷◌, Some, None, Option, ◌==◌}
use Rattle.terms.specs.declared.refusal.Refusal.{Refusal}
use Rattle.terms.specs.declared.refusal.Refusal.TheVariants.{NoLegOrder}
use Rattle.quotes.specs.declared.level.Level.{Level}
use Rattle.quotes.specs.Shown.{Shown, contracts}
use Rattle.quotes.specs.Takes.{replaced}
use Rattle.leg_orders.specs.declared.order.LegOrder.{LegOrder}
use Rattle.leg_orders.specs.Levels.{level_from}
use Rattle.leg_orders.specs.Books.{has_number}

abbrev pub order_numbered : ℕ → List LegOrder → Option LegOrder
order_numbered number [] = None
order_numbered number (order ∷ orders) = cond (order.number == number) (Some order) (order_numbered number orders)

abbrev pub withdraw_refusal : ℕ → List LegOrder → Option Refusal
withdraw_refusal number orders = cond (has_number number orders) None (Some NoLegOrder)

abbrev pub without : ℕ → List LegOrder → List LegOrder
without number [] = []
without number (order ∷ orders) = cond (order.number == number) orders (order ∷ without number orders)

abbrev pub less : Level → Level → Level
less a b = record { price = a.price; customer = a.customer - b.customer; other = a.other - b.other }

abbrev pub leave : Level → List Level → List Level
leave level [] = []
leave level (next ∷ rest) =
    cond (next.price == level.price)
    (cond (contracts next == contracts level) rest (less next level ∷ rest))
    (next ∷ leave level rest)

abbrev pub left : Shown → LegOrder → Shown
left shown order =
    replaced shown order.at.leg order.at.side
    (record {
      own = leave (level_from order) (shown order.at.leg order.at.side).own;
      away = (shown order.at.leg order.at.side).away;
    })

abbrev pub left_if : Option LegOrder → Shown → Shown
left_if None shown = shown
left_if (Some order) shown = left shown order
