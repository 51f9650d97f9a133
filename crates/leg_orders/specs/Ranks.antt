-- How leg orders rank.
--   sooner         of two orders at one price: customers first, then the lower number (sooner_of, by what they have)
--   better_placed  of two orders of one leg: bids first, then the better price, then the sooner (placed_of)
--   leg_before     the lower leg first, then the better placed
--   blank_order    no order: what memory is filled with
--   best_possible  a price better than any that may stand
--   ahead_of       a mark ahead of every order that may stand on one side of one leg
use Rattle.std.specs.Prelude.{ℕ, Bool, true, false, cond, ◌==◌, nat_lt}
use Rattle.terms.specs.declared.side.Side.{Side}
use Rattle.terms.specs.declared.side.Side.TheVariants.{Buy, Sell}
use Rattle.quotes.specs.Shown.{better}
use Rattle.leg_orders.specs.declared.order.LegOrder.{LegOrder}

abbrev pub sooner_of : Bool → ℕ → Bool → ℕ → Bool
sooner_of true m true n = nat_lt m n
sooner_of true m false n = true
sooner_of false m true n = false
sooner_of false m false n = nat_lt m n

abbrev pub sooner : LegOrder → LegOrder → Bool
sooner a b = sooner_of a.customer a.number b.customer b.number

abbrev pub placed_of : Side → ℕ → Side → ℕ → Bool → Bool
placed_of Buy p Sell q tie = true
placed_of Sell p Buy q tie = false
placed_of Buy p Buy q tie = cond (p == q) tie (better Buy p q)
placed_of Sell p Sell q tie = cond (p == q) tie (better Sell p q)

abbrev pub better_placed : LegOrder → LegOrder → Bool
better_placed a b = placed_of a.at.side a.price b.at.side b.price (sooner a b)

abbrev pub leg_before : LegOrder → LegOrder → Bool
leg_before a b = cond (a.at.leg == b.at.leg) (better_placed a b) (nat_lt a.at.leg b.at.leg)

-- a price better than all that may stand
abbrev pub best_possible : Side → ℕ
best_possible Buy = 1000001
best_possible Sell = 0

abbrev pub ahead_of : ℕ → Side → LegOrder
ahead_of leg side = record { number = 0; at = record { leg = leg; side = side }; price = best_possible side; contracts = 0; customer = true }

abbrev pub blank_order : LegOrder
blank_order = record { number = 0; at = record { leg = 0; side = Buy }; price = 0; contracts = 0; customer = false }
