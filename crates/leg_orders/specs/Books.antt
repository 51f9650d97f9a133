-- The quotes that leg orders and away prices make, and the rules that the orders of a book keep.
--   AwayPrices             the away prices of a leg
--   no_away                no away price on either side
--   away_prices            the away prices after one was set: 0 clears it
--   book_shown             what a book of these orders and away prices shows
--   may_stand              an order that may stand: leg, price and contracts within their ranges
--   fine_orders            each order may stand
--   has_number             an order of this number stands
--   is_given               a number from 1 to the last one given
--   numbers_kept           each number was given, and none stands twice
--   SoundBook              what the book shows is sound on each leg
use Rattle.std.specs.Prelude.{◌≡◌, ℕ, Bool, true, false, not, ◌&&◌, ◌||◌, List, [], ◌∷◌, None, Option, ◌==◌, nat_le, nat_lt, slice_index_or, slice_set}
use Rattle.terms.specs.declared.side.Side.{Side}
use Rattle.terms.specs.declared.side.BySide.{BySide}
use Rattle.terms.specs.Refusals.{unless_refused}
use Rattle.terms.specs.Sides.{of_side, with_on}
use Rattle.quotes.specs.Shown.{Shown, sound_leg, sound_level}
use Rattle.quotes.specs.Sheets.{away_given, away_refusal}
use Rattle.leg_orders.specs.declared.order.LegOrder.{LegOrder}
use Rattle.leg_orders.specs.Levels.{level_from, own}

abbrev pub AwayPrices : Type 0
AwayPrices = BySide (Option ℕ)

abbrev pub no_away : AwayPrices
no_away = record { bid = None; offer = None }

abbrev pub book_shown : List LegOrder → List AwayPrices → Shown
book_shown orders away leg side = record { own = own leg side orders; away = of_side (slice_index_or away leg no_away) side }

-- the away prices of a book after one was set
abbrev pub away_prices : List AwayPrices → ℕ → Side → ℕ → List AwayPrices
away_prices away leg side price =
    unless_refused (away_refusal leg price) (slice_set away leg (with_on (slice_index_or away leg no_away) side (away_given price))) away

abbrev pub SoundBook : List LegOrder → List AwayPrices → Type 0
SoundBook orders away = (leg : ℕ) → sound_leg 16 (book_shown orders away leg) ≡ true

-- its contracts alone make a sound level
abbrev pub may_stand : LegOrder → Bool
may_stand order = nat_lt order.at.leg 6 && sound_level (level_from order)

abbrev pub fine_orders : List LegOrder → Bool
fine_orders [] = true
fine_orders (order ∷ orders) = may_stand order && fine_orders orders

abbrev pub has_number : ℕ → List LegOrder → Bool
has_number number [] = false
has_number number (order ∷ orders) = order.number == number || has_number number orders

abbrev pub is_given : ℕ → ℕ → Bool
is_given last number = nat_le 1 number && nat_le number last

abbrev pub numbers_kept : ℕ → List LegOrder → Bool
numbers_kept last [] = true
numbers_kept last (order ∷ orders) = is_given last order.number && (not (has_number order.number orders) && numbers_kept last orders)
