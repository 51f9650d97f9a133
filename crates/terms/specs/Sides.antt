-- Sides.
--   opposite          the other side
--   same_side         whether two sides are one
--   side_text         how a side is written
--   leg_side_text     how a side of a leg is written (quote_text, of its quotes)
--   bid_of, offer_of  a leg's side of bids, and of offers
--   facing_side       the other side of the same leg
--   of_side           what there is on one side
--   with_on           the pair with something else on one side
use Rattle.std.specs.Prelude.{ℕ, Bool, true, false, List, ◌++◌, codes, decimal}
use Rattle.terms.specs.declared.side.Side.{Side}
use Rattle.terms.specs.declared.side.Side.TheVariants.{Buy, Sell}
use Rattle.terms.specs.declared.side.LegSide.{LegSide}
use Rattle.terms.specs.declared.side.BySide.{BySide}

abbrev pub opposite : Side → Side
opposite Buy = Sell
opposite Sell = Buy

abbrev pub same_side : Side → Side → Bool
same_side Buy Buy = true
same_side Buy Sell = false
same_side Sell Buy = false
same_side Sell Sell = true

abbrev pub side_text : Side → List ℕ
side_text Buy = codes "buy"
side_text Sell = codes "sell"

abbrev pub quote_text : Side → List ℕ
quote_text Buy = codes " bid"
quote_text Sell = codes " offer"

-- ---- a side of a leg

abbrev pub bid_of : ℕ → LegSide
bid_of leg = record { leg = leg; side = Buy }

abbrev pub offer_of : ℕ → LegSide
offer_of leg = record { leg = leg; side = Sell }

abbrev pub facing_side : LegSide → LegSide
facing_side at = record { leg = at.leg; side = opposite at.side }

abbrev pub leg_side_text : LegSide → List ℕ
leg_side_text at = codes "leg " ++ (decimal at.leg ++ quote_text at.side)

-- ---- something on each side

module _ {T : Type 0} where
  abbrev pub of_side : BySide T → Side → T
  of_side pair Buy = pair.bid
  of_side pair Sell = pair.offer

  abbrev pub with_on : BySide T → Side → T → BySide T
  with_on pair Buy value = record { bid = value; offer = pair.offer }
  with_on pair Sell value = record { bid = pair.bid; offer = value }
