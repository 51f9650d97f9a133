-- What setting a quote does.
--   shown_of        what a quote sheet of these legs shows
--   sound_tops      each leg of the sheet is sound at depth 1
--   level_given, away_given       a level without contracts is none, and so is an away price of 0
--   would_reach     an own level at this price would reach the best own level of the other side
--   own_refusal     why an own level is refused, if it is (level_refusal, on a leg that the sheet has)
--   own_set         the quotes after an own level was set: both contract counts 0 clear it
--   away_refusal    why an away price is refused, if it is
--   away_set        the quotes after an away price was set: price 0 clears it
--   own_put, away_put, take_put    the legs of a sheet after a level or a price was set, or contracts were taken
--   own_left        what a take leaves of the only own level
use Rattle.std.specs.Prelude.{ℕ, Bool, true, false, cond, ◌&&◌, List, [], ◌∷◌, Some, None, Option, ◌==◌, nat_le, nat_lt, slice_index_or, slice_set}
use Rattle.terms.specs.declared.refusal.Refusal.{Refusal}
use Rattle.terms.specs.declared.refusal.Refusal.TheVariants.{QuoteRange, QuoteCrosses}
use Rattle.terms.specs.declared.side.Side.{Side}
use Rattle.terms.specs.declared.side.Side.TheVariants.{Buy, Sell}
use Rattle.terms.specs.Refusals.{unless_refused}
use Rattle.terms.specs.Sides.{opposite}
use Rattle.quotes.specs.declared.level.Level.{Level}
use Rattle.quotes.specs.declared.top.LegTop.{LegTop}
use Rattle.quotes.specs.Shown.{Shown, contracts, sound_level, sound_leg, sound_away}
use Rattle.quotes.specs.Takes.{replaced, may_take, level_left}
use Rattle.quotes.specs.Tops.{no_top, quotes_of, list_of, own_of, with_own, with_away}

abbrev pub shown_of : List LegTop → Shown
shown_of tops leg = quotes_of (slice_index_or tops leg no_top)

-- every leg of the sheet is sound at depth 1
abbrev pub sound_tops : List LegTop → Bool
sound_tops [] = true
sound_tops (top ∷ tops) = sound_leg 1 (quotes_of top) && sound_tops tops

-- ---- own levels

abbrev pub would_reach : Side → ℕ → List Level → Bool
would_reach side price [] = false
would_reach Buy price (offer ∷ offers) = nat_le offer.price price
would_reach Sell price (bid ∷ bids) = nat_le price bid.price

-- none where there are no contracts
abbrev pub level_given : Level → Option Level
level_given level = cond (contracts level == 0) None (Some level)

abbrev pub level_refusal : Side → Level → List Level → Option Refusal
level_refusal side level facing =
    cond (contracts level == 0) None
    (cond (sound_level level) (cond (would_reach side level.price facing) (Some QuoteCrosses) None) (Some QuoteRange))

abbrev pub own_refusal : Shown → ℕ → Side → Level → Option Refusal
own_refusal shown leg side level =
    cond (nat_lt leg 6) (level_refusal side level (shown leg (opposite side)).own) (Some QuoteRange)

abbrev pub own_set : Shown → ℕ → Side → Level → Shown
own_set shown leg side level =
    replaced shown leg side
    (unless_refused (own_refusal shown leg side level)
    (record { own = list_of (level_given level); away = (shown leg side).away })
    (shown leg side))

-- the legs of a sheet after an own level was set
abbrev pub own_put : List LegTop → ℕ → Side → Level → List LegTop
own_put tops leg side level =
    unless_refused (own_refusal (shown_of tops) leg side level)
    (slice_set tops leg (with_own (slice_index_or tops leg no_top) side (level_given level)))
    tops

-- ---- away prices

abbrev pub away_given : ℕ → Option ℕ
away_given price = cond (price == 0) None (Some price)

abbrev pub away_refusal : ℕ → ℕ → Option Refusal
away_refusal leg price = cond (nat_lt leg 6 && sound_away (away_given price)) None (Some QuoteRange)

abbrev pub away_set : Shown → ℕ → Side → ℕ → Shown
away_set shown leg side price =
    replaced shown leg side
    (unless_refused (away_refusal leg price)
    (record { own = (shown leg side).own; away = away_given price })
    (shown leg side))

abbrev pub away_put : List LegTop → ℕ → Side → ℕ → List LegTop
away_put tops leg side price =
    unless_refused (away_refusal leg price)
    (slice_set tops leg (with_away (slice_index_or tops leg no_top) side (away_given price)))
    tops

-- ---- takes

-- what is left of the only own level
abbrev pub own_left : Option Level → ℕ → Option Level
own_left None quantity = None
own_left (Some level) quantity = level_left level quantity

abbrev pub take_put : List LegTop → ℕ → Side → ℕ → List LegTop
take_put tops leg side quantity =
    cond (may_take (shown_of tops leg side).own quantity)
    (slice_set tops leg (with_own (slice_index_or tops leg no_top) side (own_left (own_of (slice_index_or tops leg no_top) side) quantity)))
    tops
