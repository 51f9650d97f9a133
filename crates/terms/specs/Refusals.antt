-- Refusals.
--   refusal_number  the number of each, as the table in docs/RULES.md has it
--   refusal_text    how a refusal is written
--   answered        what a call answers: the refusal, or its value
--   unless_refused  what a call leaves: the old where it is refused, else the new
use Rattle.std.specs.Prelude.{ℕ, List, ◌++◌, codes, decimal, Option, Some, None, Result, Ok, Err}
use Rattle.terms.specs.declared.refusal.Refusal.{Refusal}
use Rattle.terms.specs.declared.refusal.Refusal.TheVariants.{LegCount, Ratios, LentMemory, SessionState, LimitOrSize, NotStanding, TapeRoom, OrderRoom, CannotOpen, WrongSlip, QuoteRange, QuoteCrosses, BookRoom, NoLegOrder, CannotTake}

abbrev pub refusal_number : Refusal → ℕ
refusal_number LegCount = 1
refusal_number Ratios = 2
refusal_number LentMemory = 3
refusal_number SessionState = 4
refusal_number LimitOrSize = 5
refusal_number NotStanding = 6
refusal_number TapeRoom = 7
refusal_number OrderRoom = 8
refusal_number CannotOpen = 9
refusal_number WrongSlip = 10
refusal_number QuoteRange = 11
refusal_number QuoteCrosses = 12
refusal_number BookRoom = 13
refusal_number NoLegOrder = 14
refusal_number CannotTake = 15

abbrev pub refusal_text : Refusal → List ℕ
refusal_text refusal = codes "refused with " ++ decimal (refusal_number refusal)

abbrev pub answered : {X : Type 0} → Option Refusal → X → Result X Refusal
answered None value = Ok value
answered (Some refusal) value = Err refusal

abbrev pub unless_refused : {X : Type 0} → Option Refusal → X → X → X
unless_refused None new old = new
unless_refused (Some refusal) new old = old
