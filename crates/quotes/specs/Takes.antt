-- What taking from a leg market does.
--   best          the first level of a list
--   may_take      the quantity is at least 1 and no more than the best level holds
--   lessened      a level with that many contracts fewer, customers' contracts going first
--   levels_left   the levels after a take: an empty level leaves; where it is refused, all stay (less_best, where it is not)
--   replaced      the quotes with others on one side of one leg
--   taken         the quotes after a take: nothing else moves
--   take_answer   what a take answers
--   level_left    what is left of one level, if anything
--   level_taken   what a take from one level answers
use Rattle.std.specs.Prelude.{ℕ, ◌-◌, Bool, false, cond, ◌&&◌, List, [], ◌∷◌, Some, None, Ok, Err, Option, Result, ◌==◌, nat_le, nat_lt}
use Rattle.std.specs.List.{slice_get}
use Rattle.terms.specs.declared.refusal.Refusal.{Refusal}
use Rattle.terms.specs.declared.refusal.Refusal.TheVariants.{CannotTake}
use Rattle.terms.specs.declared.side.Side.{Side}
use Rattle.terms.specs.Sides.{same_side}
use Rattle.quotes.specs.declared.level.Level.{Level}
use Rattle.quotes.specs.Shown.{SideQuotes, Shown, contracts}

abbrev pub best : List Level → Option Level
best levels = slice_get levels 0

abbrev pub may_take : List Level → ℕ → Bool
may_take [] quantity = false
may_take (level ∷ levels) quantity = nat_le 1 quantity && nat_le quantity (contracts level)

abbrev pub lessened : Level → ℕ → Level
lessened level quantity =
    record {
      price = level.price;
      customer = level.customer - quantity;
      other = level.other - (quantity - level.customer);
    }

abbrev pub less_best : List Level → ℕ → List Level
less_best [] quantity = []
less_best (level ∷ levels) quantity = cond (nat_lt quantity (contracts level)) (lessened level quantity ∷ levels) levels

abbrev pub levels_left : List Level → ℕ → List Level
levels_left levels quantity = cond (may_take levels quantity) (less_best levels quantity) levels

-- other quotes on one side of one leg
abbrev pub replaced : Shown → ℕ → Side → SideQuotes → Shown
replaced shown leg side q l s = cond (l == leg && same_side s side) q (shown l s)

abbrev pub taken : Shown → ℕ → Side → ℕ → Shown
taken shown leg side quantity =
    replaced shown leg side (record { own = levels_left (shown leg side).own quantity; away = (shown leg side).away })

abbrev pub take_answer : List Level → ℕ → Result (Unit {0}) Refusal
take_answer levels quantity = cond (may_take levels quantity) (Ok tt) (Err CannotTake)

-- ---- one level alone

abbrev pub level_left : Level → ℕ → Option Level
level_left level quantity = cond (nat_lt quantity (contracts level)) (Some (lessened level quantity)) None

abbrev pub level_taken : Level → ℕ → Result (Option Level) Refusal
level_taken level quantity = cond (may_take (level ∷ []) quantity) (Ok (level_left level quantity)) (Err CannotTake)
