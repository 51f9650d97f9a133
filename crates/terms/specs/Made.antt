-- Strategies that were made.
--   legs_of       the legs of a strategy
--   answer_legs   what making one answers, with its legs in place of the strategy
use Rattle.std.specs.Prelude.{List, take, Ok, Err, Result}
use Rattle.terms.specs.declared.leg.Leg.{Leg}
use Rattle.terms.specs.declared.refusal.Refusal.{Refusal}
use Rattle.terms.specs.declared.strategy.Strategy.{Strategy}

abbrev pub legs_of : Strategy → List Leg
legs_of s = take s.count s.legs

abbrev pub answer_legs : Result Strategy Refusal → Result (List Leg) Refusal
answer_legs (Ok s) = Ok (legs_of s)
answer_legs (Err refusal) = Err refusal
