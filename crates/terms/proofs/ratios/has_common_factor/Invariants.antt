-- No number below the divisor divides all ratios.
use Rattle.std.proofs.Common.{◌≡◌, ◌-◌, false}
use Rattle.terms.specs.Strategies.{common_factor}
use Rattle.terms.proofs.ratios.has_common_factor.Given as goal

abbrev pub invariant-loop-divisor : goal.invariant-loop-divisor
invariant-loop-divisor l = common_factor (l.divisor - 1) l.legs ≡ false
