use Rattle.std.proofs.Common.{refl}
use Rattle.derived.specs.Derived.{sum_over, customers_behind, units_behind}
use Rattle.derived.proofs.tally.Backing.none.Goals as goal

pub returns-clause-sums : goal.returns-clause-sums
unfolding sum_over customers_behind units_behind
returns-clause-sums c trader = refl
