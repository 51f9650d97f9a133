use Rattle.terms.specs.declared.side.Side.TheVariants.{Buy, Sell}
use Rattle.derived.specs.Derived.{none_crossed}
use Rattle.derived.proofs.tally.Tally.new.Goals as goal

pub returns : goal.returns
unfolding none_crossed
returns c = rw (c.none.ensures.sums Buy, c.none-2.ensures.sums Sell)
