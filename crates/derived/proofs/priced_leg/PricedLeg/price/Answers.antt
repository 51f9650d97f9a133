-- Either used price is small.
use Rattle.derived.proofs.Bounds.{pair-within}
use Rattle.derived.proofs.priced_leg.PricedLeg.price.Goals as goal

pub returns-clause-most : goal.returns-clause-most
returns-clause-most c =
    let p = c.self.inside in
    rw c.on.ensures (pair-within p.top.top p.used _ p.top.sound c.self.invariant.bid c.self.invariant.offer)
