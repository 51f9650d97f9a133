-- What a sound market shows at the top of a leg is sound.
use Rattle.derived.proofs.Bounds.{read-sound}
use Rattle.derived.proofs.used.ShownTop.read.Goals as goal

pub invariant_of-result : goal.invariant_of-result
invariant_of-result g c =
    let m = g.M.MarketView in
    let q = m.shown c.args.market.now c.args.leg in
    record {
      sound = read-sound m.depth q c.level.result c.level-2.result c.away.result c.away-2.result ((m.sound c.args.market.now).legs c.args.leg)
          (rw c.bid.ensures at c.level.ensures) (rw c.offer.ensures at c.level-2.ensures) (rw c.bid-2.ensures at c.away.ensures) (rw c.offer-2.ensures at c.away-2.ensures);
    }
