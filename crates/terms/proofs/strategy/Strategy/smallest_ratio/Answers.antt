use Rattle.std.proofs.Common.{◌≡◌, min, fold, arith, rules}
use Rattle.terms.specs.Made.{legs_of}
use Rattle.terms.specs.Strategies.{smallest_ratio}
use Rattle.terms.proofs.Smallest.{smallest-of, smallest-under-100, fold-smallest}
use Rattle.terms.proofs.strategy.Strategy.smallest_ratio.Goals as goal

pub returns : goal.returns
returns c =
    let legs = legs_of c.args.self.now in
    let folded : c.fold.result ≡ fold (λ least leg. min least leg.ratio) 100 legs = search rules in
    let found : c.fold.result ≡ smallest_ratio legs = omega (arith, folded, fold-smallest 100 legs (omega arith), smallest-under-100 legs) in
    record { value = found; least = rw found (smallest-of legs c.args.self.now.sound) }
