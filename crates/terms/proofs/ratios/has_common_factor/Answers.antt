use Rattle.std.proofs.Common.{◌≡◌, ◌-◌, sym, arith}
use Rattle.terms.proofs.AllLegs.{decides-divides-all}
use Rattle.terms.proofs.Factors.{decides-factor}
use Rattle.terms.proofs.ratios.has_common_factor.Goals as goal

pub returns-then-divides_all : goal.returns-then-divides_all
returns-then-divides_all c =
    let legs = c.args.legs.now in
    let d = c.loop-divisor.divisor in
    sym ((decides-factor 100 legs).1 (d, omega arith, omega arith, (decides-divides-all d legs).0 (cc)))

pub returns : goal.returns
returns c =
    let last : c.loop-divisor.divisor - 1 ≡ 100 = omega arith in
    sym (rw last at c.loop-divisor.invariant)
