-- Six legs aside, legs on both sides do not count; a sound strategy has at least two legs.
use Rattle.std.proofs.Common.{◌≡◌, false, eqb, leb, List, length, arith}
use Rattle.std.proofs.lemmas.Bool.{and_right, ne_eqb, or_from}
use Rattle.terms.specs.declared.leg.Leg.{Leg}
use Rattle.terms.specs.declared.side.Side.TheVariants.{Buy, Sell}
use Rattle.terms.specs.Strategies.{all_on_side, on_one_side, of_one_kind, every_eco_complex_only}
use Rattle.terms.proofs.strategy.Strategy.counts_complex_only.Goals as goal

not-on-both-sides : (legs : List Leg) → (length legs ≡ 6 → ⊥) →
    all_on_side Buy legs ≡ false → all_on_side Sell legs ≡ false → every_eco_complex_only legs ≡ false
not-on-both-sides legs six buy sell =
    let both : on_one_side legs ≡ false = or_from _ _ buy sell in
    or_from _ _ (ne_eqb _ _ six)
    (or_from _ _ (and_right (eqb (length legs) 2) _ (and_right (of_one_kind legs) _ both))
    (and_right (leb 3 (length legs)) _ both))

pub returns-then-not-all_on_side-2 : goal.returns-then-not-all_on_side-2
returns-then-not-all_on_side-2 c = grind (arith, not-on-both-sides)
