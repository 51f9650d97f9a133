-- The tally of the first legs grows to that of all, unless a leg has no used prices.
use Rattle.std.proofs.Common.{◌≡◌, ◌≤◌, List, length, Some, sym, ap, ◌∙◌, arith}
use Rattle.terms.specs.declared.leg.Leg.{Leg}
use Rattle.terms.specs.Made.{legs_of}
use Rattle.terms.specs.Strategies.{smallest_ratio}
use Rattle.terms.proofs.SoundLegs.{sound-count}
use Rattle.derived.specs.Derived.{derived_of}
use Rattle.derived.proofs.Leasts.{least-units}
use Rattle.derived.proofs.Legs.{good-leg, upto-start, next-leg, upto-more, no-derived, upto_all}
use Rattle.derived.proofs.prices.derived_prices.Goals as goal

pub loop-leg-init : goal.loop-leg-init
loop-leg-init g c = upto-start (g.M.MarketView.shown c.args.market.now) c.legs-leg-items.result.now c.new-tally.result c.new-tally.ensures

pub read-requires : goal.read-requires
read-requires g c = good-leg c.legs-leg-items.result.now c.loop-leg.leg-index _ c.legs-leg-items.ensures.sound c.loop-leg-test.true

pub returns-in_err-priced-clause-value : goal.returns-in_err-priced-clause-value
returns-in_err-priced-clause-value g c =
    let shown = g.M.MarketView.shown c.args.market.now in
    let legs = c.legs-leg-items.result.now in
    let i = c.loop-leg.leg-index in
    let read = next-leg shown legs i c.legs.result _ c.loop-leg.tally c.read.result c.loop-leg-test.true c.loop-leg.invariant c.legs.ensures c.read.ensures in
    c.from_residual.ensures
    ∙ no-derived shown legs i _ c.loop-leg-test.true (sym c.in_err-priced.was ∙ read)
    ∙ ap (λ (legs : List Leg). derived_of shown legs) c.legs-leg-items.ensures.value

pub loop-leg-preserved : goal.loop-leg-preserved
loop-leg-preserved g c =
    upto-more (g.M.MarketView.shown c.args.market.now) c.legs-leg-items.result.now c.loop-leg.leg-index c.legs.result _ c.loop-leg.tally c.with-tally.result c.read.result c.in_ok-priced.priced
    c.loop-leg-test.true c.loop-leg.invariant c.legs.ensures c.read.ensures c.in_ok-priced.was c.with-tally.ensures

pub returns : goal.returns
returns g c =
    let shown = g.M.MarketView.shown c.args.market.now in
    let legs = c.legs-leg-items.result.now in
    let smallest : c.smallest_ratio.result ≡ smallest_ratio legs = c.smallest_ratio.ensures.value ∙ ap smallest_ratio (sym c.legs-leg-items.ensures.value) in
    let value = upto_all shown legs c.loop-leg.leg-index c.loop-leg.tally c.smallest_ratio.result c.derived.result c.loop-leg-test.false smallest c.derived.ensures c.loop-leg.invariant ∙ ap (λ (ls : List Leg). derived_of shown ls) c.legs-leg-items.ensures.value in
    let s = c.args.strategy.now in
    let some : 1 ≤ length (legs_of s) = omega (arith, (sound-count (legs_of s) s.sound).0) in
    record { value = value; least = least-units g.M.MarketView.depth shown (legs_of s) (Some c.derived.result) (g.M.MarketView.sound c.args.market.now).legs some value }
