-- Each level that is all taken is left behind, and no list is longer than the walk.
use Rattle.std.proofs.Common.{◌<◌, arith}
use Rattle.quotes.proofs.Trials.{side-levels}
use Rattle.quotes.proofs.Walks.{walk-on, walk-found, walk-short}
use Rattle.market.proofs.trial_levels.first_left.Goals as goal

pub returns-in_err-level : goal.returns-in_err-level
returns-in_err-level g c =
    let own = (g.M.MarketView.shown c.args.below.now c.args.at.leg c.args.at.side).own in
    rw c.from_residual.ensures (walk-short own c.args.total c.loop-place.place c.loop-place.more c.loop-place.invariant c.in_err-level.ensures)

pub returns-in-Some : goal.returns-in-Some
returns-in-Some g c =
    let m = g.M.MarketView in
    let a = c.args in
    let shown = m.shown a.below.now in
    let levels = side-levels m.depth shown (m.sound a.below.now) a.at.leg a.at.side in
    let near : c.loop-place.place < 16 = omega (arith, c.loop-place-test.true, c.max_levels-place-end.ensures, m.deep.1) in
    walk-found a.at.side (shown a.at.leg a.at.side).own a.total c.loop-place.place c.loop-place.more c.in_ok-level.level c.in-Some.left
    levels c.loop-place.invariant near c.in_ok-level.ensures c.in-Some.ensures

pub loop-place-preserved : goal.loop-place-preserved
loop-place-preserved g c =
    let m = g.M.MarketView in
    let a = c.args in
    let shown = m.shown a.below.now in
    let levels = side-levels m.depth shown (m.sound a.below.now) a.at.leg a.at.side in
    walk-on a.at.side (shown a.at.leg a.at.side).own a.total c.loop-place.place c.loop-place.more c.in_ok-level.level
    levels c.loop-place.invariant c.in_ok-level.ensures c.in_default.ensures
