-- No place past the depth shows a level; the places after the first level left are those below, counted on from it.
use Rattle.std.proofs.Common.{◌≤◌, length, arith}
use Rattle.quotes.proofs.Trials.{side-length}
use Rattle.quotes.proofs.Walks.{nth-behind, nth-short}
use Rattle.market.proofs.trial_levels.level_left.Goals as goal

pub returns-then-place-max_levels : goal.returns-then-place-max_levels
returns-then-place-max_levels g c =
    let m = g.M.MarketView in
    let a = c.args in
    let shown = m.shown a.below.now in
    let own = (shown a.at.leg a.at.side).own in
    let short : length own ≤ a.place = omega (arith, side-length m.depth shown (m.sound a.below.now) a.at.leg a.at.side, c.max_levels.ensures, c.if-place-max_levels.true) in
    nth-short own a.total a.place short

pub returns : goal.returns
returns g c =
    let a = c.args in
    let own = (g.M.MarketView.shown a.below.now a.at.leg a.at.side).own in
    nth-behind own a.total c.in_ok-found.found a.place c.level.result c.in_ok-found.ensures c.if-place-eq0.false c.level.ensures
