-- A take from the first level left adds to the totals what it takes, and the market below stays.
use Rattle.std.proofs.Common.{◌≡◌, Some, refl, arith, rules, subst, Option, length}
use Rattle.quotes.specs.declared.taken.Found.{Found}
use Rattle.quotes.specs.Trials.{Finds}
use Rattle.quotes.proofs.Trials.{take_left}
use Rattle.market.proofs.trial.TrialLegMarket.take.Goals as goal

pub returns : goal.returns
returns g c =
    let m = g.M.MarketView in
    let a = c.args in
    let t = a.self.now in
    let found : c.first_left.result ≡ Some c.in_ok-found.found = grind arith in
    let long : length t.totals ≡ 6 = search rules in
    let finds = subst (λ (o : Option Found). Finds (m.shown t.below a.at.leg a.at.side).own c.total_at-total.result o) found c.first_left.ensures in
    let took = take_left m.depth (m.shown t.below) (m.sound t.below) t.totals c.add_take.new.totals long a.at.leg a.at.side a.quantity c.add_take.result
    c.total_at-total.result c.in_ok-found.found c.total_at-total.ensures finds c.add_take.ensures.answer c.add_take.ensures.after in
    record { answer = took.answer; quotes = took.quotes; below = refl {a = t.below}; totals = took.more }
