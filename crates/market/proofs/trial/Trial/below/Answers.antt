-- What is left is what stood less what was taken.
use Rattle.std.proofs.Common.{refl}
use Rattle.quotes.specs.Trials.{taken_at}
use Rattle.quotes.proofs.LessTaken.{less-held}
use Rattle.market.proofs.trial.Trial.below.Goals as goal

pub returns : goal.returns
returns g c =
    let trial = c.args.self.now in
    record { below = refl; held = λ l s. less-held (g.M.MarketView.shown trial.below l s).own (taken_at trial.totals l s) }
