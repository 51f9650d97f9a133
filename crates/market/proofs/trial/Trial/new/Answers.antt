-- With nothing taken a trial shows all that stands.
use Rattle.std.proofs.Common.{◌≡◌, replicate, sym, subst, rules}
use Rattle.quotes.specs.Trials.{Taken, none_taken, tried}
use Rattle.quotes.proofs.Trials.{tried-new}
use Rattle.market.proofs.trial.Trial.new.Goals as goal

pub returns-clause-quotes : goal.returns-clause-quotes
returns-clause-quotes g c =
    let m = g.M.MarketView in
    let shown = m.shown c.args.below in
    let none : c.default.result ≡ none_taken = search rules in
    λ l s. subst (λ (t : Taken). tried shown (replicate 6 t) l s ≡ shown l s) (sym none) (tried-new m.depth shown (m.sound c.args.below) l s)
