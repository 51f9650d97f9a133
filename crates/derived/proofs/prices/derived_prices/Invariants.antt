use Rattle.derived.proofs.Legs.{Upto}
use Rattle.derived.proofs.prices.derived_prices.Given as goal

abbrev pub invariant-loop-leg : goal.invariant-loop-leg
invariant-loop-leg g l = Upto (g.M.MarketView.shown l.market) l.leg-items l.leg-index l.tally
