-- The levels walked so far are all taken.
use Rattle.quotes.proofs.Walks.{Walked}
use Rattle.market.proofs.trial_levels.first_left.Given as goal

abbrev pub invariant-loop-place : goal.invariant-loop-place
invariant-loop-place g l = Walked (g.M.MarketView.shown l.below l.at.leg l.at.side).own l.total l.place l.more
