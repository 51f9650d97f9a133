use Rattle.std.proofs.Common.{length}
use Rattle.leg_orders.proofs.Runs.{Running}
use Rattle.depth_book.proofs.scan.SideLevelsIterator.next.Given as goal

abbrev pub invariant-loop-order : goal.invariant-loop-order
invariant-loop-order l = Running l.self.at.leg l.self.at.side l.self.rest.now l.level l.rest

abbrev pub decreases-loop-order : goal.decreases-loop-order
decreases-loop-order l = length l.rest
