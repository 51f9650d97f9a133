-- There are no more prices than orders.
use Rattle.std.proofs.Common.{arith}
use Rattle.leg_orders.proofs.Runs.{levels-few}
use Rattle.depth_book.proofs.scan.is_crowded.Goals as goal

pub overflow_add-prices : goal.overflow_add-prices
overflow_add-prices c =
    let levels = c.args.levels in
    omega (arith, levels-few levels.at.leg levels.at.side levels.rest.now, c.loop-level.invariant.long)
