use Rattle.std.proofs.Common.{◌≡◌, length}
use Rattle.ranked.specs.Items.{items, room}
use Rattle.leg_orders.specs.Scans.{used_from}
use Rattle.depth_book.proofs.uses.use_up.Given as goal

abbrev pub invariant-loop-order : goal.invariant-loop-order
invariant-loop-order l = record {
  room : room l.orders ≡ room l.initial.orders;
  list : used_from l.start l.left (items l.orders) ≡ used_from l.start l.quantity (items l.initial.orders);
}

abbrev pub decreases-loop-order : goal.decreases-loop-order
decreases-loop-order l = length (items l.orders)
