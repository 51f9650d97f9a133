-- The prices read so far are others, and they are counted.
use Rattle.std.proofs.Common.{◌≡◌, ◌+◌, length}
use Rattle.leg_orders.specs.Adds.{has_price, contracts_at}
use Rattle.depth_book.specs.Levels.{unread_levels}
use Rattle.depth_book.proofs.scan.is_crowded.Given as goal

abbrev pub invariant-loop-level : goal.invariant-loop-level
invariant-loop-level l =
    let all = unread_levels l.fn.levels in
    let rest = unread_levels l.level-iterator in
    record {
      has : has_price l.price all ≡ has_price l.price rest;
      many : contracts_at l.price all ≡ contracts_at l.price rest;
      long : length all ≡ l.prices + length rest;
    }
