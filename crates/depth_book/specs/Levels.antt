-- Levels that are still to be read.
--   unread_levels   the own levels that the orders not yet read make
use Rattle.std.specs.Prelude.{List}
use Rattle.quotes.specs.declared.level.Level.{Level}
use Rattle.leg_orders.specs.Levels.{own}
use Rattle.depth_book.specs.declared.side_levels.SideLevels.{SideLevels}

abbrev pub unread_levels : SideLevels → List Level
unread_levels levels = own levels.at.leg levels.at.side levels.rest.now
