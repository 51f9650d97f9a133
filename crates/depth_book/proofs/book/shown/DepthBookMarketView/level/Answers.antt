-- The level at a place is that many levels behind the best.
use Rattle.std.proofs.Common.{sym, ◌∙◌}
use Rattle.std.proofs.lemmas.Iterator.Adapters.{option_map_id}
use Rattle.std.proofs.lemmas.Iterator.Consumers.{nth_from_yields_List, YieldsList-from_first}
use Rattle.quotes.specs.declared.level.Level.{Level}
use Rattle.depth_book.specs.Levels.{unread_levels}
use Rattle.depth_book.proofs.book.shown.DepthBookMarketView.level.Goals as goal

pub returns : goal.returns
returns c =
    let at = nth_from_yields_List c.nth.result c.nth.new.self _ c.nth.ensures.ran (YieldsList-from_first (λ (x : Level). x) unread_levels _ c.levels.ensures) in
    sym (option_map_id c.nth.result) ∙ at
