-- The orders from where the side begins make its levels.
use Rattle.std.proofs.Common.{◌≡◌, ◌-◌, length, take, drop, sym, ap, ◌∙◌, subst, arith}
use Rattle.std.proofs.lemmas.Grind.{common_steps}
use Rattle.leg_orders.specs.Levels.{own}
use Rattle.leg_orders.specs.Scans.{Scannable}
use Rattle.leg_orders.proofs.Kept.{start-scan, levels-from}
use Rattle.depth_book.specs.Books.{standing}
use Rattle.depth_book.proofs.book.DepthBook.levels.Goals as goal

pub invariant_of-result : goal.invariant_of-result
invariant_of-result c =
    let book = c.args.self.now in
    let start = c.start_of-start.result in
    let xs = c.as_slice.result.now in
    let whole : take (length xs - start) (drop start xs) ≡ drop start (standing book) = grind (arith, common_steps) in
    record { scan = subst (Scannable c.args.at.leg c.args.at.side) (sym whole) (start-scan (standing book) book.away c.args.at.leg c.args.at.side book.orders.ranked book.fine book.sound start c.start_of-start.ensures.place) }

pub returns : goal.returns
returns c =
    let book = c.args.self.now in
    let start = c.start_of-start.result in
    let xs = c.as_slice.result.now in
    let whole : take (length xs - start) (drop start xs) ≡ drop start (standing book) = grind (arith, common_steps) in
    ap (own c.args.at.leg c.args.at.side) whole ∙ levels-from (standing book) c.args.at.leg c.args.at.side book.fine start c.start_of-start.ensures.place
