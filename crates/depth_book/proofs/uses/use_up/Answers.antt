-- Each order used up leaves the same work on what is left.
use Rattle.std.proofs.Common.{length, sym, ap, ◌∙◌, arith}
use Rattle.std.proofs.lemmas.List.Edits.{length-remove}
use Rattle.std.proofs.lemmas.Option.{slice_get_within}
use Rattle.ranked.specs.Items.{items}
use Rattle.leg_orders.specs.Scans.{used_from}
use Rattle.leg_orders.proofs.UsedFrom.{used-past, used_all, part-replaced}
use Rattle.depth_book.proofs.uses.use_up.Goals as goal

pub returns-then-left-order-clause-list : goal.returns-then-left-order-clause-list
returns-then-left-order-clause-list c =
    part-replaced (items c.loop-order.orders) (items c.replace.new.self) c.args.start c.loop-order.left c.in-Some.order c.with_fewer.result c.replace.result
    c.in-Some.ensures c.if-left-order.true c.with_fewer.ensures c.replace.ensures.answer c.replace.ensures.list
    ∙ c.loop-order.invariant.list

pub loop-order-smaller : goal.loop-order-smaller
loop-order-smaller c =
    let xs = items c.loop-order.orders in
    let within = slice_get_within xs c.args.start c.in-Some.order (sym c.in-Some.ensures) in
    omega (arith, ap length c.remove.ensures.list, length-remove xs c.args.start within)

pub loop-order-preserved : goal.loop-order-preserved
loop-order-preserved c =
    let xs = items c.loop-order.orders in
    let inv = c.loop-order.invariant in
    record {
      room = c.remove.ensures.room ∙ inv.room;
      list = ap (used_from c.args.start _) c.remove.ensures.list ∙ used_all xs c.args.start c.loop-order.left c.in-Some.order c.in-Some.ensures c.if-left-order.false ∙ inv.list;
    }

pub returns-clause-list : goal.returns-clause-list
returns-clause-list c = used-past (items c.loop-order.orders) c.args.start c.loop-order.left c.in_default.ensures ∙ c.loop-order.invariant.list
