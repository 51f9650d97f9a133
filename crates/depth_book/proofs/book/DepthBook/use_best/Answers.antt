-- The orders used up from where the side begins leave what a take defines.
use Rattle.std.proofs.Common.{refl, arith}
use Rattle.ranked.specs.Items.{items}
use Rattle.leg_orders.proofs.Calls.{took}
use Rattle.depth_book.specs.Books.{standing}
use Rattle.depth_book.proofs.Held.{held}
use Rattle.depth_book.proofs.book.DepthBook.use_best.Goals as goal

pub invariant_of-self : goal.invariant_of-self
invariant_of-self c =
    let m = c.args.self.now in
    let a = c.args in
    let out = took m.added (standing m) (items c.use_up.new.orders) m.away a.at.leg a.at.side a.quantity c.start_of-start.result (held m) c.requires c.start_of-start.ensures.place c.use_up.ensures.list c.use_up.new.orders.ranked in
    record { some = omega (arith, m.some, c.use_up.ensures.room); most = omega (arith, m.most, c.use_up.ensures.room); fine = out.kept.fine; numbers = out.kept.numbers; few = m.few; long = m.long; sound = out.kept.sound }

pub returns : goal.returns
returns c =
    let m = c.args.self.now in
    let a = c.args in
    let out = took m.added (standing m) (items c.use_up.new.orders) m.away a.at.leg a.at.side a.quantity c.start_of-start.result (held m) c.requires c.start_of-start.ensures.place c.use_up.ensures.list c.use_up.new.orders.ranked in
    record { orders = out.rest; added = refl; quotes = out.shows; room = c.use_up.ensures.room }
