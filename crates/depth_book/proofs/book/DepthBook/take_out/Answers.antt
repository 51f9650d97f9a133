-- The order found goes out.
use Rattle.std.proofs.Common.{refl, arith}
use Rattle.ranked.specs.Items.{items}
use Rattle.leg_orders.specs.Ranks.{blank_order}
use Rattle.leg_orders.proofs.Calls.{withdrawn}
use Rattle.depth_book.specs.Books.{standing}
use Rattle.depth_book.proofs.Held.{held}
use Rattle.depth_book.proofs.book.DepthBook.take_out.Goals as goal

pub invariant_of-self : goal.invariant_of-self
invariant_of-self c =
    let m = c.args.self.now in
    let out = withdrawn m.added (standing m) (items c.remove.new.self) m.away c.args.number c.args.place blank_order (held m) c.requires c.remove.ensures.list c.remove.new.self.ranked in
    record { some = omega (arith, m.some, c.remove.ensures.room); most = omega (arith, m.most, c.remove.ensures.room); fine = out.kept.fine; numbers = out.kept.numbers; few = m.few; long = m.long; sound = out.kept.sound }

pub returns : goal.returns
returns c =
    let m = c.args.self.now in
    let out = withdrawn m.added (standing m) (items c.remove.new.self) m.away c.args.number c.args.place blank_order (held m) c.requires c.remove.ensures.list c.remove.new.self.ranked in
    record { orders = out.rest; added = refl; quotes = out.shows; room = c.remove.ensures.room }
