-- An order that nothing stands against comes in at its rank.
use Rattle.std.proofs.Common.{refl, arith}
use Rattle.ranked.specs.Items.{items, room}
use Rattle.leg_orders.proofs.Calls.{added}
use Rattle.depth_book.specs.Books.{standing}
use Rattle.depth_book.proofs.Held.{held}
use Rattle.depth_book.proofs.book.DepthBook.put_in.Goals as goal

pub invariant_of-self : goal.invariant_of-self
invariant_of-self c =
    let m = c.args.self.now in
    let out = added m.added (room m.orders) (standing m) (items c.insert.new.self) m.away c.args.order c.insert.result c.requires.next (held m) c.requires.fits c.insert.ensures.place c.insert.ensures.list c.insert.new.self.ranked in
    record { some = omega (arith, m.some, c.insert.ensures.room); most = omega (arith, m.most, c.insert.ensures.room); fine = out.kept.fine; numbers = out.kept.numbers; few = out.few; long = m.long; sound = out.kept.sound }

pub returns : goal.returns
returns c =
    let m = c.args.self.now in
    let out = added m.added (room m.orders) (standing m) (items c.insert.new.self) m.away c.args.order c.insert.result c.requires.next (held m) c.requires.fits c.insert.ensures.place c.insert.ensures.list c.insert.new.self.ranked in
    record { orders = out.ranked; added = refl; quotes = out.shows; room = c.insert.ensures.room }
