-- One away price changes, and the orders stay.
use Rattle.leg_orders.proofs.Calls.{away-put}
use Rattle.depth_book.specs.Books.{standing}
use Rattle.depth_book.proofs.book.DepthBook.set_away.Goals as goal

pub invariant_of-self : goal.invariant_of-self
invariant_of-self c =
    let m = c.args.self.now in
    let a = c.args in
    let put = away-put (standing m) m.away c.put_away.new.away a.at.leg a.at.side a.price m.long m.sound c.put_away.ensures.after in
    record { some = m.some; most = m.most; fine = m.fine; numbers = m.numbers; few = m.few; long = put.long; sound = put.sound }
