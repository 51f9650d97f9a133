-- Neighbours joined add up.
use Rattle.leg_orders.proofs.Sums.{customers-add-up, others-add-up}
use Rattle.depth_book.specs.Books.{standing}
use Rattle.depth_book.proofs.book.DepthBook.levels_add_up.Goals as goal

pub returns : goal.returns
returns c =
    let orders = standing c.args.self.now in
    record { customers = λ l s price. customers-add-up l s price orders; others = λ l s price. others-add-up l s price orders }
