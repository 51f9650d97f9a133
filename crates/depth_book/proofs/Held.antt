-- What every depth book keeps.
use Rattle.leg_orders.proofs.Kept.{Kept}
use Rattle.depth_book.specs.declared.book.DepthBook.{DepthBook}
use Rattle.depth_book.specs.Books.{standing}

pub held : (book : DepthBook) → Kept book.added (standing book) book.away
held book = record { ranked = book.orders.ranked; fine = book.fine; numbers = book.numbers; sound = book.sound }
