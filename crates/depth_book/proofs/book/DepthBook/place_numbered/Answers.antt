-- The order of a number is found, or none has it.
use Rattle.depth_book.specs.Books.{standing}
use Rattle.depth_book.proofs.Finds.{number-place}
use Rattle.depth_book.proofs.book.DepthBook.place_numbered.Goals as goal

pub returns : goal.returns
returns c = number-place c.args.number (standing c.args.self.now) c.find.result c.find.ensures
