-- Memory lent to a depth book.
--   memory_refusal   why memory for so many orders is refused, if it is
--   MemoryLent       the memory given, for 1 to 512 orders, or the refusal
--   Opened           an empty book with room for as many orders as the memory holds
--   Lent             the book, for 1 to 512 orders, or the refusal
use Rattle.std.specs.Prelude.{◌≡◌, ℕ, cond, ◌&&◌, List, [], length, Some, None, Ok, Err, Option, Result, nat_le}
use Rattle.terms.specs.declared.refusal.Refusal.{Refusal}
use Rattle.terms.specs.declared.refusal.Refusal.TheVariants.{LentMemory}
use Rattle.terms.specs.declared.side.Side.{Side}
use Rattle.quotes.specs.Shown.{nothing}
use Rattle.ranked.specs.Items.{room}
use Rattle.leg_orders.specs.declared.order.LegOrder.{LegOrder}
use Rattle.depth_book.specs.declared.book.DepthBook.{DepthBook}
use Rattle.depth_book.specs.declared.memory.OrderMemory.{OrderMemory}
use Rattle.depth_book.specs.Books.{standing, shows}

abbrev pub memory_refusal : ℕ → Option Refusal
memory_refusal orders = cond (nat_le 1 orders && nat_le orders 512) None (Some LentMemory)

abbrev pub MemoryLent : List LegOrder → Result OrderMemory Refusal → Type 0
MemoryLent slots (Ok memory) = (memory_refusal (length slots) ≡ None) × (room memory.orders ≡ length slots)
MemoryLent slots (Err refusal) = memory_refusal (length slots) ≡ Some refusal

pub record Opened (slots : List LegOrder) (book : DepthBook) : Type 0 where
  pub orders : standing book ≡ []
  pub quotes : (l : ℕ) (s : Side) → shows book l s ≡ nothing
  pub room : room book.orders ≡ length slots
  pub added : book.added ≡ 0

abbrev pub Lent : List LegOrder → Result DepthBook Refusal → Type 0
Lent slots (Ok book) = (memory_refusal (length slots) ≡ None) × Opened slots book
Lent slots (Err refusal) = memory_refusal (length slots) ≡ Some refusal
