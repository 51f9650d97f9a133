-- What a depth book holds and shows.
--   standing       its orders, in rank
--   shows          what it shows
--   is_full        no order can be added to it, whatever its price
--   next_order     the order that an add brings, with the next number
--   why_not_added  why an order is refused, if it is
--   add_answer     what adding it answers
--   orders_added, last_added, quotes_added    the orders, the last number given and the quotes after: where it is
--                  refused, all stay
--   NumberPlace    where the order of a number stands, or that it does not
use Rattle.std.specs.Prelude.{◌≡◌, ℕ, ◌+◌, Bool, true, false, List, length, Some, None, Option, Result}
use Rattle.terms.specs.declared.refusal.Refusal.{Refusal}
use Rattle.terms.specs.declared.side.Side.{Side}
use Rattle.terms.specs.Refusals.{answered, unless_refused}
use Rattle.quotes.specs.Shown.{Shown}
use Rattle.ranked.specs.Items.{items, room}
use Rattle.ranked.specs.Order.{in_rank, FoundAt}
use Rattle.leg_orders.specs.declared.order.LegOrder.{LegOrder}
use Rattle.leg_orders.specs.Ranks.{leg_before}
use Rattle.leg_orders.specs.Books.{book_shown, has_number}
use Rattle.leg_orders.specs.Adds.{book_full, add_refusal, new_order, entered}
use Rattle.leg_orders.specs.Leaves.{order_numbered, without}
use Rattle.depth_book.specs.declared.book.DepthBook.{DepthBook}

abbrev pub standing : DepthBook → List LegOrder
standing book = items book.orders

abbrev pub shows : DepthBook → Shown
shows book = book_shown (items book.orders) book.away

abbrev pub is_full : DepthBook → Bool
is_full book = book_full (room book.orders) (length (items book.orders)) book.added

abbrev pub next_order : DepthBook → ℕ → Side → ℕ → ℕ → Bool → LegOrder
next_order book leg side price quantity customer = new_order (book.added + 1) leg side price quantity customer

abbrev pub why_not_added : DepthBook → LegOrder → Option Refusal
why_not_added book order = add_refusal (shows book) (is_full book) order

abbrev pub add_answer : DepthBook → LegOrder → Result ℕ Refusal
add_answer book order = answered (why_not_added book order) order.number

abbrev pub orders_added : DepthBook → LegOrder → List LegOrder
orders_added book order = unless_refused (why_not_added book order) (in_rank leg_before order (standing book)) (standing book)

abbrev pub last_added : DepthBook → LegOrder → ℕ
last_added book order = unless_refused (why_not_added book order) order.number book.added

abbrev pub quotes_added : DepthBook → LegOrder → Shown
quotes_added book order = unless_refused (why_not_added book order) (entered (shows book) order) (shows book)

abbrev pub NumberPlace : ℕ → List LegOrder → Option ℕ → Type 0
NumberPlace number orders None = (has_number number orders ≡ false) × (orders ≡ without number orders) × (order_numbered number orders ≡ None)
NumberPlace number orders (Some place) = (has_number number orders ≡ true) × FoundAt (λ order. order.number) orders number place
