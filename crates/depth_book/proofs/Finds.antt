-- An order looked for by its number stands at the place found, or not at all.
use Rattle.std.proofs.Common.{ℕ, List, Some, None, Option}
use Rattle.ranked.specs.Order.{Found}
use Rattle.leg_orders.specs.declared.order.LegOrder.{LegOrder}
use Rattle.leg_orders.proofs.Leaves.{standing, absent}
use Rattle.depth_book.specs.Books.{NumberPlace}

pub number-place : (number : ℕ) (orders : List LegOrder) (place : Option ℕ) → Found (λ (o : LegOrder). o.number) orders number place → NumberPlace number orders place
number-place number orders None found = let gone = absent number orders found in (gone.stands, gone.rest, gone.order)
number-place number orders (Some place) found = ((standing number orders place found).stands, found)
