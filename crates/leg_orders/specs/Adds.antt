-- What adding a leg order does.
--   has_price      a level stands at this price
--   contracts_at   the contracts at a price, 0 where no level stands
--   crowded        the price would be a 17th, or its level would hold more than 10,000,000 contracts
--   book_full      the memory is full of orders, or 1,000,000 orders were added before
--   add_refusal    why an add is refused, if it is
--   new_order      the order that an add brings
--   entered        the quotes with its contracts
use Rattle.std.specs.Prelude.{ℕ, ◌+◌, Bool, false, cond, not, ◌&&◌, ◌||◌, List, [], ◌∷◌, length, Some, None, Option, ◌==◌, nat_le, nat_lt}
use Rattle.terms.specs.declared.refusal.Refusal.{Refusal}
use Rattle.terms.specs.declared.refusal.Refusal.TheVariants.{QuoteRange, QuoteCrosses, BookRoom}
use Rattle.terms.specs.declared.side.Side.{Side}
use Rattle.terms.specs.Sides.{opposite}
use Rattle.quotes.specs.declared.level.Level.{Level}
use Rattle.quotes.specs.Shown.{Shown, contracts}
use Rattle.quotes.specs.Takes.{replaced}
use Rattle.quotes.specs.Sheets.{would_reach}
use Rattle.leg_orders.specs.declared.order.LegOrder.{LegOrder}
use Rattle.leg_orders.specs.Levels.{level_from, enter}
use Rattle.leg_orders.specs.Books.{may_stand}

abbrev pub has_price : ℕ → List Level → Bool
has_price price [] = false
has_price price (level ∷ levels) = level.price == price || has_price price levels

abbrev pub contracts_at : ℕ → List Level → ℕ
contracts_at price [] = 0
contracts_at price (level ∷ levels) = cond (level.price == price) (contracts level) (contracts_at price levels)

abbrev pub crowded : ℕ → ℕ → List Level → Bool
crowded price quantity levels = (not (has_price price levels) && nat_le 16 (length levels)) || nat_lt 10000000 (contracts_at price levels + quantity)

-- by the room of the memory, how many stand in it and how many were added
abbrev pub book_full : ℕ → ℕ → ℕ → Bool
book_full room standing added = nat_le room standing || nat_le 1000000 added

abbrev pub add_refusal : Shown → Bool → LegOrder → Option Refusal
add_refusal shown full order =
    cond (may_stand order)
    (cond (would_reach order.at.side order.price (shown order.at.leg (opposite order.at.side)).own) (Some QuoteCrosses)
    (cond (full || crowded order.price order.contracts (shown order.at.leg order.at.side).own) (Some BookRoom) None))
    (Some QuoteRange)

abbrev pub new_order : ℕ → ℕ → Side → ℕ → ℕ → Bool → LegOrder
new_order number leg side price quantity customer =
    record { number = number; at = record { leg = leg; side = side }; price = price; contracts = quantity; customer = customer }

abbrev pub entered : Shown → LegOrder → Shown
entered shown order =
    replaced shown order.at.leg order.at.side
    (record {
      own = enter order.at.side (level_from order) (shown order.at.leg order.at.side).own;
      away = (shown order.at.leg order.at.side).away;
    })
