-- What a leg market shows, and the rules that it keeps.
--   SideQuotes      one side of one leg: the own levels, best first, and the away price
--   LegQuotes       both sides of a leg
--   Shown           the quotes of each leg, by its number
--   nothing         a side without level and away price
--   contracts       all contracts of a level, customers' and others'
--   held            all contracts of a list of levels
--   in_price_range  1 to 1,000,000
--   sound_level     price 1 to 1,000,000, contracts 1 to 10,000,000
--   better          one price is better than another: higher for bids, lower for offers
--   sound_levels    every level is sound and each price better than the next, so that none stands twice (sound_after, of
--                   the levels behind one at a price)
--   uncrossed       the best own bid is below the best own offer
--   sound_away      an away price is 1 to 1,000,000
--   sound_side      no more levels than the depth, and all of them and the away price sound
--   sound_leg       both sides sound, and uncrossed
--   Sound           each leg is sound, and a leg that the market lacks shows nothing
use Rattle.std.specs.Prelude.{◌≡◌, ℕ, ◌+◌, ◌≤◌, Bool, true, ◌&&◌, List, [], ◌∷◌, length, Some, None, Option, nat_le, nat_lt}
use Rattle.terms.specs.declared.side.Side.{Side}
use Rattle.terms.specs.declared.side.Side.TheVariants.{Buy, Sell}
use Rattle.quotes.specs.declared.level.Level.{Level}

pub record SideQuotes : Type 0 where
  pub own : List Level
  pub away : Option ℕ

abbrev pub LegQuotes : Type 0
LegQuotes = Side → SideQuotes

abbrev pub Shown : Type 0
Shown = ℕ → LegQuotes

abbrev pub nothing : SideQuotes
nothing = record { own = []; away = None }

abbrev pub contracts : Level → ℕ
contracts level = level.customer + level.other

abbrev pub held : List Level → ℕ
held [] = 0
held (level ∷ levels) = contracts level + held levels

abbrev pub in_price_range : ℕ → Bool
in_price_range price = nat_le 1 price && nat_le price 1000000

abbrev pub sound_level : Level → Bool
sound_level level = in_price_range level.price && (nat_le 1 (contracts level) && nat_le (contracts level) 10000000)

abbrev pub better : Side → ℕ → ℕ → Bool
better Buy a b = nat_lt b a
better Sell a b = nat_lt a b

-- the levels that follow one at this price
abbrev pub sound_after : Side → ℕ → List Level → Bool
sound_after side price [] = true
sound_after side price (level ∷ levels) = better side price level.price && (sound_level level && sound_after side level.price levels)

abbrev pub sound_levels : Side → List Level → Bool
sound_levels side [] = true
sound_levels side (level ∷ levels) = sound_level level && sound_after side level.price levels

abbrev pub uncrossed : List Level → List Level → Bool
uncrossed [] offers = true
uncrossed (bid ∷ bids) [] = true
uncrossed (bid ∷ bids) (offer ∷ offers) = nat_lt bid.price offer.price

abbrev pub sound_away : Option ℕ → Bool
sound_away None = true
sound_away (Some price) = in_price_range price

abbrev pub sound_side : ℕ → Side → SideQuotes → Bool
sound_side depth side q = nat_le (length q.own) depth && (sound_levels side q.own && sound_away q.away)

abbrev pub sound_leg : ℕ → LegQuotes → Bool
sound_leg depth q = sound_side depth Buy (q Buy) && (sound_side depth Sell (q Sell) && uncrossed (q Buy).own (q Sell).own)

-- no strategy has more than six legs, so no market does
pub record Sound (depth : ℕ) (shown : Shown) : Type 0 where
  pub legs : (leg : ℕ) → sound_leg depth (shown leg) ≡ true
  pub lacking : (leg : ℕ) (side : Side) → 6 ≤ leg → shown leg side ≡ nothing
