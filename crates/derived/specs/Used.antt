-- The used prices of a leg, by the best own level and the away price of each side.
--   bound          the away price less its deviation for bids, plus it for offers
--   better_of      the higher of two bids, the lower of two offers
--   quoted_price   own and away: the better of the own price and the bound; own alone; away alone
--   from_opposite  nothing quoted on this side: a collar value from the opposite side's price, at least 1
--   used_price     the price quoted on the side, else from the price quoted on the opposite side (quoted_else, of the two)
--   own_behind     the own level whose price this is
--   level_behind   the own level behind the used price of a side (behind_price, of the level and the price)
--   held           the contracts of a level, 0 where there is none
--   used_is_own    whether there is one
--   best_price     the higher of the own and the away bid, the lower of the own and the away offer
--   crossed        the higher bid, own or away, reaches the lower offer
--   SoundTop       the top of a leg keeps a market's rules
--   Within         a price, if any, is no more than 1,000,000
use Rattle.std.specs.Prelude.{◌≡◌, ℕ, ◌+◌, ◌-◌, ◌≤◌, min, max, Bool, true, false, cond, is_some, Some, None, Option, ◌==◌, nat_le, nat_lt}
use Rattle.terms.specs.declared.side.Side.{Side}
use Rattle.terms.specs.declared.side.Side.TheVariants.{Buy, Sell}
use Rattle.terms.specs.Sides.{opposite}
use Rattle.quotes.specs.declared.level.Level.{Level}
use Rattle.quotes.specs.declared.top.LegTop.{LegTop}
use Rattle.quotes.specs.Shown.{contracts, sound_leg}
use Rattle.quotes.specs.Tops.{own_of, away_of, quotes_of}
use Rattle.derived.specs.Collars.{deviation, collar}

abbrev pub bound : Side → ℕ → ℕ
bound Buy away = away - deviation away
bound Sell away = away + deviation away

abbrev pub better_of : Side → ℕ → ℕ → ℕ
better_of Buy a b = max a b
better_of Sell a b = min a b

abbrev pub quoted : Side → Option Level → Option ℕ → Option ℕ
quoted side None away = away
quoted side (Some own) None = Some own.price
quoted side (Some own) (Some away) = Some (better_of side own.price (bound side away))

abbrev pub quoted_price : LegTop → Side → Option ℕ
quoted_price top side = quoted side (own_of top side) (away_of top side)

abbrev pub from_opposite : Side → ℕ → ℕ
from_opposite Buy offer = cond (nat_lt (collar offer) offer) (offer - collar offer) 1
from_opposite Sell bid = bid + collar bid

abbrev pub quoted_else : Side → Option ℕ → Option ℕ → Option ℕ
quoted_else side (Some price) facing = Some price
quoted_else side None (Some facing) = Some (from_opposite side facing)
quoted_else side None None = None

abbrev pub used_price : LegTop → Side → Option ℕ
used_price top side = quoted_else side (quoted_price top side) (quoted_price top (opposite side))

-- ---- own prices

abbrev pub own_behind : Option Level → ℕ → Option Level
own_behind None price = None
own_behind (Some own) price = cond (own.price == price) (Some own) None

abbrev pub behind_price : Option Level → Option ℕ → Option Level
behind_price own None = None
behind_price own (Some price) = own_behind own price

abbrev pub level_behind : LegTop → Side → Option Level
level_behind top side = behind_price (own_of top side) (used_price top side)

abbrev pub used_is_own : LegTop → Side → Bool
used_is_own top side = is_some (level_behind top side)

-- the contracts of the level, if there is one
abbrev pub held : Option Level → ℕ
held None = 0
held (Some level) = contracts level

-- ---- crossed legs

abbrev pub best_price : Side → Option Level → Option ℕ → Option ℕ
best_price side None away = away
best_price side (Some own) None = Some own.price
best_price side (Some own) (Some away) = Some (better_of side own.price away)

abbrev pub reaches : Option ℕ → Option ℕ → Bool
reaches None offer = false
reaches (Some bid) None = false
reaches (Some bid) (Some offer) = nat_le offer bid

abbrev pub crossed : LegTop → Bool
crossed top = reaches (best_price Buy top.own.bid top.away.bid) (best_price Sell top.own.offer top.away.offer)

-- ---- what a market keeps to

-- the top of a sound leg
abbrev pub SoundTop : LegTop → Type 0
SoundTop top = sound_leg 1 (quotes_of top) ≡ true

abbrev pub Within : Option ℕ → Type 0
Within None = Unit {0}
Within (Some price) = price ≤ 1000000
