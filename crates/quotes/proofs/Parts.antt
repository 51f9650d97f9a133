-- A sound leg taken apart and put together.
use Rattle.std.proofs.Common.{◌≡◌, ℕ, ◌≤◌, true, ◌&&◌, leb, List, ◌∷◌, length}
use Rattle.std.proofs.lemmas.Bool.{and_parts, and_from, leb-true}
use Rattle.terms.specs.declared.side.Side.{Side}
use Rattle.terms.specs.declared.side.Side.TheVariants.{Buy, Sell}
use Rattle.quotes.specs.declared.level.Level.{Level}
use Rattle.quotes.specs.Shown.{SideQuotes, LegQuotes, contracts, in_price_range, sound_level, sound_levels, sound_after, sound_away, sound_side, sound_leg, uncrossed}

pub record SideParts (depth : ℕ) (side : Side) (q : SideQuotes) : Type 0 where
  pub short : leb (length q.own) depth ≡ true
  pub levels : sound_levels side q.own ≡ true
  pub away : sound_away q.away ≡ true

pub side-parts : (depth : ℕ) (side : Side) (q : SideQuotes) → sound_side depth side q ≡ true → SideParts depth side q
side-parts depth side q h =
    let p = and_parts (leb (length q.own) depth) (sound_levels side q.own && sound_away q.away) h in
    let r = and_parts (sound_levels side q.own) (sound_away q.away) p.1 in
    record { short = p.0; levels = r.0; away = r.1 }

pub side-whole : (depth : ℕ) (side : Side) (q : SideQuotes) → SideParts depth side q → sound_side depth side q ≡ true
side-whole depth side q p =
    and_from (leb (length q.own) depth) (sound_levels side q.own && sound_away q.away) p.short
    (and_from (sound_levels side q.own) (sound_away q.away) p.levels p.away)

pub record LegParts (depth : ℕ) (q : LegQuotes) : Type 0 where
  pub bids : sound_side depth Buy (q Buy) ≡ true
  pub offers : sound_side depth Sell (q Sell) ≡ true
  pub apart : uncrossed (q Buy).own (q Sell).own ≡ true

pub leg-parts : (depth : ℕ) (q : LegQuotes) → sound_leg depth q ≡ true → LegParts depth q
leg-parts depth q h =
    let p = and_parts (sound_side depth Buy (q Buy)) (sound_side depth Sell (q Sell) && uncrossed (q Buy).own (q Sell).own) h in
    let r = and_parts (sound_side depth Sell (q Sell)) (uncrossed (q Buy).own (q Sell).own) p.1 in
    record { bids = p.0; offers = r.0; apart = r.1 }

pub leg-whole : (depth : ℕ) (q : LegQuotes) → LegParts depth q → sound_leg depth q ≡ true
leg-whole depth q p =
    and_from (sound_side depth Buy (q Buy)) (sound_side depth Sell (q Sell) && uncrossed (q Buy).own (q Sell).own) p.bids
    (and_from (sound_side depth Sell (q Sell)) (uncrossed (q Buy).own (q Sell).own) p.offers p.apart)

-- one side of a sound leg
pub leg-side : (depth : ℕ) (q : LegQuotes) (side : Side) → sound_leg depth q ≡ true → sound_side depth side (q side) ≡ true
leg-side depth q Buy h = (leg-parts depth q h).bids
leg-side depth q Sell h = (leg-parts depth q h).offers

-- ---- what a price and a level keep to

pub price-bounds : (price : ℕ) → in_price_range price ≡ true → (1 ≤ price) × (price ≤ 1000000)
price-bounds price h =
    let p = and_parts (leb 1 price) (leb price 1000000) h in
    (leb-true 1 price p.0, leb-true price 1000000 p.1)

pub record LevelBounds (level : Level) : Type 0 where
  pub low : 1 ≤ level.price
  pub high : level.price ≤ 1000000
  pub some : 1 ≤ contracts level
  pub most : contracts level ≤ 10000000

pub level-bounds : (level : Level) → sound_level level ≡ true → LevelBounds level
level-bounds level h =
    let p = and_parts (in_price_range level.price) (leb 1 (contracts level) && leb (contracts level) 10000000) h in
    let r = and_parts (leb 1 (contracts level)) (leb (contracts level) 10000000) p.1 in
    let b = price-bounds level.price p.0 in
    record { low = b.0; high = b.1; some = leb-true 1 (contracts level) r.0; most = leb-true (contracts level) 10000000 r.1 }

pub first-sound : (side : Side) (level : Level) (levels : List Level) → sound_levels side (level ∷ levels) ≡ true → sound_level level ≡ true
first-sound side level levels h = (and_parts (sound_level level) (sound_after side level.price levels) h).0
