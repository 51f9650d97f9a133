-- How large used prices are on a sound leg, and how many contracts stand behind them.
use Rattle.std.proofs.Common.{◌≡◌, ℕ, ◌≤◌, true, leb, List, [], ◌∷◌, length, Some, None, Option, sym, refl, arith}
use Rattle.std.proofs.lemmas.Bool.Decides.{nat_tests}
use Rattle.terms.specs.declared.side.Side.{Side}
use Rattle.terms.specs.declared.side.Side.TheVariants.{Buy, Sell}
use Rattle.terms.specs.declared.side.BySide.{BySide}
use Rattle.terms.specs.Sides.{opposite, of_side}
use Rattle.quotes.specs.declared.level.Level.{Level}
use Rattle.quotes.specs.declared.top.LegTop.{LegTop}
use Rattle.quotes.specs.Shown.{SideQuotes, LegQuotes, sound_leg, sound_side, sound_levels, sound_away, uncrossed}
use Rattle.quotes.specs.Takes.{best}
use Rattle.quotes.specs.Tops.{own_of, away_of, list_of, top_of, quotes_of}
use Rattle.quotes.proofs.Parts.{side-parts, side-whole, leg-parts, leg-whole, leg-side, price-bounds, level-bounds, first-sound}
use Rattle.derived.specs.Used.{SoundTop, Within, quoted, quoted_price, quoted_else, from_opposite, used_price, own_behind, held}
use Rattle.derived.proofs.Bands.{collar-most}

-- ---- the top of a sound leg is sound

short-top : (levels : List Level) → leb (length (list_of (best levels))) 1 ≡ true
short-top [] = refl
short-top (level ∷ levels) = refl

sound-first : (side : Side) (levels : List Level) → sound_levels side levels ≡ true → sound_levels side (list_of (best levels)) ≡ true
sound-first side [] h = refl
sound-first side (level ∷ levels) h = rw (first-sound side level levels h)

apart-first : (bids offers : List Level) → uncrossed bids offers ≡ true → uncrossed (list_of (best bids)) (list_of (best offers)) ≡ true
apart-first [] offers h = refl
apart-first (bid ∷ bids) [] h = refl
apart-first (bid ∷ bids) (offer ∷ offers) h = h

top-side : (depth : ℕ) (side : Side) (q : SideQuotes) → sound_side depth side q ≡ true → sound_side 1 side (record { own = list_of (best q.own); away = q.away }) ≡ true
top-side depth side q h =
    let p = side-parts depth side q h in
    side-whole 1 side (record { own = list_of (best q.own); away = q.away }) (record { short = short-top q.own; levels = sound-first side q.own p.levels; away = p.away })

pub top_sound : (depth : ℕ) (q : LegQuotes) → sound_leg depth q ≡ true → SoundTop (top_of q)
top_sound depth q h =
    let p = leg-parts depth q h in
    leg-whole 1 (quotes_of (top_of q)) (record { bids = top-side depth Buy (q Buy) p.bids; offers = top-side depth Sell (q Sell) p.offers; apart = apart-first (q Buy).own (q Sell).own p.apart })

-- the top as it is read side by side
pub read-sound : (depth : ℕ) (q : LegQuotes) (bid offer : Option Level) (away_bid away_offer : Option ℕ) → sound_leg depth q ≡ true
    → bid ≡ best (q Buy).own → offer ≡ best (q Sell).own → away_bid ≡ (q Buy).away → away_offer ≡ (q Sell).away
    → SoundTop (record { own = record { bid = bid; offer = offer }; away = record { bid = away_bid; offer = away_offer } })
read-sound depth q bid offer away_bid away_offer h b o x y = rw (b, o, x, y) (top_sound depth q h)

-- ---- used prices

own-within : (side : Side) (own : Option Level) → sound_levels side (list_of own) ≡ true → (level : Level) → own ≡ Some level → level.price ≤ 1000000
own-within side None h level e = absurd (cc)
own-within side (Some k) h level e =
    let same : k ≡ level = cc in
    let b = level-bounds k (first-sound side k [] h) in
    rw (sym same) b.high

away-within : (away : Option ℕ) → sound_away away ≡ true → Within away
away-within None h = tt
away-within (Some price) h = (price-bounds price h).1

pub away_of_within : (top : LegTop) (side : Side) → SoundTop top → Within (away_of top side)
away_of_within top side h = away-within (away_of top side) (side-parts 1 side (quotes_of top side) (leg-side 1 (quotes_of top) side h)).away

quoted-within : (side : Side) (own : Option Level) (away : Option ℕ) → sound_levels side (list_of own) ≡ true → Within away → Within (quoted side own away)
quoted-within side None away h k = k
quoted-within side (Some own) None h k = own-within side (Some own) h own refl
quoted-within Buy (Some own) (Some away) h k = let o = own-within Buy (Some own) h own refl in omega (arith, o)
quoted-within Sell (Some own) (Some away) h k = let o = own-within Sell (Some own) h own refl in omega (arith, o)

pub quoted-price-within : (top : LegTop) (side : Side) → SoundTop top → Within (quoted_price top side)
quoted-price-within top side h =
    let p = side-parts 1 side (quotes_of top side) (leg-side 1 (quotes_of top) side h) in
    quoted-within side (own_of top side) (away_of top side) p.levels (away_of_within top side h)

opposite-within : (side : Side) (price : ℕ) → price ≤ 1000000 → from_opposite side price ≤ 1000190
opposite-within Buy price h = grind (arith, nat_tests)
opposite-within Sell price h = omega (arith, collar-most price)

else-within : (side : Side) (here facing : Option ℕ) (price : ℕ) → Within here → Within facing → quoted_else side here facing ≡ Some price → price ≤ 1000190
else-within side (Some p) facing price h k e = let same : p ≡ price = cc in omega arith
else-within side None (Some p) price h k e = let same : from_opposite side p ≡ price = cc in omega (arith, opposite-within side p k)
else-within side None None price h k e = absurd (cc)

pub used-within : (top : LegTop) (side : Side) (price : ℕ) → SoundTop top → used_price top side ≡ Some price → price ≤ 1000190
used-within top side price h e =
    else-within side (quoted_price top side) (quoted_price top (opposite side)) price (quoted-price-within top side h) (quoted-price-within top (opposite side) h) e

pub pair-within : (top : LegTop) (pair : BySide ℕ) (side : Side) → SoundTop top → used_price top Buy ≡ Some pair.bid → used_price top Sell ≡ Some pair.offer → of_side pair side ≤ 1000190
pair-within top pair Buy h bid offer = used-within top Buy pair.bid h bid
pair-within top pair Sell h bid offer = used-within top Sell pair.offer h offer

-- ---- the level behind a used price

behind-held : (side : Side) (own : Option Level) (price : ℕ) → sound_levels side (list_of own) ≡ true → held (own_behind own price) ≤ 10000000
behind-held side None price h = omega arith
behind-held side (Some own) price h = let b = level-bounds own (first-sound side own [] h) in grind (arith, nat_tests)

pub held-most : (top : LegTop) (side : Side) (price : ℕ) → SoundTop top → held (own_behind (own_of top side) price) ≤ 10000000
held-most top side price h = behind-held side (own_of top side) price (side-parts 1 side (quotes_of top side) (leg-side 1 (quotes_of top) side h)).levels
