-- One leg of depth 1: what a take and a new own level or away price leave of it is sound.
use Rattle.std.proofs.Common.{◌≡◌, ℕ, zero, suc, ◌<◌, Bool, true, false, cond, ltb, leb, [], ◌∷◌, length, Some, None, Option, refl, arith}
use Rattle.std.specs.List.{slice_get}
use Rattle.std.proofs.lemmas.Bool.Decides.{nat_tests}
use Rattle.terms.specs.declared.side.Side.{Side}
use Rattle.terms.specs.declared.side.Side.TheVariants.{Buy, Sell}
use Rattle.terms.specs.declared.side.BySide.{BySide}
use Rattle.terms.specs.Sides.{opposite}
use Rattle.quotes.specs.declared.level.Level.{Level}
use Rattle.quotes.specs.declared.top.LegTop.{LegTop}
use Rattle.quotes.specs.Shown.{contracts, sound_leg, sound_levels, sound_away, uncrossed}
use Rattle.quotes.specs.Takes.{may_take, lessened, less_best, level_left}
use Rattle.quotes.specs.Tops.{own_of, with_own, with_away, list_of, quotes_of}
use Rattle.quotes.specs.Sheets.{level_given, level_refusal, own_left}
use Rattle.quotes.proofs.Parts.{side-parts, side-whole, leg-parts, leg-whole}

-- ---- a take

take-keeps-bid : (level : Level) (offer : Option Level) (away : BySide (Option ℕ)) (n : ℕ) → may_take (level ∷ []) n ≡ true → sound_leg 1 (quotes_of (record { own = record { bid = Some level; offer = offer }; away = away })) ≡ true → sound_leg 1 (quotes_of (record { own = record { bid = level_left level n; offer = offer }; away = away })) ≡ true
take-keeps-bid level None away n e h = grind (arith, nat_tests)
take-keeps-bid level (Some k) away n e h = grind (arith, nat_tests)

take-keeps-offer : (level : Level) (bid : Option Level) (away : BySide (Option ℕ)) (n : ℕ) → may_take (level ∷ []) n ≡ true → sound_leg 1 (quotes_of (record { own = record { bid = bid; offer = Some level }; away = away })) ≡ true → sound_leg 1 (quotes_of (record { own = record { bid = bid; offer = level_left level n }; away = away })) ≡ true
take-keeps-offer level None away n e h = grind (arith, nat_tests)
take-keeps-offer level (Some k) away n e h = grind (arith, nat_tests)

take-keeps-either : (own other : Option Level) (away : BySide (Option ℕ)) (n : ℕ) → may_take (list_of own) n ≡ true →
    (sound_leg 1 (quotes_of (record { own = record { bid = own; offer = other }; away = away })) ≡ true → sound_leg 1 (quotes_of (record { own = record { bid = own_left own n; offer = other }; away = away })) ≡ true)
    × (sound_leg 1 (quotes_of (record { own = record { bid = other; offer = own }; away = away })) ≡ true → sound_leg 1 (quotes_of (record { own = record { bid = other; offer = own_left own n }; away = away })) ≡ true)
take-keeps-either None other away n e = absurd (cc)
take-keeps-either (Some level) other away n e = (take-keeps-bid level other away n e, take-keeps-offer level other away n e)

pub take-keeps : (top : LegTop) (side : Side) (n : ℕ) → may_take (list_of (own_of top side)) n ≡ true → sound_leg 1 (quotes_of top) ≡ true → sound_leg 1 (quotes_of (with_own top side (own_left (own_of top side) n))) ≡ true
take-keeps top Buy n e h = (take-keeps-either top.own.bid top.own.offer top.away n e).0 h
take-keeps top Sell n e h = (take-keeps-either top.own.offer top.own.bid top.away n e).1 h

-- what is left of the level is what is left of the list
left-listed : (some : Bool) (level : Level) → list_of (cond some (Some level) None) ≡ cond some (level ∷ []) []
left-listed true level = refl
left-listed false level = refl

pub take-leaves : (own : Option Level) (n : ℕ) → list_of (own_left own n) ≡ less_best (list_of own) n
take-leaves None n = refl
take-leaves (Some level) n = left-listed (ltb n (contracts level)) (lessened level n)

-- ---- a new own level

one-long : (own : Option Level) → leb (length (list_of own)) 1 ≡ true
one-long None = refl
one-long (Some level) = refl

given-levels : (side : Side) (level : Level) (facing : Option Level) → level_refusal side level (list_of facing) ≡ None → sound_levels side (list_of (level_given level)) ≡ true
given-levels Buy level None e = grind (arith, nat_tests)
given-levels Sell level None e = grind (arith, nat_tests)
given-levels Buy level (Some k) e = grind (arith, nat_tests)
given-levels Sell level (Some k) e = grind (arith, nat_tests)

given-bid-apart : (level : Level) (offer : Option Level) → level_refusal Buy level (list_of offer) ≡ None → uncrossed (list_of (level_given level)) (list_of offer) ≡ true
given-bid-apart level None e = grind (arith, nat_tests)
given-bid-apart level (Some k) e = grind (arith, nat_tests)

given-offer-apart : (level : Level) (bid : Option Level) → level_refusal Sell level (list_of bid) ≡ None → uncrossed (list_of bid) (list_of (level_given level)) ≡ true
given-offer-apart level None e = refl
given-offer-apart level (Some k) e = grind (arith, nat_tests)

pub set-own-keeps : (top : LegTop) (side : Side) (level : Level) → level_refusal side level (list_of (own_of top (opposite side))) ≡ None → sound_leg 1 (quotes_of top) ≡ true → sound_leg 1 (quotes_of (with_own top side (level_given level))) ≡ true
set-own-keeps top Buy level e h =
    let p = leg-parts 1 (quotes_of top) h in
    let new = level_given level in
    leg-whole 1 (quotes_of (with_own top Buy new))
    (record {
      bids = side-whole 1 Buy (quotes_of (with_own top Buy new) Buy) (record { short = one-long new; levels = given-levels Buy level top.own.offer e; away = (side-parts 1 Buy (quotes_of top Buy) p.bids).away });
      offers = p.offers;
      apart = given-bid-apart level top.own.offer e;
    })
set-own-keeps top Sell level e h =
    let p = leg-parts 1 (quotes_of top) h in
    let new = level_given level in
    leg-whole 1 (quotes_of (with_own top Sell new))
    (record {
      bids = p.bids;
      offers = side-whole 1 Sell (quotes_of (with_own top Sell new) Sell) (record { short = one-long new; levels = given-levels Sell level top.own.bid e; away = (side-parts 1 Sell (quotes_of top Sell) p.offers).away });
      apart = given-offer-apart level top.own.bid e;
    })

-- ---- a new away price

pub set-away-keeps : (top : LegTop) (side : Side) (price : Option ℕ) → sound_away price ≡ true → sound_leg 1 (quotes_of top) ≡ true → sound_leg 1 (quotes_of (with_away top side price)) ≡ true
set-away-keeps top Buy price e h =
    let p = leg-parts 1 (quotes_of top) h in
    let b = side-parts 1 Buy (quotes_of top Buy) p.bids in
    leg-whole 1 (quotes_of (with_away top Buy price))
    (record { bids = side-whole 1 Buy (quotes_of (with_away top Buy price) Buy) (record { short = b.short; levels = b.levels; away = e }); offers = p.offers; apart = p.apart })
set-away-keeps top Sell price e h =
    let p = leg-parts 1 (quotes_of top) h in
    let o = side-parts 1 Sell (quotes_of top Sell) p.offers in
    leg-whole 1 (quotes_of (with_away top Sell price))
    (record { bids = p.bids; offers = side-whole 1 Sell (quotes_of (with_away top Sell price) Sell) (record { short = o.short; levels = o.levels; away = e }); apart = p.apart })

-- ---- the sides of a changed leg

pub own-here : (top : LegTop) (side : Side) (own : Option Level) → quotes_of (with_own top side own) side ≡ record { own = list_of own; away = (quotes_of top side).away }
own-here top Buy own = refl
own-here top Sell own = refl

pub own-there : (top : LegTop) (side : Side) (own : Option Level) → quotes_of (with_own top side own) (opposite side) ≡ quotes_of top (opposite side)
own-there top Buy own = refl
own-there top Sell own = refl

pub away-here : (top : LegTop) (side : Side) (price : Option ℕ) → quotes_of (with_away top side price) side ≡ record { own = (quotes_of top side).own; away = price }
away-here top Buy price = refl
away-here top Sell price = refl

pub away-there : (top : LegTop) (side : Side) (price : Option ℕ) → quotes_of (with_away top side price) (opposite side) ≡ quotes_of top (opposite side)
away-there top Buy price = refl
away-there top Sell price = refl

-- a list of at most one level has none at a later place
pub no_second : (own : Option Level) (place : ℕ) → 0 < place → None ≡ slice_get (list_of own) place
no_second None place h = refl
no_second (Some level) zero h = absurd (omega arith)
no_second (Some level) (suc place) h = refl
