-- One side of a leg, and one leg, stay sound when contracts come in that fit, and when contracts leave.
use Rattle.std.proofs.Common.{◌≡◌, ℕ, ◌+◌, true, false, not, ◌&&◌, ltb, leb, List, length, Option, sym, subst, inl, inr, arith}
use Rattle.std.proofs.lemmas.Bool.{cases_Bool, or_parts, leb-true, leb-false, le-leb, ltb-false}
use Rattle.terms.specs.declared.side.Side.{Side}
use Rattle.terms.specs.declared.side.Side.TheVariants.{Buy, Sell}
use Rattle.quotes.specs.declared.level.Level.{Level}
use Rattle.quotes.specs.Shown.{SideQuotes, LegQuotes, contracts, sound_level, sound_levels, sound_side, sound_leg}
use Rattle.quotes.specs.Sheets.{would_reach}
use Rattle.quotes.proofs.Parts.{side-parts, side-whole, leg-parts, leg-whole}
use Rattle.quotes.proofs.LessTaken.{after-sound}
use Rattle.leg_orders.specs.Ranks.{best_possible}
use Rattle.leg_orders.specs.Levels.{enter}
use Rattle.leg_orders.specs.Adds.{has_price, contracts_at, crowded}
use Rattle.leg_orders.proofs.Sounds.{levels-after, enter-after, enter-longer, enter-there, some_each, leave-after, bid-apart, offer-apart, bid-left-apart, offer-left-apart, best-worse}

abbrev pub side_of : List Level → Option ℕ → SideQuotes
side_of levels price = record { own = levels; away = price }

abbrev pub leg_of : List Level → List Level → Option ℕ → Option ℕ → LegQuotes
leg_of bids offers x y Buy = side_of bids x
leg_of bids offers x y Sell = side_of offers y

-- ---- contracts come in that fit

pub record MayEnter (side : Side) (levels facing : List Level) (level : Level) : Type 0 where
  pub sound : sound_level level ≡ true
  pub clear : would_reach side level.price facing ≡ false
  pub roomy : crowded level.price (contracts level) levels ≡ false

enter-short : (side : Side) (levels : List Level) (m : Level) → sound_levels side levels ≡ true → leb (length levels) 16 ≡ true → (not (has_price m.price levels) && leb 16 (length levels)) ≡ false → leb (length (enter side m levels)) 16 ≡ true
enter-short side levels m h k room =
    elim (cases_Bool (has_price m.price levels)) [
      | inl there ↦ subst (λ (n : ℕ). leb n 16 ≡ true) (sym (enter-there side (best_possible side) m levels (levels-after side levels h) there)) k
      | inr new ↦
          let few : leb 16 (length levels) ≡ false = rw new at room in
          le-leb _ _ (omega (arith, leb-false 16 (length levels) few, (enter-longer side m levels).1))
    ]

pub side-entered : (side : Side) (levels facing : List Level) (price : Option ℕ) (m : Level) → MayEnter side levels facing m → sound_side 16 side (side_of levels price) ≡ true → sound_side 16 side (side_of (enter side m levels) price) ≡ true
side-entered side levels facing price m fits h =
    let p = side-parts 16 side (side_of levels price) h in
    let r = or_parts (not (has_price m.price levels) && leb 16 (length levels)) (ltb 10000000 (contracts_at m.price levels + contracts m)) fits.roomy in
    let few = ltb-false 10000000 (contracts_at m.price levels + contracts m) r.1 in
    side-whole 16 side (side_of (enter side m levels) price)
    (record {
      short = enter-short side levels m p.levels p.short r.0;
      levels = after-sound side (best_possible side) (enter side m levels) (enter-after side (best_possible side) m levels (best-worse side m fits.sound) fits.sound few (levels-after side levels p.levels));
      away = p.away;
    })

pub leg-bid-entered : (bids offers : List Level) (x y : Option ℕ) (m : Level) → MayEnter Buy bids offers m → sound_leg 16 (leg_of bids offers x y) ≡ true → sound_leg 16 (leg_of (enter Buy m bids) offers x y) ≡ true
leg-bid-entered bids offers x y m fits h =
    let p = leg-parts 16 (leg_of bids offers x y) h in
    leg-whole 16 (leg_of (enter Buy m bids) offers x y)
    (record { bids = side-entered Buy bids offers x m fits p.bids; offers = p.offers; apart = bid-apart m bids offers fits.clear p.apart })

pub leg-offer-entered : (bids offers : List Level) (x y : Option ℕ) (m : Level) → MayEnter Sell offers bids m → sound_leg 16 (leg_of bids offers x y) ≡ true → sound_leg 16 (leg_of bids (enter Sell m offers) x y) ≡ true
leg-offer-entered bids offers x y m fits h =
    let p = leg-parts 16 (leg_of bids offers x y) h in
    leg-whole 16 (leg_of bids (enter Sell m offers) x y)
    (record { bids = p.bids; offers = side-entered Sell offers bids y m fits p.offers; apart = offer-apart m bids offers fits.clear p.apart })

-- ---- contracts leave

side_left : (side : Side) (levels : List Level) (price : Option ℕ) (m : Level) → some_each levels ≡ true → sound_side 16 side (side_of (enter side m levels) price) ≡ true → sound_side 16 side (side_of levels price) ≡ true
side_left side levels price m some h =
    let p = side-parts 16 side (side_of (enter side m levels) price) h in
    side-whole 16 side (side_of levels price)
    (record {
      short = le-leb _ _ (omega (arith, leb-true _ _ p.short, (enter-longer side m levels).0));
      levels = after-sound side (best_possible side) levels (leave-after side (best_possible side) m levels some (levels-after side (enter side m levels) p.levels));
      away = p.away;
    })

pub leg-bid-left : (bids offers : List Level) (x y : Option ℕ) (m : Level) → some_each bids ≡ true → sound_leg 16 (leg_of (enter Buy m bids) offers x y) ≡ true → sound_leg 16 (leg_of bids offers x y) ≡ true
leg-bid-left bids offers x y m some h =
    let p = leg-parts 16 (leg_of (enter Buy m bids) offers x y) h in
    leg-whole 16 (leg_of bids offers x y) (record { bids = side_left Buy bids x m some p.bids; offers = p.offers; apart = bid-left-apart m bids offers p.apart })

pub leg-offer-left : (bids offers : List Level) (x y : Option ℕ) (m : Level) → some_each offers ≡ true → sound_leg 16 (leg_of bids (enter Sell m offers) x y) ≡ true → sound_leg 16 (leg_of bids offers x y) ≡ true
leg-offer-left bids offers x y m some h =
    let p = leg-parts 16 (leg_of bids (enter Sell m offers) x y) h in
    leg-whole 16 (leg_of bids offers x y) (record { bids = p.bids; offers = side_left Sell offers y m some p.offers; apart = offer-left-apart m bids offers p.apart })
