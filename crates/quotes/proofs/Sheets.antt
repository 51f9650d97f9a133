-- A sheet of six legs of depth 1 is sound, and changes one leg at a time.
use Rattle.std.proofs.Common.{◌≡◌, ℕ, zero, suc, ◌<◌, ◌≤◌, Bool, true, false, cond, ◌&&◌, ltb, List, [], ◌∷◌, length, get_or, set, Some, None, Option, sym, refl, ap, ◌∙◌, subst, inl, inr, arith, length-set, get_or-set_other, get_or-set_same}
use Rattle.std.proofs.lemmas.List.{get_or_past}
use Rattle.std.proofs.lemmas.Bool.{and_parts, and_from, both_ways, cases_eq, cases_lt, eq-eqb, lt-ltb, ltb-true, ne_eqb}
use Rattle.terms.specs.declared.refusal.Refusal.{Refusal}
use Rattle.terms.specs.declared.refusal.Refusal.TheVariants.{QuoteRange}
use Rattle.terms.specs.declared.side.Side.{Side}
use Rattle.terms.specs.declared.side.Side.TheVariants.{Buy, Sell}
use Rattle.terms.specs.Refusals.{unless_refused}
use Rattle.terms.specs.Sides.{opposite}
use Rattle.quotes.specs.declared.level.Level.{Level}
use Rattle.quotes.specs.declared.top.LegTop.{LegTop}
use Rattle.quotes.specs.Shown.{SideQuotes, LegQuotes, Shown, Sound, sound_leg, sound_away, nothing}
use Rattle.quotes.specs.Takes.{replaced, may_take, less_best, taken}
use Rattle.quotes.specs.Tops.{no_top, quotes_of, list_of, own_of, with_own, with_away}
use Rattle.quotes.specs.Sheets.{shown_of, sound_tops, level_given, level_refusal, own_left, own_refusal, own_set, own_put, away_given, away_refusal, away_set, away_put, take_put}
use Rattle.quotes.proofs.Replaces.{replaced-same}
use Rattle.quotes.proofs.Tops.{take-keeps, take-leaves, set-own-keeps, set-away-keeps, own-here, own-there, away-here, away-there}

pub leg-sound : (tops : List LegTop) (leg : ℕ) → sound_tops tops ≡ true → sound_leg 1 (quotes_of (get_or tops leg no_top)) ≡ true
leg-sound [] leg h = refl
leg-sound (top ∷ tops) zero h = (and_parts (sound_leg 1 (quotes_of top)) (sound_tops tops) h).0
leg-sound (top ∷ tops) (suc leg) h = leg-sound tops leg (and_parts (sound_leg 1 (quotes_of top)) (sound_tops tops) h).1

pub set-sound : (tops : List LegTop) (leg : ℕ) (new : LegTop) → sound_tops tops ≡ true → sound_leg 1 (quotes_of new) ≡ true → sound_tops (set tops leg new) ≡ true
set-sound [] leg new h k = refl
set-sound (top ∷ tops) zero new h k = and_from (sound_leg 1 (quotes_of new)) (sound_tops tops) k (and_parts (sound_leg 1 (quotes_of top)) (sound_tops tops) h).1
set-sound (top ∷ tops) (suc leg) new h k =
    let p = and_parts (sound_leg 1 (quotes_of top)) (sound_tops tops) h in
    and_from (sound_leg 1 (quotes_of top)) (sound_tops (set tops leg new)) p.0 (set-sound tops leg new p.1 k)

pub sheet-lacking : (tops : List LegTop) → length tops ≡ 6 → (leg : ℕ) (side : Side) → 6 ≤ leg → shown_of tops leg side ≡ nothing
sheet-lacking tops long leg side past =
    let p : length tops ≤ leg = omega arith in
    elim side as (λ s. shown_of tops leg s ≡ nothing) [ Buy ↦ rw (get_or_past tops leg no_top p) | Sell ↦ rw (get_or_past tops leg no_top p) ]

pub sheet-sound : (tops : List LegTop) → length tops ≡ 6 → sound_tops tops ≡ true → Sound 1 (shown_of tops)
sheet-sound tops long h = record { legs = λ leg. leg-sound tops leg h; lacking = sheet-lacking tops long }

pub sheet-depth : (1 ≤ 1) × (1 ≤ 16)
sheet-depth = (omega arith, omega arith)

-- ---- one side of one leg is changed

leg-here : (old new : LegTop) (side : Side) (q : SideQuotes) → quotes_of new side ≡ q → quotes_of new (opposite side) ≡ quotes_of old (opposite side) → (shown : Shown) (leg : ℕ) → shown leg ≡ quotes_of old → (s : Side) → quotes_of new s ≡ replaced shown leg side q leg s
leg-here old new Buy q e f shown leg g Buy = rw (eq-eqb leg leg refl) e
leg-here old new Buy q e f shown leg g Sell = rw (eq-eqb leg leg refl) (f ∙ ap (λ (k : LegQuotes). k Sell) (sym g))
leg-here old new Sell q e f shown leg g Buy = rw (eq-eqb leg leg refl) (f ∙ ap (λ (k : LegQuotes). k Buy) (sym g))
leg-here old new Sell q e f shown leg g Sell = rw (eq-eqb leg leg refl) e

pub sheet-replaced : (tops : List LegTop) (leg : ℕ) (side : Side) (new : LegTop) (q : SideQuotes) → leg < length tops → quotes_of new side ≡ q → quotes_of new (opposite side) ≡ quotes_of (get_or tops leg no_top) (opposite side) → (l : ℕ) (s : Side) → shown_of (set tops leg new) l s ≡ replaced (shown_of tops) leg side q l s
sheet-replaced tops leg side new q lt e f l s =
    elim (cases_eq l leg) [
      | inl same ↦ rw (same, get_or-set_same tops leg new no_top lt) (leg-here (get_or tops leg no_top) new side q e f (shown_of tops) leg refl s)
      | inr other ↦ rw (get_or-set_other tops leg l new no_top other, ne_eqb l leg other)
    ]

-- ---- the changes that calls make

-- what a call leaves of the legs
pub record Keeps (tops new : List LegTop) (shown : Shown) : Type 0 where
  pub long : length new ≡ 6
  pub sound : sound_tops new ≡ true
  pub shows : (l : ℕ) (s : Side) → shown_of new l s ≡ shown l s

pub keeps-as : (tops new put : List LegTop) (shown : Shown) → new ≡ put → Keeps tops put shown → Keeps tops new shown
keeps-as tops new put shown e k = subst (λ (n : List LegTop). Keeps tops n shown) (sym e) k

changed : (tops : List LegTop) (leg : ℕ) (side : Side) (new : LegTop) (q : SideQuotes) → length tops ≡ 6 → sound_tops tops ≡ true → ltb leg 6 ≡ true → sound_leg 1 (quotes_of new) ≡ true → quotes_of new side ≡ q → quotes_of new (opposite side) ≡ quotes_of (get_or tops leg no_top) (opposite side) → Keeps tops (set tops leg new) (replaced (shown_of tops) leg side q)
changed tops leg side new q long sound in6 kept here there =
    let lt : leg < length tops = omega (arith, ltb-true leg 6 in6) in
    record { long = length-set tops leg new ∙ long; sound = set-sound tops leg new sound kept; shows = sheet-replaced tops leg side new q lt here there }

same : (tops : List LegTop) (leg : ℕ) (side : Side) → length tops ≡ 6 → sound_tops tops ≡ true → Keeps tops tops (replaced (shown_of tops) leg side (shown_of tops leg side))
same tops leg side long sound = record { long = long; sound = sound; shows = replaced-same (shown_of tops) leg side }

not-refused : (in6 : Bool) (why : Option Refusal) → cond in6 why (Some QuoteRange) ≡ None → (in6 ≡ true) × (why ≡ None)
not-refused true why e = (refl, e)
not-refused false why e = absurd (cc)

own-keeps : (why : Option Refusal) (tops : List LegTop) (leg : ℕ) (side : Side) (level : Level) → length tops ≡ 6 → sound_tops tops ≡ true → own_refusal (shown_of tops) leg side level ≡ why →
    Keeps tops (unless_refused why (set tops leg (with_own (get_or tops leg no_top) side (level_given level))) tops)
    (replaced (shown_of tops) leg side (unless_refused why (record { own = list_of (level_given level); away = (shown_of tops leg side).away }) (shown_of tops leg side)))
own-keeps None tops leg side level long sound e =
    let top = get_or tops leg no_top in
    let fits = not-refused (ltb leg 6) (level_refusal side level (list_of (own_of top (opposite side)))) e in
    changed tops leg side (with_own top side (level_given level)) _ long sound fits.0
    (set-own-keeps top side level fits.1 (leg-sound tops leg sound)) (own-here top side (level_given level)) (own-there top side (level_given level))
own-keeps (Some refusal) tops leg side level long sound e = same tops leg side long sound

pub put-own-keeps : (tops : List LegTop) (leg : ℕ) (side : Side) (level : Level) → length tops ≡ 6 → sound_tops tops ≡ true → Keeps tops (own_put tops leg side level) (own_set (shown_of tops) leg side level)
put-own-keeps tops leg side level long sound = own-keeps (own_refusal (shown_of tops) leg side level) tops leg side level long sound refl

pub not-refused-away : (in6 fits : Bool) → cond (in6 && fits) None (Some QuoteRange) ≡ None → (in6 ≡ true) × (fits ≡ true)
not-refused-away true true e = (refl, refl)
not-refused-away true false e = absurd (cc)
not-refused-away false fits e = absurd (cc)

away-keeps : (why : Option Refusal) (tops : List LegTop) (leg : ℕ) (side : Side) (price : ℕ) → length tops ≡ 6 → sound_tops tops ≡ true → away_refusal leg price ≡ why →
    Keeps tops (unless_refused why (set tops leg (with_away (get_or tops leg no_top) side (away_given price))) tops)
    (replaced (shown_of tops) leg side (unless_refused why (record { own = (shown_of tops leg side).own; away = away_given price }) (shown_of tops leg side)))
away-keeps None tops leg side price long sound e =
    let top = get_or tops leg no_top in
    let fits = not-refused-away (ltb leg 6) (sound_away (away_given price)) e in
    changed tops leg side (with_away top side (away_given price)) _ long sound fits.0
    (set-away-keeps top side (away_given price) fits.1 (leg-sound tops leg sound)) (away-here top side (away_given price)) (away-there top side (away_given price))
away-keeps (Some refusal) tops leg side price long sound e = same tops leg side long sound

pub put-away-keeps : (tops : List LegTop) (leg : ℕ) (side : Side) (price : ℕ) → length tops ≡ 6 → sound_tops tops ≡ true → Keeps tops (away_put tops leg side price) (away_set (shown_of tops) leg side price)
put-away-keeps tops leg side price long sound = away-keeps (away_refusal leg price) tops leg side price long sound refl

-- a leg that the sheet lacks has nothing to take
pub none-to-take : (tops : List LegTop) (leg : ℕ) (side : Side) (quantity : ℕ) → length tops ≡ 6 → 6 ≤ leg → may_take (shown_of tops leg side).own quantity ≡ false
none-to-take tops leg side quantity long past = ap (λ (q : SideQuotes). may_take q.own quantity) (sheet-lacking tops long leg side past)

take-fits : (tops : List LegTop) (leg : ℕ) (side : Side) (quantity : ℕ) → length tops ≡ 6 → may_take (shown_of tops leg side).own quantity ≡ true → ltb leg 6 ≡ true
take-fits tops leg side quantity long e =
    elim (cases_lt leg 6) [
      | inl below ↦ lt-ltb leg 6 below
      | inr past ↦ absurd (both_ways (may_take (shown_of tops leg side).own quantity) (none-to-take tops leg side quantity long past) e)
    ]

take-keeps-when : (may : Bool) (tops : List LegTop) (leg : ℕ) (side : Side) (quantity : ℕ) → length tops ≡ 6 → sound_tops tops ≡ true → may_take (shown_of tops leg side).own quantity ≡ may →
    Keeps tops (cond may (set tops leg (with_own (get_or tops leg no_top) side (own_left (own_of (get_or tops leg no_top) side) quantity))) tops)
    (replaced (shown_of tops) leg side (record { own = cond may (less_best (shown_of tops leg side).own quantity) (shown_of tops leg side).own; away = (shown_of tops leg side).away }))
take-keeps-when true tops leg side quantity long sound e =
    let top = get_or tops leg no_top in
    let left = own_left (own_of top side) quantity in
    let leaves : list_of left ≡ less_best (list_of (own_of top side)) quantity = take-leaves (own_of top side) quantity in
    changed tops leg side (with_own top side left) _ long sound (take-fits tops leg side quantity long e)
    (take-keeps top side quantity e (leg-sound tops leg sound)) (own-here top side left ∙ ap (λ (o : List Level). record { own = o; away = (quotes_of top side).away }) leaves) (own-there top side left)
take-keeps-when false tops leg side quantity long sound e = same tops leg side long sound

pub take-best-keeps : (tops : List LegTop) (leg : ℕ) (side : Side) (quantity : ℕ) → length tops ≡ 6 → sound_tops tops ≡ true → Keeps tops (take_put tops leg side quantity) (taken (shown_of tops) leg side quantity)
take-best-keeps tops leg side quantity long sound = take-keeps-when (may_take (shown_of tops leg side).own quantity) tops leg side quantity long sound refl
