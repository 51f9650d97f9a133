-- Away prices are set one at a time, and the book stays sound.
use Rattle.std.proofs.Common.{◌≡◌, ℕ, ◌<◌, true, cond, ltb, List, length, get_or, set, Some, None, Option, refl, ◌∙◌, inl, inr, arith, length-set, get_or-set_other, get_or-set_same}
use Rattle.std.proofs.lemmas.Bool.{cases_eq, eq-eqb, ne_eqb, ltb-true}
use Rattle.terms.specs.declared.refusal.Refusal.{Refusal}
use Rattle.terms.specs.declared.side.Side.{Side}
use Rattle.terms.specs.declared.side.Side.TheVariants.{Buy, Sell}
use Rattle.terms.specs.Refusals.{unless_refused}
use Rattle.terms.specs.Sides.{same_side, of_side, with_on}
use Rattle.quotes.specs.declared.level.Level.{Level}
use Rattle.quotes.specs.Shown.{Shown, sound_away, sound_leg}
use Rattle.quotes.specs.Takes.{replaced}
use Rattle.quotes.specs.Sheets.{away_given, away_refusal, away_set}
use Rattle.quotes.proofs.Parts.{side-parts, side-whole, leg-parts, leg-whole}
use Rattle.quotes.proofs.Replaces.{replaced-same}
use Rattle.quotes.proofs.Sheets.{not-refused-away}
use Rattle.leg_orders.specs.declared.order.LegOrder.{LegOrder}
use Rattle.leg_orders.specs.Levels.{own}
use Rattle.leg_orders.specs.Books.{no_away, away_prices, book_shown, SoundBook, AwayPrices}
use Rattle.leg_orders.proofs.Sides.{leg_of, side_of}

leg-away : (bids offers : List Level) (x y p q : Option ℕ) → sound_away p ≡ true → sound_away q ≡ true → sound_leg 16 (leg_of bids offers x y) ≡ true → sound_leg 16 (leg_of bids offers p q) ≡ true
leg-away bids offers x y p q e f h =
    let k = leg-parts 16 (leg_of bids offers x y) h in
    let b = side-parts 16 Buy (side_of bids x) k.bids in
    let o = side-parts 16 Sell (side_of offers y) k.offers in
    leg-whole 16 (leg_of bids offers p q)
    (record {
      bids = side-whole 16 Buy (side_of bids p) (record { short = b.short; levels = b.levels; away = e });
      offers = side-whole 16 Sell (side_of offers q) (record { short = o.short; levels = o.levels; away = f });
      apart = k.apart;
    })

away-sound : (prices : AwayPrices) (side s : Side) (price : Option ℕ) → sound_away price ≡ true → sound_away (of_side prices s) ≡ true → sound_away (of_side (with_on prices side price) s) ≡ true
away-sound prices Buy Buy price e h = e
away-sound prices Buy Sell price e h = h
away-sound prices Sell Buy price e h = h
away-sound prices Sell Sell price e h = e

side-away : (orders : List LegOrder) (away : List AwayPrices) (l : ℕ) (s : Side) → SoundBook orders away → sound_away (of_side (get_or away l no_away) s) ≡ true
side-away orders away l Buy sound = (side-parts 16 Buy (book_shown orders away l Buy) (leg-parts 16 (book_shown orders away l) (sound l)).bids).away
side-away orders away l Sell sound = (side-parts 16 Sell (book_shown orders away l Sell) (leg-parts 16 (book_shown orders away l) (sound l)).offers).away

pub record AwayKept (orders : List LegOrder) (away : List AwayPrices) (shown : Shown) : Type 0 where
  pub long : length away ≡ 6
  pub sound : SoundBook orders away
  pub shows : (l : ℕ) (s : Side) → book_shown orders away l s ≡ shown l s

away-here : (orders : List LegOrder) (prices : AwayPrices) (leg : ℕ) (side s : Side) (price : Option ℕ) →
    side_of (own leg s orders) (of_side (with_on prices side price) s) ≡ cond (same_side s side) (side_of (own leg side orders) price) (side_of (own leg s orders) (of_side prices s))
away-here orders prices leg Buy Buy price = refl
away-here orders prices leg Buy Sell price = refl
away-here orders prices leg Sell Buy price = refl
away-here orders prices leg Sell Sell price = refl

away-changed : (orders : List LegOrder) (away : List AwayPrices) (leg : ℕ) (side : Side) (price : Option ℕ) → length away ≡ 6 → SoundBook orders away → ltb leg 6 ≡ true → sound_away price ≡ true →
    AwayKept orders (set away leg (with_on (get_or away leg no_away) side price)) (replaced (book_shown orders away) leg side (record { own = own leg side orders; away = price }))
away-changed orders away leg side price long sound in6 fits =
    let new = with_on (get_or away leg no_away) side price in
    let lt : leg < length away = omega (arith, ltb-true leg 6 in6) in
    record {
      long = length-set away leg new ∙ long;
      sound = λ l.
          elim (cases_eq l leg) [
            | inl same ↦
                rw (same, get_or-set_same away leg new no_away lt)
                (leg-away (own leg Buy orders) (own leg Sell orders) (of_side (get_or away leg no_away) Buy) (of_side (get_or away leg no_away) Sell) (of_side new Buy) (of_side new Sell)
                (away-sound (get_or away leg no_away) side Buy price fits (side-away orders away leg Buy sound))
                (away-sound (get_or away leg no_away) side Sell price fits (side-away orders away leg Sell sound)) (sound leg))
            | inr other ↦ rw (get_or-set_other away leg l new no_away other) (sound l)
          ];
      shows = λ l s.
          elim (cases_eq l leg) [
            | inl same ↦ rw (same, get_or-set_same away leg new no_away lt, eq-eqb leg leg refl) (away-here orders (get_or away leg no_away) leg side s price)
            | inr other ↦ rw (get_or-set_other away leg l new no_away other, ne_eqb l leg other) refl
          ];
    }

kept-when : (why : Option Refusal) (orders : List LegOrder) (away : List AwayPrices) (leg : ℕ) (side : Side) (price : ℕ) → length away ≡ 6 → SoundBook orders away → away_refusal leg price ≡ why →
    AwayKept orders (unless_refused why (set away leg (with_on (get_or away leg no_away) side (away_given price))) away)
    (replaced (book_shown orders away) leg side (unless_refused why (record { own = own leg side orders; away = away_given price }) (book_shown orders away leg side)))
kept-when None orders away leg side price long sound e =
    let fits = not-refused-away (ltb leg 6) (sound_away (away_given price)) e in
    away-changed orders away leg side (away_given price) long sound fits.0 fits.1
kept-when (Some refusal) orders away leg side price long sound e = record { long = long; sound = sound; shows = replaced-same (book_shown orders away) leg side }

pub away-kept : (orders : List LegOrder) (away : List AwayPrices) (leg : ℕ) (side : Side) (price : ℕ) → length away ≡ 6 → SoundBook orders away → AwayKept orders (away_prices away leg side price) (away_set (book_shown orders away) leg side price)
away-kept orders away leg side price long sound = kept-when (away_refusal leg price) orders away leg side price long sound refl
