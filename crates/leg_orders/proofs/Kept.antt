-- What a book keeps through an add, a withdrawal and a take.
use Rattle.std.proofs.Common.{◌≡◌, ℕ, zero, suc, ◌+◌, Bool, true, false, cond, ◌||◌, List, [], ◌∷◌, ◌++◌, take, drop, Some, None, sym, refl, ap, ◌∙◌, subst, take-append-drop}
use Rattle.std.specs.List.{insert}
use Rattle.terms.specs.declared.refusal.Refusal.TheVariants.{QuoteRange, QuoteCrosses, BookRoom}
use Rattle.terms.specs.declared.side.Side.{Side}
use Rattle.terms.specs.declared.side.Side.TheVariants.{Buy, Sell}
use Rattle.terms.specs.Sides.{opposite}
use Rattle.quotes.specs.declared.level.Level.{Level}
use Rattle.quotes.specs.Shown.{sound_levels}
use Rattle.quotes.specs.Takes.{may_take}
use Rattle.quotes.specs.Sheets.{would_reach}
use Rattle.quotes.proofs.Parts.{side-parts, leg-side}
use Rattle.ranked.specs.Order.{leads, in_order, place_for}
use Rattle.leg_orders.specs.declared.order.LegOrder.{LegOrder}
use Rattle.leg_orders.specs.Ranks.{leg_before, ahead_of}
use Rattle.leg_orders.specs.Levels.{is_of, level_from, own}
use Rattle.leg_orders.specs.Books.{book_shown, SoundBook, may_stand, fine_orders, numbers_kept, AwayPrices}
use Rattle.leg_orders.specs.Uses.{used_up}
use Rattle.leg_orders.specs.Adds.{crowded, add_refusal, entered}
use Rattle.leg_orders.specs.Scans.{Scannable}
use Rattle.leg_orders.proofs.Enters.{order-rest}
use Rattle.leg_orders.proofs.Lessens.{alone-contracts}
use Rattle.leg_orders.proofs.Starts.{start-leads, start-own}
use Rattle.leg_orders.proofs.Uses.{stands-level}
use Rattle.leg_orders.proofs.Keeps.{fine_more, fine-less, fine-used, numbers_more, numbers-less, numbers-used}
use Rattle.leg_orders.proofs.Sides.{MayEnter}
use Rattle.leg_orders.proofs.Books.{shows-entered, sound-entered, sound-left, sound-used, may-enough, here}

pub record Kept (last : ℕ) (orders : List LegOrder) (away : List AwayPrices) : Type 0 where
  pub ranked : in_order leg_before orders ≡ true
  pub fine : fine_orders orders ≡ true
  pub numbers : numbers_kept last orders ≡ true
  pub sound : SoundBook orders away

-- ---- an order that is not refused

pub record Accepted (stands crosses full crowd : Bool) : Type 0 where
  pub may : stands ≡ true
  pub apart : crosses ≡ false
  pub room : full ≡ false
  pub fits : crowd ≡ false

pub accepted : (stands crosses full crowd : Bool) → cond stands (cond crosses (Some QuoteCrosses) (cond (full || crowd) (Some BookRoom) None)) (Some QuoteRange) ≡ None → Accepted stands crosses full crowd
accepted false crosses full crowd e = absurd (cc)
accepted true true full crowd e = absurd (cc)
accepted true false true crowd e = absurd (cc)
accepted true false false true e = absurd (cc)
accepted true false false false e = record { may = refl; apart = refl; room = refl; fits = refl }

add-fits : (orders : List LegOrder) (away : List AwayPrices) (full : Bool) (x : LegOrder) → add_refusal (book_shown orders away) full x ≡ None → (l : ℕ) (s : Side) → is_of l s x ≡ true → MayEnter s (own l s orders) (own l (opposite s) orders) (level_from x)
add-fits orders away full x e l s of =
    let a = accepted (may_stand x) (would_reach x.at.side x.price (own x.at.leg (opposite x.at.side) orders)) full (crowded x.price x.contracts (own x.at.leg x.at.side orders)) e in
    let at = here x.at.leg l x.at.side s of in
    let many : x.contracts ≡ (level_from x).customer + (level_from x).other = sym (alone-contracts x.price x.customer x.contracts) in
    let fits : MayEnter x.at.side (own x.at.leg x.at.side orders) (own x.at.leg (opposite x.at.side) orders) (level_from x) =
    record { sound = stands-level x a.may; clear = a.apart; roomy = subst (λ (n : ℕ). crowded x.price n (own x.at.leg x.at.side orders) ≡ false) many a.fits } in
    subst (λ (side : Side). MayEnter side (own l side orders) (own l (opposite side) orders) (level_from x)) at.1
    (subst (λ (leg : ℕ). MayEnter x.at.side (own leg x.at.side orders) (own leg (opposite x.at.side) orders) (level_from x)) at.0 fits)

-- ---- with the order between two parts of the list

more-kept : (last : ℕ) (away : List AwayPrices) (full : Bool) (x : LegOrder) (xs ys : List LegOrder) → x.number ≡ last + 1 → add_refusal (book_shown (xs ++ ys) away) full x ≡ None → in_order leg_before (xs ++ x ∷ ys) ≡ true → Kept last (xs ++ ys) away → Kept (last + 1) (xs ++ x ∷ ys) away
more-kept last away full x xs ys next e ranked kept =
    let fits = add-fits (xs ++ ys) away full x e in
    let a = accepted (may_stand x) (would_reach x.at.side x.price (own x.at.leg (opposite x.at.side) (xs ++ ys))) full (crowded x.price x.contracts (own x.at.leg x.at.side (xs ++ ys))) e in
    record {
      ranked = ranked;
      fine = fine_more x xs ys a.may kept.fine;
      numbers = numbers_more last x xs ys next kept.numbers;
      sound = sound-entered x xs ys away ranked (λ l. fits l Buy) (λ l. fits l Sell) kept.sound;
    }

pub less-kept : (last : ℕ) (away : List AwayPrices) (x : LegOrder) (xs ys : List LegOrder) → in_order leg_before (xs ++ ys) ≡ true → Kept last (xs ++ x ∷ ys) away → Kept last (xs ++ ys) away
less-kept last away x xs ys ranked kept =
    let fine = fine-less x xs ys kept.fine in
    record { ranked = ranked; fine = fine; numbers = numbers-less last x xs ys kept.numbers; sound = sound-left x xs ys away kept.ranked fine kept.sound }

-- ---- by place

pub add_kept : (last : ℕ) (away : List AwayPrices) (full : Bool) (x : LegOrder) (orders : List LegOrder) (place : ℕ) → x.number ≡ last + 1 → add_refusal (book_shown orders away) full x ≡ None → in_order leg_before (insert orders place x) ≡ true → Kept last orders away → Kept (last + 1) (insert orders place x) away
add_kept last away full x orders place next e ranked kept =
    let whole : orders ≡ take place orders ++ drop place orders = sym (take-append-drop place orders) in
    more-kept last away full x (take place orders) (drop place orders) next
    (subst (λ (o : List LegOrder). add_refusal (book_shown o away) full x ≡ None) whole e) ranked (subst (λ (o : List LegOrder). Kept last o away) whole kept)

pub add-shows : (away : List AwayPrices) (x : LegOrder) (orders : List LegOrder) (place : ℕ) → in_order leg_before (insert orders place x) ≡ true → (l : ℕ) (s : Side) → book_shown (insert orders place x) away l s ≡ entered (book_shown orders away) x l s
add-shows away x orders place ranked l s =
    shows-entered x (take place orders) (drop place orders) away ranked l s
    ∙ ap (λ (o : List LegOrder). entered (book_shown o away) x l s) (take-append-drop place orders)

pub take-kept : (last : ℕ) (away : List AwayPrices) (leg : ℕ) (side : Side) (quantity : ℕ) (orders : List LegOrder) → may_take (own leg side orders) quantity ≡ true → in_order leg_before (used_up leg side quantity orders) ≡ true → Kept last orders away → Kept last (used_up leg side quantity orders) away
take-kept last away leg side quantity orders may ranked kept =
    record {
      ranked = ranked;
      fine = fine-used leg side quantity orders kept.fine;
      numbers = numbers-used last leg side quantity orders kept.numbers;
      sound = sound-used leg side quantity orders away kept.fine kept.ranked (may-enough (own leg side orders) quantity may) kept.sound;
    }

-- ---- where a side begins

side-levels : (orders : List LegOrder) (away : List AwayPrices) (leg : ℕ) (side : Side) → SoundBook orders away → sound_levels side (own leg side orders) ≡ true
side-levels orders away leg side sound = (side-parts 16 side (book_shown orders away leg side) (leg-side 16 (book_shown orders away leg) side (sound leg))).levels

-- the orders ahead of it are of no level of the side
pub levels-from : (orders : List LegOrder) (leg : ℕ) (side : Side) → fine_orders orders ≡ true → (start : ℕ) → start ≡ place_for leg_before (ahead_of leg side) orders → own leg side (drop start orders) ≡ own leg side orders
levels-from orders leg side fine start at = ap (λ (n : ℕ). own leg side (drop n orders)) at ∙ start-own leg side orders fine

order-drop : (orders : List LegOrder) (i : ℕ) → in_order leg_before orders ≡ true → in_order leg_before (drop i orders) ≡ true
order-drop orders zero h = h
order-drop [] (suc i) h = refl
order-drop (x ∷ orders) (suc i) h = order-drop orders i (order-rest x orders h)

pub start-scan : (orders : List LegOrder) (away : List AwayPrices) (leg : ℕ) (side : Side) → in_order leg_before orders ≡ true → fine_orders orders ≡ true → SoundBook orders away → (start : ℕ) → start ≡ place_for leg_before (ahead_of leg side) orders → Scannable leg side (drop start orders)
start-scan orders away leg side ranked fine sound start at =
    record {
      ranked = order-drop orders start ranked;
      lead = subst (λ (n : ℕ). leads leg_before (ahead_of leg side) (drop n orders) ≡ true) (sym at) (start-leads (ahead_of leg side) orders ranked);
      sound = subst (λ (levels : List Level). sound_levels side levels ≡ true) (sym (levels-from orders leg side fine start at)) (side-levels orders away leg side sound);
    }
