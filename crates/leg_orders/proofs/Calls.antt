-- What each call leaves of a book: one record for each, with all that the book keeps and all that the call tells.
use Rattle.std.proofs.Common.{◌≡◌, ℕ, ◌+◌, Bool, true, cond, leb, List, [], ◌∷◌, length, Some, None, Option, sym, refl, ap, ◌∙◌, subst, arith}
use Rattle.std.specs.List.{slice_get, insert, remove}
use Rattle.std.proofs.lemmas.Bool.{or_parts, leb-false, le-leb}
use Rattle.terms.specs.declared.side.Side.{Side}
use Rattle.terms.specs.Sides.{opposite}
use Rattle.quotes.specs.declared.level.Level.{Level}
use Rattle.quotes.specs.Takes.{may_take, taken}
use Rattle.quotes.specs.Tops.{list_of}
use Rattle.quotes.specs.Sheets.{would_reach, away_set}
use Rattle.ranked.specs.Order.{in_order, place_for, in_rank, place_given, inserted_at, FoundAt}
use Rattle.ranked.proofs.Places.{inserted-in-rank}
use Rattle.leg_orders.specs.declared.order.LegOrder.{LegOrder}
use Rattle.leg_orders.specs.Ranks.{leg_before, ahead_of}
use Rattle.leg_orders.specs.Levels.{own}
use Rattle.leg_orders.specs.Books.{book_shown, SoundBook, away_prices, may_stand, AwayPrices}
use Rattle.leg_orders.specs.Uses.{used_up}
use Rattle.leg_orders.specs.Adds.{crowded, book_full, add_refusal, entered}
use Rattle.leg_orders.specs.Leaves.{order_numbered, without, left_if}
use Rattle.leg_orders.specs.Scans.{used_from}
use Rattle.leg_orders.proofs.Starts.{used_start}
use Rattle.leg_orders.proofs.Books.{shows-used, may-enough}
use Rattle.leg_orders.proofs.Kept.{Kept, accepted, add_kept, add-shows, take-kept}
use Rattle.leg_orders.proofs.Leaves.{standing, withdraw-kept, withdraw-shows}
use Rattle.leg_orders.proofs.Aways.{AwayKept, away-kept}

-- ---- an add that is not refused

pub record Added (orders new : List LegOrder) (away : List AwayPrices) (order : LegOrder) : Type 0 where
  pub kept : Kept order.number new away
  pub few : leb order.number 1000000 ≡ true
  pub ranked : new ≡ in_rank leg_before order orders
  pub shows : (l : ℕ) (s : Side) → book_shown new away l s ≡ entered (book_shown orders away) order l s

pub added : (last room : ℕ) (orders new : List LegOrder) (away : List AwayPrices) (order : LegOrder) (place : Option ℕ) → order.number ≡ last + 1 → Kept last orders away →
    None ≡ add_refusal (book_shown orders away) (book_full room (length orders) last) order →
    place ≡ place_given leg_before order orders room → new ≡ inserted_at orders place order → in_order leg_before new ≡ true →
    Added orders new away order
added last room orders new away order place next kept fits at list up =
    let full = book_full room (length orders) last in
    let a = accepted (may_stand order) (would_reach order.at.side order.price (own order.at.leg (opposite order.at.side) orders)) full (crowded order.price order.contracts (own order.at.leg order.at.side orders)) (sym fits) in
    let free = or_parts (leb room (length orders)) (leb 1000000 last) a.room in
    let first = place_for leg_before order orders in
    let there : place ≡ Some first = at ∙ ap (λ (b : Bool). cond b None (Some first)) free.0 in
    let is : new ≡ insert orders first order = list ∙ ap (λ (p : Option ℕ). inserted_at orders p order) there in
    let ranked : in_order leg_before (insert orders first order) ≡ true = subst (λ (xs : List LegOrder). in_order leg_before xs ≡ true) is up in
    record {
      kept =
          subst (λ (number : ℕ). Kept number new away) (sym next)
          (subst (λ (xs : List LegOrder). Kept (last + 1) xs away) (sym is) (add_kept last away full order orders first next (sym fits) ranked kept));
      few = le-leb order.number 1000000 (omega (arith, leb-false 1000000 last free.1, next));
      ranked = is ∙ inserted-in-rank leg_before order orders;
      shows = λ l s. ap (λ (xs : List LegOrder). book_shown xs away l s) is ∙ add-shows away order orders first ranked l s;
    }

-- ---- a withdrawal

pub record Withdrawn (last : ℕ) (orders new : List LegOrder) (away : List AwayPrices) (number : ℕ) : Type 0 where
  pub kept : Kept last new away
  pub rest : new ≡ without number orders
  pub shows : (l : ℕ) (s : Side) → book_shown new away l s ≡ left_if (order_numbered number orders) (book_shown orders away) l s

pub withdrawn : (last : ℕ) (orders new : List LegOrder) (away : List AwayPrices) (number place : ℕ) (d : LegOrder) → Kept last orders away → FoundAt (λ (o : LegOrder). o.number) orders number place →
    new ≡ remove orders place → in_order leg_before new ≡ true → Withdrawn last orders new away number
withdrawn last orders new away number place d kept at list up =
    let s = standing number orders place at in
    let ranked : in_order leg_before (remove orders place) ≡ true = subst (λ (xs : List LegOrder). in_order leg_before xs ≡ true) list up in
    let rest = withdraw-kept last away orders place d at.within ranked kept in
    record {
      kept = subst (λ (xs : List LegOrder). Kept last xs away) (sym list) rest;
      rest = list ∙ s.rest;
      shows = λ l t.
          ap (λ (xs : List LegOrder). book_shown xs away l t) list
          ∙ withdraw-shows away orders place d at.within kept.ranked rest.fine l t
          ∙ ap (λ (o : Option LegOrder). left_if o (book_shown orders away) l t) (sym (s.order d));
    }

-- ---- an away price

pub away-put : (orders : List LegOrder) (away new : List AwayPrices) (leg : ℕ) (side : Side) (price : ℕ) → length away ≡ 6 → SoundBook orders away → new ≡ away_prices away leg side price → AwayKept orders new (away_set (book_shown orders away) leg side price)
away-put orders away new leg side price long sound is = subst (λ (a : List AwayPrices). AwayKept orders a (away_set (book_shown orders away) leg side price)) (sym is) (away-kept orders away leg side price long sound)

-- ---- a take that is not refused

pub record Took (last : ℕ) (orders new : List LegOrder) (away : List AwayPrices) (leg : ℕ) (side : Side) (quantity : ℕ) : Type 0 where
  pub kept : Kept last new away
  pub rest : new ≡ used_up leg side quantity orders
  pub shows : (l : ℕ) (s : Side) → book_shown new away l s ≡ taken (book_shown orders away) leg side quantity l s

-- whether the best level gives so many is whether the levels do
pub best-may : (levels : List Level) (quantity : ℕ) → may_take (list_of (slice_get levels 0)) quantity ≡ may_take levels quantity
best-may [] quantity = refl
best-may (level ∷ levels) quantity = refl

pub took : (last : ℕ) (orders new : List LegOrder) (away : List AwayPrices) (leg : ℕ) (side : Side) (quantity start : ℕ) → Kept last orders away →
    may_take (own leg side orders) quantity ≡ true → start ≡ place_for leg_before (ahead_of leg side) orders →
    new ≡ used_from start quantity orders → in_order leg_before new ≡ true → Took last orders new away leg side quantity
took last orders new away leg side quantity start kept may at list up =
    let is : new ≡ used_up leg side quantity orders =
    list ∙ ap (λ (n : ℕ). used_from n quantity orders) at ∙ used_start leg side quantity orders kept.fine kept.ranked (may-enough (own leg side orders) quantity may) in
    let ranked : in_order leg_before (used_up leg side quantity orders) ≡ true = subst (λ (xs : List LegOrder). in_order leg_before xs ≡ true) is up in
    record {
      kept = subst (λ (xs : List LegOrder). Kept last xs away) (sym is) (take-kept last away leg side quantity orders may ranked kept);
      rest = is;
      shows = λ l s. ap (λ (xs : List LegOrder). book_shown xs away l s) is ∙ shows-used leg side quantity orders away kept.fine kept.ranked may l s;
    }
