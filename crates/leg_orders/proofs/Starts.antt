-- Where the orders of one side of one leg begin and end among ranked orders.
use Rattle.std.proofs.Common.{◌≡◌, ℕ, ◌-◌, Bool, true, false, cond, not, ◌&&◌, eqb, ltb, leb, List, [], ◌∷◌, drop, sym, refl, ap, ◌∙◌, subst, inl, inr, arith}
use Rattle.std.proofs.lemmas.Bool.Decides.{nat_tests}
use Rattle.std.proofs.lemmas.Bool.{cases_Bool, cases_lt, and_parts, and_from, both_ways, eqb-true, le-leb, lt-leb, not_from_false}
use Rattle.terms.specs.declared.side.Side.{Side}
use Rattle.terms.specs.declared.side.Side.TheVariants.{Buy, Sell}
use Rattle.terms.specs.Sides.{same_side}
use Rattle.quotes.specs.Shown.{in_price_range}
use Rattle.ranked.specs.Order.{leads, in_order, place_for}
use Rattle.ranked.proofs.Leads.{leads-from-behind}
use Rattle.leg_orders.specs.declared.order.LegOrder.{LegOrder}
use Rattle.leg_orders.specs.Ranks.{placed_of, sooner_of, sooner, leg_before, best_possible, ahead_of}
use Rattle.leg_orders.specs.Levels.{is_of, level_from, join, own}
use Rattle.leg_orders.specs.Books.{may_stand, fine_orders}
use Rattle.leg_orders.specs.Uses.{fewer, used_up}
use Rattle.leg_orders.specs.Scans.{used_from_first, used_from}
use Rattle.leg_orders.specs.RanksLemmas.{oneway, chain}
use Rattle.leg_orders.proofs.Enters.{leads-first, leads-rest, order-first, order-rest}
use Rattle.leg_orders.proofs.Lessens.{enough, all-enough}
use Rattle.leg_orders.proofs.Uses.{fine-first, fine-rest, some-contracts, stands-level}

-- ---- behind the side

-- the leg and side of an order come after these
abbrev beyond : ℕ → Side → ℕ → Side → Bool
beyond leg Buy l Sell = leb leg l
beyond leg Buy l Buy = ltb leg l
beyond leg Sell l Buy = ltb leg l
beyond leg Sell l Sell = ltb leg l

beyond-off : (leg : ℕ) (side : Side) (l : ℕ) (s : Side) → beyond leg side l s ≡ true → (eqb l leg && same_side s side) ≡ false
beyond-off leg Buy l Buy h = grind (arith, nat_tests)
beyond-off leg Buy l Sell h = grind (arith, nat_tests)
beyond-off leg Sell l Buy h = grind (arith, nat_tests)
beyond-off leg Sell l Sell h = grind (arith, nat_tests)

beyond-first : (leg : ℕ) (side : Side) (l : ℕ) (s : Side) (p q : ℕ) (tie : Bool) → cond (eqb l leg) (placed_of s p side q tie) (ltb l leg) ≡ false → (eqb l leg && same_side s side) ≡ false → beyond leg side l s ≡ true
beyond-first leg Buy l Buy p q tie h k = grind (arith, nat_tests)
beyond-first leg Buy l Sell p q tie h k = grind (arith, nat_tests)
beyond-first leg Sell l Buy p q tie h k = grind (arith, nat_tests)
beyond-first leg Sell l Sell p q tie h k = grind (arith, nat_tests)

beyond-next : (leg : ℕ) (side : Side) (l : ℕ) (s : Side) (m : ℕ) (t : Side) (p q : ℕ) (tie : Bool) → cond (eqb m l) (placed_of t p s q tie) (ltb m l) ≡ false → beyond leg side l s ≡ true → beyond leg side m t ≡ true
beyond-next leg Buy l Buy m Buy p q tie h k = grind (arith, nat_tests)
beyond-next leg Buy l Buy m Sell p q tie h k = grind (arith, nat_tests)
beyond-next leg Buy l Sell m Buy p q tie h k = grind (arith, nat_tests)
beyond-next leg Buy l Sell m Sell p q tie h k = grind (arith, nat_tests)
beyond-next leg Sell l Buy m Buy p q tie h k = grind (arith, nat_tests)
beyond-next leg Sell l Buy m Sell p q tie h k = grind (arith, nat_tests)
beyond-next leg Sell l Sell m Buy p q tie h k = grind (arith, nat_tests)
beyond-next leg Sell l Sell m Sell p q tie h k = grind (arith, nat_tests)

none-led : (leg : ℕ) (side : Side) (x : LegOrder) (xs : List LegOrder) → beyond leg side x.at.leg x.at.side ≡ true → leads leg_before x xs ≡ true → own leg side xs ≡ []
none-led leg side x [] h lead = refl
none-led leg side x (y ∷ ys) h lead =
    let far = beyond-next leg side x.at.leg x.at.side y.at.leg y.at.side y.price x.price (sooner y x) (leads-first x y ys lead) h in
    rw (beyond-off leg side y.at.leg y.at.side far) (none-led leg side x ys h (leads-rest x y ys lead))

-- once an order of another side stands there, none of this side follows
pub none-behind : (leg : ℕ) (side : Side) (x : LegOrder) (xs : List LegOrder) → leads leg_before (ahead_of leg side) (x ∷ xs) ≡ true → leads leg_before x xs ≡ true → is_of leg side x ≡ false → own leg side (x ∷ xs) ≡ []
none-behind leg side x xs mark lead off =
    let far = beyond-first leg side x.at.leg x.at.side x.price (best_possible side) (sooner x (ahead_of leg side)) (leads-first (ahead_of leg side) x xs mark) off in
    rw off (none-led leg side x xs far lead)

-- ---- from where the side begins

mark-first : (side s : Side) (leg l p n : ℕ) (b : Bool) → (eqb l leg && same_side s side) ≡ true → in_price_range p ≡ true → cond (eqb leg l) (placed_of side (best_possible side) s p (sooner_of true 0 b n)) (ltb leg l) ≡ true
mark-first Buy Buy leg l p n b of h = grind (arith, nat_tests)
mark-first Buy Sell leg l p n b of h = grind (arith, nat_tests)
mark-first Sell Buy leg l p n b of h = grind (arith, nat_tests)
mark-first Sell Sell leg l p n b of h = grind (arith, nat_tests)

-- an order that the mark does not precede is not of the side
before-mark : (leg : ℕ) (side : Side) (x : LegOrder) → may_stand x ≡ true → leg_before (ahead_of leg side) x ≡ false → is_of leg side x ≡ false
before-mark leg side x stands h =
    elim (cases_Bool (is_of leg side x)) [
      | inl of ↦
          let range = (and_parts (in_price_range x.price) _ (stands-level x stands)).0 in
          absurd (both_ways (leg_before (ahead_of leg side) x) h (mark-first side x.at.side leg x.at.leg x.price x.number x.customer of range))
      | inr off ↦ off
    ]

pub start-leads : (m : LegOrder) (xs : List LegOrder) → in_order leg_before xs ≡ true → leads leg_before m (drop (place_for leg_before m xs) xs) ≡ true
start-leads m [] ranked = refl
start-leads m (x ∷ xs) ranked =
    elim (cases_Bool (leg_before m x)) [
      | inl e ↦ rw e (and_from (not (leg_before x m)) (leads leg_before m xs) (not_from_false (leg_before x m) (oneway m x e)) (leads-from-behind leg_before chain m x xs (oneway m x e) (order-first x xs ranked)))
      | inr e ↦ rw e (start-leads m xs (order-rest x xs ranked))
    ]

pub start-own : (leg : ℕ) (side : Side) (xs : List LegOrder) → fine_orders xs ≡ true → own leg side (drop (place_for leg_before (ahead_of leg side) xs) xs) ≡ own leg side xs
start-own leg side [] fine = refl
start-own leg side (x ∷ xs) fine =
    elim (cases_Bool (leg_before (ahead_of leg side) x)) [
      | inl e ↦ rw e refl
      | inr e ↦ rw (e, before-mark leg side x (fine-first x xs fine) e) (start-own leg side xs (fine-rest x xs fine))
    ]

-- ---- orders used up from there

fewer-none : (x : LegOrder) → fewer x 0 ≡ x
fewer-none x =
    let same : x.contracts - 0 ≡ x.contracts = omega arith in
    ap (λ (n : ℕ). record { number = x.number; at = x.at; price = x.price; contracts = n; customer = x.customer }) same

used-none : (leg : ℕ) (side : Side) (xs : List LegOrder) → fine_orders xs ≡ true → used_up leg side 0 xs ≡ xs
used-none leg side [] fine = refl
used-none leg side (x ∷ xs) fine =
    let some = some-contracts x (fine-first x xs fine) in
    elim (cases_Bool (is_of leg side x)) [
      | inl of ↦ rw (of, lt-leb x.contracts 0 (omega arith)) (ap (λ (y : LegOrder). y ∷ xs) (fewer-none x))
      | inr off ↦ rw off (ap (λ (ys : List LegOrder). x ∷ ys) (used-none leg side xs (fine-rest x xs fine)))
    ]

all_none : (xs : List LegOrder) → fine_orders xs ≡ true → used_from_first 0 xs ≡ xs
all_none [] fine = refl
all_none (x ∷ xs) fine =
    let some = some-contracts x (fine-first x xs fine) in
    rw (lt-leb x.contracts 0 (omega arith)) (ap (λ (y : LegOrder). y ∷ xs) (fewer-none x))

used-there : (leg : ℕ) (side : Side) (n : ℕ) (xs : List LegOrder) → fine_orders xs ≡ true → in_order leg_before xs ≡ true → leads leg_before (ahead_of leg side) xs ≡ true → enough (own leg side xs) n ≡ true → used_from_first n xs ≡ used_up leg side n xs
used-there leg side n [] fine ranked mark e = refl
used-there leg side n (x ∷ xs) fine ranked mark e =
    elim (cases_Bool (is_of leg side x)) [
      | inl of ↦
          let f : enough (join (level_from x) (own leg side xs)) n ≡ true = rw of at e in
          elim (cases_lt n x.contracts) [
            | inl part ↦ rw (of, lt-leb x.contracts n part) refl
            | inr all ↦
                rw (of, le-leb x.contracts n all)
                (used-there leg side (n - x.contracts) xs (fine-rest x xs fine) (order-rest x xs ranked) (leads-rest (ahead_of leg side) x xs mark) (all-enough x.price x.customer x.contracts n (own leg side xs) all f))
          ]
      | inr off ↦
          let bare = none-behind leg side x xs mark (order-first x xs ranked) off in
          let none : n ≡ 0 = eqb-true n 0 (subst (λ levels. enough levels n ≡ true) bare e) in
          subst (λ (m : ℕ). used_from_first m (x ∷ xs) ≡ used_up leg side m (x ∷ xs)) (sym none) (all_none (x ∷ xs) fine ∙ sym (used-none leg side (x ∷ xs) fine))
    ]

pub used_start : (leg : ℕ) (side : Side) (n : ℕ) (xs : List LegOrder) → fine_orders xs ≡ true → in_order leg_before xs ≡ true → enough (own leg side xs) n ≡ true → used_from (place_for leg_before (ahead_of leg side) xs) n xs ≡ used_up leg side n xs
used_start leg side n [] fine ranked e = refl
used_start leg side n (x ∷ xs) fine ranked e =
    let mark = start-leads (ahead_of leg side) (x ∷ xs) ranked in
    elim (cases_Bool (leg_before (ahead_of leg side) x)) [
      | inl here ↦
          let lead : leads leg_before (ahead_of leg side) (x ∷ xs) ≡ true = rw here at mark in
          rw here (used-there leg side n (x ∷ xs) fine ranked lead e)
      | inr ahead ↦
          let off = before-mark leg side x (fine-first x xs fine) ahead in
          let f : enough (own leg side xs) n ≡ true = rw off at e in
          rw (ahead, off) (ap (λ (ys : List LegOrder). x ∷ ys) (used_start leg side n xs (fine-rest x xs fine) (order-rest x xs ranked) f))
    ]
