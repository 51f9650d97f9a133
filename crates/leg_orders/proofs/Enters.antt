-- An order more among ranked orders enters its contracts at its price.
use Rattle.std.proofs.Common.{◌≡◌, ℕ, Bool, true, false, cond, not, ◌&&◌, eqb, ltb, List, [], ◌∷◌, ◌++◌, refl, ap, ◌∙◌, inl, inr, arith}
use Rattle.std.proofs.lemmas.Bool.Decides.{nat_tests}
use Rattle.std.proofs.lemmas.Bool.{cases_Bool, and_parts, and_from, not_from_false, not-true}
use Rattle.terms.specs.declared.side.Side.{Side}
use Rattle.terms.specs.declared.side.Side.TheVariants.{Buy, Sell}
use Rattle.terms.specs.Sides.{same_side}
use Rattle.quotes.specs.Shown.{better}
use Rattle.ranked.specs.Order.{leads, in_order}
use Rattle.leg_orders.specs.declared.order.LegOrder.{LegOrder}
use Rattle.leg_orders.specs.Ranks.{leg_before, placed_of, sooner}
use Rattle.leg_orders.specs.Levels.{is_of, level_from, join_if, own, enter_if}
use Rattle.leg_orders.proofs.Joins.{at_least, first-joined, join-enters, join-past-enter-if}

pub leads-first : (x y : LegOrder) (ys : List LegOrder) → leads leg_before x (y ∷ ys) ≡ true → leg_before y x ≡ false
leads-first x y ys h = not-true (leg_before y x) (and_parts (not (leg_before y x)) (leads leg_before x ys) h).0

pub leads-rest : (x y : LegOrder) (ys : List LegOrder) → leads leg_before x (y ∷ ys) ≡ true → leads leg_before x ys ≡ true
leads-rest x y ys h = (and_parts (not (leg_before y x)) (leads leg_before x ys) h).1

pub order-first : (x : LegOrder) (xs : List LegOrder) → in_order leg_before (x ∷ xs) ≡ true → leads leg_before x xs ≡ true
order-first x xs h = (and_parts (leads leg_before x xs) (in_order leg_before xs) h).0

pub order-rest : (x : LegOrder) (xs : List LegOrder) → in_order leg_before (x ∷ xs) ≡ true → in_order leg_before xs ≡ true
order-rest x xs h = (and_parts (leads leg_before x xs) (in_order leg_before xs) h).1

-- ---- rank and price

ranked-price : (side s t : Side) (leg i j p q : ℕ) (tie : Bool) → (eqb i leg && same_side s side) ≡ true → (eqb j leg && same_side t side) ≡ true → cond (eqb j i) (placed_of t q s p tie) (ltb j i) ≡ false → better side q p ≡ false
ranked-price Buy Buy Buy leg i j p q tie a b h = grind (arith, nat_tests)
ranked-price Buy Buy Sell leg i j p q tie a b h = grind (arith, nat_tests)
ranked-price Buy Sell Buy leg i j p q tie a b h = grind (arith, nat_tests)
ranked-price Buy Sell Sell leg i j p q tie a b h = grind (arith, nat_tests)
ranked-price Sell Buy Buy leg i j p q tie a b h = grind (arith, nat_tests)
ranked-price Sell Buy Sell leg i j p q tie a b h = grind (arith, nat_tests)
ranked-price Sell Sell Buy leg i j p q tie a b h = grind (arith, nat_tests)
ranked-price Sell Sell Sell leg i j p q tie a b h = grind (arith, nat_tests)

-- on one side of one leg an order that does not precede another has no better price
pub no-better : (leg : ℕ) (side : Side) (x y : LegOrder) → is_of leg side x ≡ true → is_of leg side y ≡ true → leg_before y x ≡ false → better side y.price x.price ≡ false
no-better leg side x y = ranked-price side x.at.side y.at.side leg x.at.leg y.at.leg x.price y.price (sooner y x)

pub leads-price : (leg : ℕ) (side : Side) (x : LegOrder) (xs : List LegOrder) → is_of leg side x ≡ true → leads leg_before x xs ≡ true → at_least side x.price (own leg side xs) ≡ true
leads-price leg side x [] of h = refl
leads-price leg side x (y ∷ ys) of h =
    elim (cases_Bool (is_of leg side y)) [
      | inl e ↦ rw e (first-joined side x.price (level_from y) (own leg side ys) ∙ not_from_false _ (no-better leg side x y of e (leads-first x y ys h)))
      | inr e ↦ rw e (leads-price leg side x ys of (leads-rest x y ys h))
    ]

-- ---- one order more

leads-more : (o x : LegOrder) (xs ys : List LegOrder) → leads leg_before o (xs ++ x ∷ ys) ≡ true → (leg_before x o ≡ false) × (leads leg_before o (xs ++ ys) ≡ true)
leads-more o x [] ys h = (leads-first o x ys h, leads-rest o x ys h)
leads-more o x (z ∷ xs) ys h =
    let p = and_parts (not (leg_before z o)) (leads leg_before o (xs ++ x ∷ ys)) h in
    let r = leads-more o x xs ys p.1 in
    (r.0, and_from (not (leg_before z o)) (leads leg_before o (xs ++ ys)) p.0 r.1)

pub entered : (leg : ℕ) (side : Side) (x : LegOrder) (xs ys : List LegOrder) → in_order leg_before (xs ++ x ∷ ys) ≡ true → own leg side (xs ++ x ∷ ys) ≡ enter_if (is_of leg side x) side (level_from x) (own leg side (xs ++ ys))
entered leg side x [] ys h =
    elim (cases_Bool (is_of leg side x)) [
      | inl e ↦ rw e (join-enters side (level_from x) (own leg side ys) (leads-price leg side x ys e (order-first x ys h)))
      | inr e ↦ rw e refl
    ]
entered leg side x (o ∷ xs) ys h =
    let more = leads-more o x xs ys (order-first o (xs ++ x ∷ ys) h) in
    ap (join_if (is_of leg side o) (level_from o)) (entered leg side x xs ys (order-rest o (xs ++ x ∷ ys) h))
    ∙ join-past-enter-if (is_of leg side o) (is_of leg side x) side (level_from o) (level_from x) (own leg side (xs ++ ys))
    (λ a b. no-better leg side o x a b more.0) (λ a. leads-price leg side o (xs ++ ys) a more.1)
