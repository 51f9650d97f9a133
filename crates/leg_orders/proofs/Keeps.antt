-- What the orders keep when one comes in, one leaves, or some are used up: each may stand, and no number stands twice.
use Rattle.std.proofs.Common.{◌≡◌, ℕ, ◌+◌, ◌-◌, ◌<◌, ◌≤◌, Bool, true, false, not, ◌&&◌, eqb, ltb, leb, List, [], ◌∷◌, ◌++◌, refl, inl, inr, arith}
use Rattle.std.proofs.lemmas.Bool.Decides.{nat_tests}
use Rattle.std.proofs.lemmas.Bool.{cases_Bool, cases_lt, and_parts, and_from, or_parts, or_from, not_from_false, not-true, ne_eqb, leb-true, le-leb, lt-leb}
use Rattle.terms.specs.declared.side.Side.{Side}
use Rattle.quotes.specs.Shown.{sound_level}
use Rattle.leg_orders.specs.declared.order.LegOrder.{LegOrder}
use Rattle.leg_orders.specs.Levels.{is_of, level_from}
use Rattle.leg_orders.specs.Books.{may_stand, fine_orders, has_number, is_given, numbers_kept}
use Rattle.leg_orders.specs.Uses.{fewer, used_up}
use Rattle.leg_orders.proofs.Lessens.{alone}

-- ---- each may stand

pub fine_more : (x : LegOrder) (xs ys : List LegOrder) → may_stand x ≡ true → fine_orders (xs ++ ys) ≡ true → fine_orders (xs ++ x ∷ ys) ≡ true
fine_more x [] ys e h = and_from (may_stand x) (fine_orders ys) e h
fine_more x (o ∷ xs) ys e h =
    let p = and_parts (may_stand o) (fine_orders (xs ++ ys)) h in
    and_from (may_stand o) (fine_orders (xs ++ x ∷ ys)) p.0 (fine_more x xs ys e p.1)

pub fine-less : (x : LegOrder) (xs ys : List LegOrder) → fine_orders (xs ++ x ∷ ys) ≡ true → fine_orders (xs ++ ys) ≡ true
fine-less x [] ys h = (and_parts (may_stand x) (fine_orders ys) h).1
fine-less x (o ∷ xs) ys h =
    let p = and_parts (may_stand o) (fine_orders (xs ++ x ∷ ys)) h in
    and_from (may_stand o) (fine_orders (xs ++ ys)) p.0 (fine-less x xs ys p.1)

fewer-level : (p : ℕ) (b : Bool) (c n : ℕ) → n < c → sound_level (alone p b c) ≡ true → sound_level (alone p b (c - n)) ≡ true
fewer-level p true c n l h = grind (arith, nat_tests)
fewer-level p false c n l h = grind (arith, nat_tests)

fewer-stands : (x : LegOrder) (n : ℕ) → n < x.contracts → may_stand x ≡ true → may_stand (fewer x n) ≡ true
fewer-stands x n l h =
    let p = and_parts (ltb x.at.leg 6) (sound_level (level_from x)) h in
    and_from (ltb x.at.leg 6) (sound_level (level_from (fewer x n))) p.0 (fewer-level x.price x.customer x.contracts n l p.1)

pub fine-used : (leg : ℕ) (side : Side) (n : ℕ) (xs : List LegOrder) → fine_orders xs ≡ true → fine_orders (used_up leg side n xs) ≡ true
fine-used leg side n [] h = refl
fine-used leg side n (x ∷ xs) h =
    let p = and_parts (may_stand x) (fine_orders xs) h in
    elim (cases_Bool (is_of leg side x)) [
      | inl of ↦
          elim (cases_lt n x.contracts) [
            | inl part ↦ rw (of, lt-leb x.contracts n part) (and_from (may_stand (fewer x n)) (fine_orders xs) (fewer-stands x n part p.0) p.1)
            | inr all ↦ rw (of, le-leb x.contracts n all) (fine-used leg side (n - x.contracts) xs p.1)
          ]
      | inr off ↦ rw off (and_from (may_stand x) (fine_orders (used_up leg side n xs)) p.0 (fine-used leg side n xs p.1))
    ]

-- ---- no number stands twice

pub record Numbered (last : ℕ) (order : LegOrder) (orders : List LegOrder) : Type 0 where
  pub given : is_given last order.number ≡ true
  pub once : has_number order.number orders ≡ false
  pub rest : numbers_kept last orders ≡ true

pub numbered-parts : (last : ℕ) (x : LegOrder) (xs : List LegOrder) → numbers_kept last (x ∷ xs) ≡ true → Numbered last x xs
numbered-parts last x xs h =
    let p = and_parts (is_given last x.number) (not (has_number x.number xs) && numbers_kept last xs) h in
    let r = and_parts (not (has_number x.number xs)) (numbers_kept last xs) p.1 in
    record { given = p.0; once = not-true (has_number x.number xs) r.0; rest = r.1 }

pub numbered-whole : (last : ℕ) (x : LegOrder) (xs : List LegOrder) → Numbered last x xs → numbers_kept last (x ∷ xs) ≡ true
numbered-whole last x xs n =
    and_from (is_given last x.number) (not (has_number x.number xs) && numbers_kept last xs) n.given
    (and_from (not (has_number x.number xs)) (numbers_kept last xs) (not_from_false (has_number x.number xs) n.once) n.rest)

given-bounds : (last n : ℕ) → is_given last n ≡ true → (1 ≤ n) × (n ≤ last)
given-bounds last n h =
    let p = and_parts (leb 1 n) (leb n last) h in
    (leb-true 1 n p.0, leb-true n last p.1)

given-from : (last n : ℕ) → 1 ≤ n → n ≤ last → is_given last n ≡ true
given-from last n low high = and_from (leb 1 n) (leb n last) (le-leb 1 n low) (le-leb n last high)

above-absent : (last n : ℕ) (xs : List LegOrder) → last < n → numbers_kept last xs ≡ true → has_number n xs ≡ false
above-absent last n [] l h = refl
above-absent last n (x ∷ xs) l h =
    let p = numbered-parts last x xs h in
    let low = (given-bounds last x.number p.given).1 in
    or_from (eqb x.number n) (has_number n xs) (ne_eqb x.number n (λ e. omega (arith, low, e))) (above-absent last n xs l p.rest)

number_more : (n : ℕ) (x : LegOrder) (xs ys : List LegOrder) → eqb x.number n ≡ false → has_number n (xs ++ ys) ≡ false → has_number n (xs ++ x ∷ ys) ≡ false
number_more n x [] ys e h = or_from (eqb x.number n) (has_number n ys) e h
number_more n x (o ∷ xs) ys e h =
    let p = or_parts (eqb o.number n) (has_number n (xs ++ ys)) h in
    or_from (eqb o.number n) (has_number n (xs ++ x ∷ ys)) p.0 (number_more n x xs ys e p.1)

number-less : (n : ℕ) (x : LegOrder) (xs ys : List LegOrder) → has_number n (xs ++ x ∷ ys) ≡ false → has_number n (xs ++ ys) ≡ false
number-less n x [] ys h = (or_parts (eqb x.number n) (has_number n ys) h).1
number-less n x (o ∷ xs) ys h =
    let p = or_parts (eqb o.number n) (has_number n (xs ++ x ∷ ys)) h in
    or_from (eqb o.number n) (has_number n (xs ++ ys)) p.0 (number-less n x xs ys p.1)

numbers-later : (last : ℕ) (xs : List LegOrder) → numbers_kept last xs ≡ true → numbers_kept (last + 1) xs ≡ true
numbers-later last [] h = refl
numbers-later last (x ∷ xs) h =
    let p = numbered-parts last x xs h in
    let low = (given-bounds last x.number p.given).1 in
    numbered-whole (last + 1) x xs (record { given = given-from (last + 1) x.number (given-bounds last x.number p.given).0 (omega arith); once = p.once; rest = numbers-later last xs p.rest })

-- the next number comes in
pub numbers_more : (last : ℕ) (x : LegOrder) (xs ys : List LegOrder) → x.number ≡ last + 1 → numbers_kept last (xs ++ ys) ≡ true → numbers_kept (last + 1) (xs ++ x ∷ ys) ≡ true
numbers_more last x [] ys e h =
    numbered-whole (last + 1) x ys
    (record { given = given-from (last + 1) x.number (omega arith) (omega arith); once = above-absent last x.number ys (omega arith) h; rest = numbers-later last ys h })
numbers_more last x (o ∷ xs) ys e h =
    let p = numbered-parts last o (xs ++ ys) h in
    let low = (given-bounds last o.number p.given).1 in
    numbered-whole (last + 1) o (xs ++ x ∷ ys)
    (record {
      given = given-from (last + 1) o.number (given-bounds last o.number p.given).0 (omega arith);
      once = number_more o.number x xs ys (ne_eqb x.number o.number (λ s. omega (arith, low, e, s))) p.once;
      rest = numbers_more last x xs ys e p.rest;
    })

pub numbers-less : (last : ℕ) (x : LegOrder) (xs ys : List LegOrder) → numbers_kept last (xs ++ x ∷ ys) ≡ true → numbers_kept last (xs ++ ys) ≡ true
numbers-less last x [] ys h = (numbered-parts last x ys h).rest
numbers-less last x (o ∷ xs) ys h =
    let p = numbered-parts last o (xs ++ x ∷ ys) h in
    numbered-whole last o (xs ++ ys) (record { given = p.given; once = number-less o.number x xs ys p.once; rest = numbers-less last x xs ys p.rest })

number-used : (m leg : ℕ) (side : Side) (n : ℕ) (xs : List LegOrder) → has_number m xs ≡ false → has_number m (used_up leg side n xs) ≡ false
number-used m leg side n [] h = refl
number-used m leg side n (x ∷ xs) h =
    let p = or_parts (eqb x.number m) (has_number m xs) h in
    elim (cases_Bool (is_of leg side x)) [
      | inl of ↦
          elim (cases_lt n x.contracts) [
            | inl part ↦ rw (of, lt-leb x.contracts n part) h
            | inr all ↦ rw (of, le-leb x.contracts n all) (number-used m leg side (n - x.contracts) xs p.1)
          ]
      | inr off ↦ rw off (or_from (eqb x.number m) (has_number m (used_up leg side n xs)) p.0 (number-used m leg side n xs p.1))
    ]

pub numbers-used : (last leg : ℕ) (side : Side) (n : ℕ) (xs : List LegOrder) → numbers_kept last xs ≡ true → numbers_kept last (used_up leg side n xs) ≡ true
numbers-used last leg side n [] h = refl
numbers-used last leg side n (x ∷ xs) h =
    let p = numbered-parts last x xs h in
    elim (cases_Bool (is_of leg side x)) [
      | inl of ↦
          elim (cases_lt n x.contracts) [
            | inl part ↦ rw (of, lt-leb x.contracts n part) h
            | inr all ↦ rw (of, le-leb x.contracts n all) (numbers-used last leg side (n - x.contracts) xs p.rest)
          ]
      | inr off ↦
          rw off
          (numbered-whole last x (used_up leg side n xs)
          (record { given = p.given; once = number-used x.number leg side n xs p.once; rest = numbers-used last leg side n xs p.rest }))
    ]
