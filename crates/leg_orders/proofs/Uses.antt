-- Orders used up in rank leave what a take leaves of their levels.
use Rattle.std.proofs.Common.{◌≡◌, ℕ, ◌-◌, ◌≤◌, Bool, true, false, cond, ◌&&◌, eqb, ltb, List, [], ◌∷◌, refl, ap, ◌∙◌, inl, inr, arith}
use Rattle.std.proofs.lemmas.Bool.Decides.{nat_tests}
use Rattle.std.proofs.lemmas.Bool.{cases_Bool, cases_lt, and_parts, le-leb, lt-leb}
use Rattle.terms.specs.declared.side.Side.{Side}
use Rattle.terms.specs.declared.side.Side.TheVariants.{Buy, Sell}
use Rattle.terms.specs.Sides.{same_side}
use Rattle.quotes.specs.declared.level.Level.{Level}
use Rattle.quotes.specs.Shown.{contracts, sound_level}
use Rattle.quotes.specs.Takes.{less_best}
use Rattle.quotes.proofs.Parts.{level-bounds}
use Rattle.ranked.specs.Order.{leads, in_order}
use Rattle.leg_orders.specs.declared.order.LegOrder.{LegOrder}
use Rattle.leg_orders.specs.Ranks.{leg_before, placed_of, sooner_of}
use Rattle.leg_orders.specs.Levels.{is_of, level_from, join, own}
use Rattle.leg_orders.specs.Books.{may_stand, fine_orders}
use Rattle.leg_orders.specs.Uses.{used_up}
use Rattle.leg_orders.proofs.Enters.{leads-first, leads-rest, order-first, order-rest}
use Rattle.leg_orders.proofs.Lessens.{alone-contracts, enough, some_first, others_first, part-used, all-enough, all-used}

pub fine-first : (x : LegOrder) (xs : List LegOrder) → fine_orders (x ∷ xs) ≡ true → may_stand x ≡ true
fine-first x xs h = (and_parts (may_stand x) (fine_orders xs) h).0

pub fine-rest : (x : LegOrder) (xs : List LegOrder) → fine_orders (x ∷ xs) ≡ true → fine_orders xs ≡ true
fine-rest x xs h = (and_parts (may_stand x) (fine_orders xs) h).1

pub stands-level : (x : LegOrder) → may_stand x ≡ true → sound_level (level_from x) ≡ true
stands-level x h = (and_parts (ltb x.at.leg 6) (sound_level (level_from x)) h).1

pub some-contracts : (x : LegOrder) → may_stand x ≡ true → 1 ≤ x.contracts
some-contracts x h = omega (arith, (level-bounds (level_from x) (stands-level x h)).some, alone-contracts x.price x.customer x.contracts)

join-some : (level : Level) (levels : List Level) → 1 ≤ contracts level → some_first (join level levels) ≡ true
join-some level [] h = le-leb _ _ h
join-some level (next ∷ rest) h =
    elim (cases_Bool (eqb level.price next.price)) [ inl e ↦ rw e (le-leb _ _ (omega arith)) | inr e ↦ rw e (le-leb _ _ h) ]

own-some : (leg : ℕ) (side : Side) (xs : List LegOrder) → fine_orders xs ≡ true → some_first (own leg side xs) ≡ true
own-some leg side [] fine = refl
own-some leg side (x ∷ xs) fine =
    elim (cases_Bool (is_of leg side x)) [
      | inl e ↦ rw e (join-some (level_from x) (own leg side xs) (omega (arith, some-contracts x (fine-first x xs fine), alone-contracts x.price x.customer x.contracts)))
      | inr e ↦ rw e (own-some leg side xs (fine-rest x xs fine))
    ]

-- ---- customers first

ranked-customer : (side s t : Side) (b : Bool) (leg i j p q m n : ℕ) → (eqb i leg && same_side s side) ≡ true → (eqb j leg && same_side t side) ≡ true → p ≡ q → cond (eqb j i) (placed_of t q s p (sooner_of b n false m)) (ltb j i) ≡ false → b ≡ false
ranked-customer Buy Buy Buy b leg i j p q m n f g e h = grind (arith, nat_tests)
ranked-customer Buy Buy Sell b leg i j p q m n f g e h = grind (arith, nat_tests)
ranked-customer Buy Sell Buy b leg i j p q m n f g e h = grind (arith, nat_tests)
ranked-customer Buy Sell Sell b leg i j p q m n f g e h = grind (arith, nat_tests)
ranked-customer Sell Buy Buy b leg i j p q m n f g e h = grind (arith, nat_tests)
ranked-customer Sell Buy Sell b leg i j p q m n f g e h = grind (arith, nat_tests)
ranked-customer Sell Sell Buy b leg i j p q m n f g e h = grind (arith, nat_tests)
ranked-customer Sell Sell Sell b leg i j p q m n f g e h = grind (arith, nat_tests)

-- behind an order that is not a customer's no customer's order stands at its price
no-customer : (leg : ℕ) (side : Side) (x y : LegOrder) → x.customer ≡ false → is_of leg side x ≡ true → is_of leg side y ≡ true → x.price ≡ y.price → leg_before y x ≡ false → y.customer ≡ false
no-customer leg side x y other f g e h =
    let k : cond (eqb y.at.leg x.at.leg) (placed_of y.at.side y.price x.at.side x.price (sooner_of y.customer y.number false x.number)) (ltb y.at.leg x.at.leg) ≡ false = rw other at h in
    ranked-customer side x.at.side y.at.side y.customer leg x.at.leg y.at.leg x.price y.price x.number y.number f g e k

others-joined : (p : ℕ) (level : Level) (levels : List Level) → (p ≡ level.price → level.customer ≡ 0) → others_first p levels ≡ true → others_first p (join level levels) ≡ true
others-joined p level [] k h = grind (arith, nat_tests)
others-joined p level (next ∷ rest) k h = grind (arith, nat_tests)

leads-others : (leg : ℕ) (side : Side) (x : LegOrder) (xs : List LegOrder) → is_of leg side x ≡ true → x.customer ≡ false → leads leg_before x xs ≡ true → others_first x.price (own leg side xs) ≡ true
leads-others leg side x [] of other h = refl
leads-others leg side x (y ∷ ys) of other h =
    elim (cases_Bool (is_of leg side y)) [
      | inl e ↦
          let none : x.price ≡ y.price → (level_from y).customer ≡ 0 =
          λ same. ap (λ (b : Bool). cond b y.contracts 0) (no-customer leg side x y other of e same (leads-first x y ys h)) in
          rw e (others-joined x.price (level_from y) (own leg side ys) none (leads-others leg side x ys of other (leads-rest x y ys h)))
      | inr e ↦ rw e (leads-others leg side x ys of other (leads-rest x y ys h))
    ]

-- ---- a take

pub used-levels : (leg : ℕ) (side : Side) (n : ℕ) (xs : List LegOrder) → fine_orders xs ≡ true → in_order leg_before xs ≡ true → enough (own leg side xs) n ≡ true → own leg side (used_up leg side n xs) ≡ less_best (own leg side xs) n
used-levels leg side n [] fine ranked e = refl
used-levels leg side n (x ∷ xs) fine ranked e =
    let some = own-some leg side xs (fine-rest x xs fine) in
    let lead = order-first x xs ranked in
    elim (cases_Bool (is_of leg side x)) [
      | inl of ↦
          let f : enough (join (level_from x) (own leg side xs)) n ≡ true = rw of at e in
          let others : x.customer ≡ false → others_first x.price (own leg side xs) ≡ true = λ other. leads-others leg side x xs of other lead in
          elim (cases_lt n x.contracts) [
            | inl part ↦ rw (of, lt-leb x.contracts n part, of) (part-used x.price x.customer x.contracts n (own leg side xs) part others)
            | inr all ↦
                rw (of, le-leb x.contracts n all)
                (used-levels leg side (n - x.contracts) xs (fine-rest x xs fine) (order-rest x xs ranked) (all-enough x.price x.customer x.contracts n (own leg side xs) all f)
                ∙ all-used x.price x.customer x.contracts n (own leg side xs) all f some others)
          ]
      | inr off ↦
          let f : enough (own leg side xs) n ≡ true = rw off at e in
          rw (off, off) (used-levels leg side n xs (fine-rest x xs fine) (order-rest x xs ranked) f)
    ]

-- ---- the other sides

apart : (s t u : Side) (i leg l : ℕ) → (eqb i leg && same_side s t) ≡ true → (eqb l leg && same_side u t) ≡ false → (eqb i l && same_side s u) ≡ false
apart Buy Buy Buy i leg l a b = grind (arith, nat_tests)
apart Buy Buy Sell i leg l a b = grind (arith, nat_tests)
apart Buy Sell Buy i leg l a b = grind (arith, nat_tests)
apart Buy Sell Sell i leg l a b = grind (arith, nat_tests)
apart Sell Buy Buy i leg l a b = grind (arith, nat_tests)
apart Sell Buy Sell i leg l a b = grind (arith, nat_tests)
apart Sell Sell Buy i leg l a b = grind (arith, nat_tests)
apart Sell Sell Sell i leg l a b = grind (arith, nat_tests)

-- an order of one side of one leg is of no other
pub of-no-other : (leg : ℕ) (side : Side) (l : ℕ) (s : Side) (x : LegOrder) → is_of leg side x ≡ true → (eqb l leg && same_side s side) ≡ false → is_of l s x ≡ false
of-no-other leg side l s x a b = apart x.at.side side s x.at.leg leg l a b

pub used-elsewhere : (leg : ℕ) (side : Side) (n : ℕ) (l : ℕ) (s : Side) (xs : List LegOrder) → (eqb l leg && same_side s side) ≡ false → own l s (used_up leg side n xs) ≡ own l s xs
used-elsewhere leg side n l s [] other = refl
used-elsewhere leg side n l s (x ∷ xs) other =
    elim (cases_Bool (is_of leg side x)) [
      | inl of ↦
          let off = of-no-other leg side l s x of other in
          elim (cases_lt n x.contracts) [
            | inl part ↦ rw (of, lt-leb x.contracts n part, off) refl
            | inr all ↦ rw (of, le-leb x.contracts n all, off) (used-elsewhere leg side (n - x.contracts) l s xs other)
          ]
      | inr off ↦ rw off (ap (λ (ls : List Level). cond (is_of l s x) (join (level_from x) ls) ls) (used-elsewhere leg side n l s xs other))
    ]
