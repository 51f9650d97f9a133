-- What a book shows is sound, and what each call changes of it.
use Rattle.std.proofs.Common.{◌≡◌, ℕ, ◌+◌, ◌≤◌, Bool, true, false, cond, ◌&&◌, eqb, ltb, leb, List, [], ◌∷◌, ◌++◌, length, get_or, None, Option, sym, refl, ap, ◌∙◌, inl, inr, arith}
use Rattle.std.proofs.lemmas.Bool.Decides.{nat_tests}
use Rattle.std.proofs.lemmas.List.{get_or_past}
use Rattle.std.proofs.lemmas.Bool.{cases_Bool, and_parts, eqb-true, ne_eqb, leb-true, ltb-true}
use Rattle.terms.specs.declared.side.Side.{Side}
use Rattle.terms.specs.declared.side.Side.TheVariants.{Buy, Sell}
use Rattle.terms.specs.Sides.{same_side, of_side}
use Rattle.quotes.specs.declared.level.Level.{Level}
use Rattle.quotes.specs.Shown.{SideQuotes, Sound, nothing, sound_leg, sound_level, sound_levels}
use Rattle.quotes.specs.Takes.{less_best, may_take, taken, levels_left}
use Rattle.quotes.specs.Trials.{less_taken}
use Rattle.quotes.proofs.Parts.{side-parts, leg-side}
use Rattle.quotes.proofs.LessTaken.{less_none, less-best}
use Rattle.quotes.proofs.Trials.{leg-less}
use Rattle.ranked.specs.Order.{in_order}
use Rattle.leg_orders.specs.declared.order.LegOrder.{LegOrder}
use Rattle.leg_orders.specs.Ranks.{leg_before}
use Rattle.leg_orders.specs.Levels.{is_of, level_from, join, own, enter, enter_if}
use Rattle.leg_orders.specs.Books.{no_away, book_shown, SoundBook, fine_orders, AwayPrices}
use Rattle.leg_orders.specs.Uses.{used_up}
use Rattle.leg_orders.specs.Adds.{entered}
use Rattle.leg_orders.specs.Leaves.{leave, left}
use Rattle.leg_orders.proofs.Enters as enters
use Rattle.leg_orders.proofs.Lessens.{enough, alone-contracts}
use Rattle.leg_orders.proofs.Uses.{fine-first, fine-rest, some-contracts, used-levels, used-elsewhere}
use Rattle.leg_orders.proofs.Sounds.{some_each, leave-entered}
use Rattle.leg_orders.proofs.Sides.{leg_of, MayEnter, leg-bid-entered, leg-offer-entered, leg-bid-left, leg-offer-left}

-- ---- a leg past the sixth

own-lacks : (leg : ℕ) (side : Side) (xs : List LegOrder) → 6 ≤ leg → fine_orders xs ≡ true → own leg side xs ≡ []
own-lacks leg side [] past fine = refl
own-lacks leg side (x ∷ xs) past fine =
    let low = ltb-true x.at.leg 6 (and_parts (ltb x.at.leg 6) (sound_level (level_from x)) (fine-first x xs fine)).0 in
    let apart : eqb x.at.leg leg ≡ false = ne_eqb x.at.leg leg (λ e. omega (arith, low, past, e)) in
    rw apart (own-lacks leg side xs past (fine-rest x xs fine))

none-on : (side : Side) → of_side no_away side ≡ None
none-on Buy = refl
none-on Sell = refl

pub book-lacks : (orders : List LegOrder) (away : List AwayPrices) → length away ≡ 6 → fine_orders orders ≡ true → (leg : ℕ) (side : Side) → 6 ≤ leg → book_shown orders away leg side ≡ nothing
book-lacks orders away long fine leg side past =
    let none : (s : Side) → of_side (get_or away leg no_away) s ≡ None = λ s. ap (λ (prices : AwayPrices). of_side prices s) (get_or_past away leg no_away (omega arith)) ∙ none-on s in
    ap (λ (levels : List Level). record { own = levels; away = of_side (get_or away leg no_away) side }) (own-lacks leg side orders past fine)
    ∙ ap (λ (price : Option ℕ). record { own = []; away = price }) (none side)

pub book-sound : (orders : List LegOrder) (away : List AwayPrices) → length away ≡ 6 → fine_orders orders ≡ true → SoundBook orders away → Sound 16 (book_shown orders away)
book-sound orders away long fine sound = record { legs = sound; lacking = book-lacks orders away long fine }

pub book-depth : (1 ≤ 16) × (16 ≤ 16)
book-depth = (omega arith, omega arith)

-- ---- which side of which leg

of_test : (s t : Side) (i l : ℕ) → (eqb i l && same_side t s) ≡ (eqb l i && same_side s t)
of_test Buy Buy i l = grind (arith, nat_tests)
of_test Buy Sell i l = grind (arith, nat_tests)
of_test Sell Buy i l = grind (arith, nat_tests)
of_test Sell Sell i l = grind (arith, nat_tests)

same-side : (s t : Side) → same_side s t ≡ true → s ≡ t
same-side Buy Buy e = refl
same-side Buy Sell e = absurd (cc)
same-side Sell Buy e = absurd (cc)
same-side Sell Sell e = refl

pub here : (l leg : ℕ) (s side : Side) → (eqb l leg && same_side s side) ≡ true → (l ≡ leg) × (s ≡ side)
here l leg s side e =
    let p = and_parts (eqb l leg) (same_side s side) e in
    (eqb-true l leg p.0, same-side s side p.1)

sides_apart : (s : Side) → same_side s Buy ≡ true → same_side s Sell ≡ true → ⊥
sides_apart Buy a b = cc
sides_apart Sell a b = cc

not-both : (l : ℕ) (x : LegOrder) → is_of l Buy x ≡ true → is_of l Sell x ≡ true → ⊥
not-both l x a b =
    let p = and_parts (eqb x.at.leg l) (same_side x.at.side Buy) a in
    let r = and_parts (eqb x.at.leg l) (same_side x.at.side Sell) b in
    sides_apart x.at.side p.1 r.1

-- ---- an order comes in, or leaves

module _ (x : LegOrder) (xs ys : List LegOrder) (away : List AwayPrices) (ranked : in_order leg_before (xs ++ x ∷ ys) ≡ true) where
  own-entered : (l : ℕ) (s : Side) → own l s (xs ++ x ∷ ys) ≡ enter_if (is_of l s x) s (level_from x) (own l s (xs ++ ys))
  own-entered l s = enters.entered l s x xs ys ranked

  pub shows-entered : (l : ℕ) (s : Side) → book_shown (xs ++ x ∷ ys) away l s ≡ entered (book_shown (xs ++ ys) away) x l s
  shows-entered l s =
      let old = book_shown (xs ++ ys) away in
      let put : (leg : ℕ) (side : Side) → SideQuotes = λ leg side. record { own = enter side (level_from x) (old leg side).own; away = (old leg side).away } in
      elim (cases_Bool (eqb l x.at.leg && same_side s x.at.side)) [
        | inl e ↦
            let at = here l x.at.leg s x.at.side e in
            let of : is_of l s x ≡ true = of_test s x.at.side x.at.leg l ∙ e in
            let own_is : own l s (xs ++ x ∷ ys) ≡ enter s (level_from x) (own l s (xs ++ ys)) = own-entered l s ∙ ap (λ (b : Bool). enter_if b s (level_from x) (own l s (xs ++ ys))) of in
            rw e
            (ap (λ (levels : List Level). record { own = levels; away = (old l s).away }) own_is
            ∙ ap (λ (leg : ℕ). put leg s) at.0 ∙ ap (λ (side : Side). put x.at.leg side) at.1)
        | inr e ↦
            let of : is_of l s x ≡ false = of_test s x.at.side x.at.leg l ∙ e in
            let own_is : own l s (xs ++ x ∷ ys) ≡ own l s (xs ++ ys) = own-entered l s ∙ ap (λ (b : Bool). enter_if b s (level_from x) (own l s (xs ++ ys))) of in
            rw e (ap (λ (levels : List Level). record { own = levels; away = (old l s).away }) own_is)
      ]

join-each : (level : Level) (levels : List Level) → 1 ≤ level.customer + level.other → some_each levels ≡ true → some_each (join level levels) ≡ true
join-each level [] h k = grind (arith, nat_tests)
join-each level (next ∷ rest) h k = grind (arith, nat_tests)

own-each : (l : ℕ) (s : Side) (xs : List LegOrder) → fine_orders xs ≡ true → some_each (own l s xs) ≡ true
own-each l s [] fine = refl
own-each l s (x ∷ xs) fine =
    let rest = own-each l s xs (fine-rest x xs fine) in
    elim (cases_Bool (is_of l s x)) [
      | inl e ↦ rw e (join-each (level_from x) (own l s xs) (omega (arith, some-contracts x (fine-first x xs fine), alone-contracts x.price x.customer x.contracts)) rest)
      | inr e ↦ rw e rest
    ]

pub shows_left : (x : LegOrder) (xs ys : List LegOrder) (away : List AwayPrices) → in_order leg_before (xs ++ x ∷ ys) ≡ true → fine_orders (xs ++ ys) ≡ true → (l : ℕ) (s : Side) → book_shown (xs ++ ys) away l s ≡ left (book_shown (xs ++ x ∷ ys) away) x l s
shows_left x xs ys away ranked fine l s =
    let old = book_shown (xs ++ x ∷ ys) away in
    let m = level_from x in
    let rest = own l s (xs ++ ys) in
    let put : (leg : ℕ) (side : Side) → SideQuotes = λ leg side. record { own = leave m (old leg side).own; away = (old leg side).away } in
    elim (cases_Bool (eqb l x.at.leg && same_side s x.at.side)) [
      | inl e ↦
          let at = here l x.at.leg s x.at.side e in
          let of : is_of l s x ≡ true = of_test s x.at.side x.at.leg l ∙ e in
          let was : own l s (xs ++ x ∷ ys) ≡ enter s m rest = own-entered x xs ys away ranked l s ∙ ap (λ (b : Bool). enter_if b s m rest) of in
          let is : rest ≡ leave m (own l s (xs ++ x ∷ ys)) = sym (ap (leave m) was ∙ leave-entered s m rest (own-each l s (xs ++ ys) fine)) in
          rw e
          (ap (λ (levels : List Level). record { own = levels; away = (old l s).away }) is
          ∙ ap (λ (leg : ℕ). put leg s) at.0 ∙ ap (λ (side : Side). put x.at.leg side) at.1)
      | inr e ↦
          let of : is_of l s x ≡ false = of_test s x.at.side x.at.leg l ∙ e in
          let was : own l s (xs ++ x ∷ ys) ≡ rest = own-entered x xs ys away ranked l s ∙ ap (λ (b : Bool). enter_if b s m rest) of in
          rw e (ap (λ (levels : List Level). record { own = levels; away = (old l s).away }) (sym was))
    ]

leg-entered : (bids offers more-bids more-offers : List Level) (p q : Option ℕ) (m : Level) (b c : Bool) →
    more-bids ≡ enter_if b Buy m bids → more-offers ≡ enter_if c Sell m offers → (b ≡ true → MayEnter Buy bids offers m) → (c ≡ true → MayEnter Sell offers bids m) → (b ≡ true → c ≡ true → ⊥) →
    sound_leg 16 (leg_of bids offers p q) ≡ true → sound_leg 16 (leg_of more-bids more-offers p q) ≡ true
leg-entered bids offers more-bids more-offers p q m true true e f g h never k = absurd (never refl refl)
leg-entered bids offers more-bids more-offers p q m true false e f g h never k = rw (e, f) (leg-bid-entered bids offers p q m (g refl) k)
leg-entered bids offers more-bids more-offers p q m false true e f g h never k = rw (e, f) (leg-offer-entered bids offers p q m (h refl) k)
leg-entered bids offers more-bids more-offers p q m false false e f g h never k = rw (e, f) k

leg-left : (bids offers more-bids more-offers : List Level) (p q : Option ℕ) (m : Level) (b c : Bool) →
    more-bids ≡ enter_if b Buy m bids → more-offers ≡ enter_if c Sell m offers → some_each bids ≡ true → some_each offers ≡ true →
    sound_leg 16 (leg_of more-bids more-offers p q) ≡ true → sound_leg 16 (leg_of bids offers p q) ≡ true
leg-left bids offers more-bids more-offers p q m true true e f g h k =
    let z : sound_leg 16 (leg_of (enter Buy m bids) (enter Sell m offers) p q) ≡ true = rw (e, f) at k in
    leg-offer-left bids offers p q m h (leg-bid-left bids (enter Sell m offers) p q m g z)
leg-left bids offers more-bids more-offers p q m true false e f g h k = leg-bid-left bids offers p q m g (rw (e, f) at k)
leg-left bids offers more-bids more-offers p q m false true e f g h k = leg-offer-left bids offers p q m h (rw (e, f) at k)
leg-left bids offers more-bids more-offers p q m false false e f g h k = rw (e, f) at k

pub sound-entered : (x : LegOrder) (xs ys : List LegOrder) (away : List AwayPrices) → in_order leg_before (xs ++ x ∷ ys) ≡ true →
    ((l : ℕ) → is_of l Buy x ≡ true → MayEnter Buy (own l Buy (xs ++ ys)) (own l Sell (xs ++ ys)) (level_from x)) →
    ((l : ℕ) → is_of l Sell x ≡ true → MayEnter Sell (own l Sell (xs ++ ys)) (own l Buy (xs ++ ys)) (level_from x)) →
    SoundBook (xs ++ ys) away → SoundBook (xs ++ x ∷ ys) away
sound-entered x xs ys away ranked bid offer sound l =
    leg-entered (own l Buy (xs ++ ys)) (own l Sell (xs ++ ys)) (own l Buy (xs ++ x ∷ ys)) (own l Sell (xs ++ x ∷ ys))
    (of_side (get_or away l no_away) Buy) (of_side (get_or away l no_away) Sell) (level_from x) (is_of l Buy x) (is_of l Sell x)
    (own-entered x xs ys away ranked l Buy) (own-entered x xs ys away ranked l Sell) (bid l) (offer l) (not-both l x) (sound l)

pub sound-left : (x : LegOrder) (xs ys : List LegOrder) (away : List AwayPrices) → in_order leg_before (xs ++ x ∷ ys) ≡ true → fine_orders (xs ++ ys) ≡ true → SoundBook (xs ++ x ∷ ys) away → SoundBook (xs ++ ys) away
sound-left x xs ys away ranked fine sound l =
    leg-left (own l Buy (xs ++ ys)) (own l Sell (xs ++ ys)) (own l Buy (xs ++ x ∷ ys)) (own l Sell (xs ++ x ∷ ys))
    (of_side (get_or away l no_away) Buy) (of_side (get_or away l no_away) Sell) (level_from x) (is_of l Buy x) (is_of l Sell x)
    (own-entered x xs ys away ranked l Buy) (own-entered x xs ys away ranked l Sell) (own-each l Buy (xs ++ ys) fine) (own-each l Sell (xs ++ ys) fine) (sound l)

-- ---- orders are used up

abbrev less_if : Bool → ℕ → List Level → List Level
less_if here n levels = cond here (less_best levels n) levels

own-used : (leg : ℕ) (side : Side) (n : ℕ) (xs : List LegOrder) → fine_orders xs ≡ true → in_order leg_before xs ≡ true → enough (own leg side xs) n ≡ true →
    (l : ℕ) (s : Side) → own l s (used_up leg side n xs) ≡ less_if (eqb l leg && same_side s side) n (own l s xs)
own-used leg side n xs fine ranked e l s =
    elim (cases_Bool (eqb l leg && same_side s side)) [
      | inl at ↦
          let p = here l leg s side at in
          rw (at, p.0, p.1) (used-levels leg side n xs fine ranked e)
      | inr at ↦ rw at (used-elsewhere leg side n l s xs at)
    ]

best-less : (side : Side) (levels : List Level) (n : ℕ) → sound_levels side levels ≡ true → enough levels n ≡ true → less_best levels n ≡ less_taken levels n
best-less side [] n h e = refl
best-less side (level ∷ levels) n h e = less-best side level levels n h (leb-true n (level.customer + level.other) e)

pub sound-used : (leg : ℕ) (side : Side) (n : ℕ) (xs : List LegOrder) (away : List AwayPrices) → fine_orders xs ≡ true → in_order leg_before xs ≡ true → enough (own leg side xs) n ≡ true → SoundBook xs away → SoundBook (used_up leg side n xs) away
sound-used leg side n xs away fine ranked e sound l =
    let q = book_shown xs away l in
    let levels : (s : Side) → sound_levels s (own l s xs) ≡ true = λ s. (side-parts 16 s (q s) (leg-side 16 q s (sound l))).levels in
    let used : (s : Side) → own l s (used_up leg side n xs) ≡ less_taken (own l s xs) (cond (eqb l leg && same_side s side) n 0) =
    λ s. own-used leg side n xs fine ranked e l s
    ∙ elim (cases_Bool (eqb l leg && same_side s side)) [
      | inl at ↦
          let p = here l leg s side at in
          let more : enough (own l s xs) n ≡ true = rw (p.0, p.1) e in
          rw at (best-less s (own l s xs) n (levels s) more)
      | inr at ↦ rw at (sym (less_none s (own l s xs) (levels s)))
    ] in
    rw (used Buy, used Sell) (leg-less 16 q (cond (eqb l leg && same_side Buy side) n 0) (cond (eqb l leg && same_side Sell side) n 0) (sound l))

pub may-enough : (levels : List Level) (n : ℕ) → may_take levels n ≡ true → enough levels n ≡ true
may-enough [] n e = absurd (cc)
may-enough (level ∷ levels) n e = (and_parts (leb 1 n) (leb n (level.customer + level.other)) e).1

pub shows-used : (leg : ℕ) (side : Side) (n : ℕ) (xs : List LegOrder) (away : List AwayPrices) → fine_orders xs ≡ true → in_order leg_before xs ≡ true → may_take (own leg side xs) n ≡ true →
    (l : ℕ) (s : Side) → book_shown (used_up leg side n xs) away l s ≡ taken (book_shown xs away) leg side n l s
shows-used leg side n xs away fine ranked may l s =
    let used = own-used leg side n xs fine ranked (may-enough (own leg side xs) n may) l s in
    elim (cases_Bool (eqb l leg && same_side s side)) [
      | inl at ↦
          let p = here l leg s side at in
          let left : own l s (used_up leg side n xs) ≡ levels_left (own leg side xs) n = used ∙ rw (at, p.0, p.1, may) refl in
          rw (at, left, p.0, p.1) refl
      | inr at ↦ rw (at, used, at) refl
    ]
