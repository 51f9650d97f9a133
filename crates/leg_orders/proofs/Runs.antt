-- A level read off neighbouring orders, one order after the other.
use Rattle.std.proofs.Common.{◌≡◌, ℕ, ◌+◌, ◌≤◌, true, false, ◌&&◌, eqb, List, [], ◌∷◌, length, sym, refl, ap, ◌∙◌, subst, inl, inr, arith}
use Rattle.std.proofs.lemmas.Bool.{cases_Bool, and_parts, eq-eqb, ne_eqb, eqb-true, eqb-false}
use Rattle.std.proofs.lemmas.List.{nil_from_length}
use Rattle.terms.specs.declared.side.Side.{Side}
use Rattle.quotes.specs.declared.level.Level.{Level}
use Rattle.quotes.specs.Shown.{contracts, sound_levels}
use Rattle.quotes.proofs.Parts.{level-bounds, first-sound}
use Rattle.quotes.proofs.LessTaken.{rest-sound}
use Rattle.ranked.specs.Order.{leads, in_order}
use Rattle.leg_orders.specs.declared.order.LegOrder.{LegOrder}
use Rattle.leg_orders.specs.Ranks.{leg_before, ahead_of}
use Rattle.leg_orders.specs.Levels.{is_of, level_from, plus, join, own}
use Rattle.leg_orders.specs.Scans.{Scannable}
use Rattle.leg_orders.proofs.Enters.{leads-rest, order-first, order-rest}
use Rattle.leg_orders.proofs.Starts.{none-behind}

-- ---- a level in the making

join-again : (a b : Level) (levels : List Level) → a.price ≡ b.price → join a (join b levels) ≡ join (plus a b) levels
join-again a b [] e = rw (eq-eqb a.price b.price e) refl
join-again a b (l ∷ ls) e =
    let c : a.customer + (b.customer + l.customer) ≡ (a.customer + b.customer) + l.customer = omega arith in
    let o : a.other + (b.other + l.other) ≡ (a.other + b.other) + l.other = omega arith in
    let three : plus a (plus b l) ≡ plus (plus a b) l = cc in
    elim (cases_Bool (eqb b.price l.price)) [
      | inl same ↦
          let t : eqb a.price l.price ≡ true = subst (λ (p : ℕ). eqb p l.price ≡ true) (sym e) same in
          rw (same, eq-eqb a.price b.price e, t) (ap (λ (x : Level). x ∷ ls) three)
      | inr other ↦
          let t : eqb a.price l.price ≡ false = subst (λ (p : ℕ). eqb p l.price ≡ false) (sym e) other in
          rw (other, eq-eqb a.price b.price e, t) refl
    ]

join_apart : (a b : Level) (levels : List Level) → (b.price ≡ a.price → ⊥) → join a (join b levels) ≡ a ∷ join b levels
join_apart a b [] e = rw (ne_eqb a.price b.price (λ s. e (sym s))) refl
join_apart a b (l ∷ ls) e =
    elim (cases_Bool (eqb b.price l.price)) [
      | inl same ↦ rw (same, ne_eqb a.price b.price (λ s. e (sym s))) refl
      | inr other ↦ rw (other, ne_eqb a.price b.price (λ s. e (sym s))) refl
    ]

join-few : (side : Side) (level : Level) (levels : List Level) → sound_levels side (join level levels) ≡ true → contracts level ≤ 10000000
join-few side level [] h = (level-bounds level (first-sound side level [] h)).most
join-few side level (next ∷ rest) h =
    elim (cases_Bool (eqb level.price next.price)) [
      | inl same ↦
          let g : sound_levels side (plus level next ∷ rest) ≡ true = rw same at h in
          omega (arith, (level-bounds (plus level next) (first-sound side (plus level next) rest g)).most)
      | inr other ↦
          let g : sound_levels side (level ∷ next ∷ rest) ≡ true = rw other at h in
          (level-bounds level (first-sound side level (next ∷ rest) g)).most
    ]

joined-long : (level : Level) (levels : List Level) → length (join level levels) ≤ length levels + 1
joined-long level [] = omega arith
joined-long level (next ∷ rest) = elim (cases_Bool (eqb level.price next.price)) [ inl same ↦ rw same (omega arith) | inr other ↦ rw other (omega arith) ]

-- no more levels than orders
pub levels-few : (leg : ℕ) (side : Side) (orders : List LegOrder) → length (own leg side orders) ≤ length orders
levels-few leg side [] = omega arith
levels-few leg side (x ∷ xs) =
    let few = levels-few leg side xs in
    elim (cases_Bool (is_of leg side x)) [ inl of ↦ rw of (omega (arith, joined-long (level_from x) (own leg side xs), few)) | inr off ↦ rw off (omega (arith, few)) ]

-- the orders read so far make this level, if none behind them has its price
pub record Running (leg : ℕ) (side : Side) (orders : List LegOrder) (level : Level) (rest : List LegOrder) : Type 0 where
  pub joined : own leg side orders ≡ join level (own leg side rest)
  pub ranked : in_order leg_before rest ≡ true
  pub lead : leads leg_before (ahead_of leg side) rest ≡ true

module _ {leg : ℕ} {side : Side} where
  pub no-run : {orders : List LegOrder} {x : LegOrder} {xs : List LegOrder} → orders ≡ x ∷ xs → Scannable leg side orders → is_of leg side x ≡ false → own leg side orders ≡ []
  no-run {orders} {x} {xs} e scan off =
      let from = subst (Scannable leg side) e scan in
      ap (own leg side) e ∙ none-behind leg side x xs from.lead (order-first x xs from.ranked) off

  module _ {orders : List LegOrder} {level : Level} {rest : List LegOrder} (run : Running leg side orders level rest) where
    pub run-to-end : length rest ≡ 0 → own leg side orders ≡ level ∷ own leg side rest
    run-to-end none =
        let bare : own leg side rest ≡ [] = ap (own leg side) (nil_from_length rest none) in
        run.joined ∙ ap (join level) bare ∙ ap (λ (ls : List Level). level ∷ ls) (sym bare)

    pub running-few : Scannable leg side orders → contracts level ≤ 10000000
    running-few scan = join-few side level (own leg side rest) (subst (λ (ls : List Level). sound_levels side ls ≡ true) run.joined scan.sound)

    pub scan-next : Scannable leg side orders → own leg side orders ≡ level ∷ own leg side rest → Scannable leg side rest
    scan-next scan e =
        record {
          ranked = run.ranked;
          lead = run.lead;
          sound = rest-sound side level (own leg side rest) (subst (λ (ls : List Level). sound_levels side ls ≡ true) e scan.sound);
        }

    module _ {x : LegOrder} {xs : List LegOrder} (e : rest ≡ x ∷ xs) where
      more : Running leg side orders level (x ∷ xs)
      more = subst (Running leg side orders level) e run

      pub running_more : (is_of leg side x && eqb x.price level.price) ≡ true → Running leg side orders (plus level (level_from x)) xs
      running_more here =
          let p = and_parts (is_of leg side x) (eqb x.price level.price) here in
          record {
            joined = more.joined ∙ rw p.0 (join-again level (level_from x) (own leg side xs) (sym (eqb-true x.price level.price p.1)));
            ranked = order-rest x xs more.ranked;
            lead = leads-rest (ahead_of leg side) x xs more.lead;
          }

      pub run-to-other : (is_of leg side x && eqb x.price level.price) ≡ false → own leg side orders ≡ level ∷ own leg side rest
      run-to-other off =
          elim (cases_Bool (is_of leg side x)) [
            | inl of ↦
                let other : eqb x.price level.price ≡ false = rw of at off in
                let is : own leg side rest ≡ join (level_from x) (own leg side xs) = ap (own leg side) e ∙ rw of refl in
                run.joined ∙ ap (join level) is ∙ join_apart level (level_from x) (own leg side xs) (eqb-false x.price level.price other) ∙ ap (λ (ls : List Level). level ∷ ls) (sym is)
            | inr off-side ↦
                let bare : own leg side rest ≡ [] = ap (own leg side) e ∙ none-behind leg side x xs more.lead (order-first x xs more.ranked) off-side in
                run.joined ∙ ap (join level) bare ∙ ap (λ (ls : List Level). level ∷ ls) (sym bare)
          ]
