-- Levels stay sound when contracts come in at their price, and when they leave again.
use Rattle.std.proofs.Common.{◌≡◌, ℕ, suc, ◌+◌, ◌-◌, ◌≤◌, Bool, true, false, ◌&&◌, eqb, leb, List, [], ◌∷◌, length, sym, refl, ap, ◌∙◌, subst, inl, inr, arith}
use Rattle.std.proofs.lemmas.Bool.Decides.{nat_tests}
use Rattle.std.proofs.lemmas.Bool.{cases_Bool, cases_eq, and_parts, and_from, both_ways, eq-eqb, ne_eqb, leb-true}
use Rattle.terms.specs.declared.side.Side.{Side}
use Rattle.terms.specs.declared.side.Side.TheVariants.{Buy, Sell}
use Rattle.quotes.specs.declared.level.Level.{Level}
use Rattle.quotes.specs.Shown.{contracts, sound_level, better, sound_after, sound_levels, uncrossed}
use Rattle.quotes.specs.Sheets.{would_reach}
use Rattle.quotes.proofs.LessTaken.{no-offers}
use Rattle.leg_orders.specs.Ranks.{best_possible}
use Rattle.leg_orders.specs.Levels.{plus, enter}
use Rattle.leg_orders.specs.Adds.{has_price, contracts_at}
use Rattle.leg_orders.specs.Leaves.{less, leave}

-- ---- prices

better-other : (side : Side) (p q : ℕ) → better side p q ≡ false → (p ≡ q → ⊥) → better side q p ≡ true
better-other Buy p q h n = grind (arith, nat_tests)
better-other Sell p q h n = grind (arith, nat_tests)

better-chain : (side : Side) (p q r : ℕ) → better side p q ≡ true → better side q r ≡ true → better side p r ≡ true
better-chain Buy p q r g h = grind (arith, nat_tests)
better-chain Sell p q r g h = grind (arith, nat_tests)

better-oneway : (side : Side) (p q : ℕ) → better side p q ≡ true → better side q p ≡ false
better-oneway Buy p q h = grind (arith, nat_tests)
better-oneway Sell p q h = grind (arith, nat_tests)

better-itself : (side : Side) (p : ℕ) → better side p p ≡ false
better-itself Buy p = grind (arith, nat_tests)
better-itself Sell p = grind (arith, nat_tests)

pub record AfterParts (side : Side) (price : ℕ) (level : Level) (levels : List Level) : Type 0 where
  pub worse : better side price level.price ≡ true
  pub sound : sound_level level ≡ true
  pub rest : sound_after side level.price levels ≡ true

pub after-parts : (side : Side) (price : ℕ) (level : Level) (levels : List Level) → sound_after side price (level ∷ levels) ≡ true → AfterParts side price level levels
after-parts side price level levels h =
    let p = and_parts (better side price level.price) (sound_level level && sound_after side level.price levels) h in
    let r = and_parts (sound_level level) (sound_after side level.price levels) p.1 in
    record { worse = p.0; sound = r.0; rest = r.1 }

pub after-whole : (side : Side) (price : ℕ) (level : Level) (levels : List Level) → AfterParts side price level levels → sound_after side price (level ∷ levels) ≡ true
after-whole side price level levels p =
    and_from (better side price level.price) (sound_level level && sound_after side level.price levels) p.worse
    (and_from (sound_level level) (sound_after side level.price levels) p.sound p.rest)

-- sound levels all come after a price that is better than any
pub best-worse : (side : Side) (level : Level) → sound_level level ≡ true → better side (best_possible side) level.price ≡ true
best-worse Buy level h = grind (arith, nat_tests)
best-worse Sell level h = grind (arith, nat_tests)

pub levels-after : (side : Side) (levels : List Level) → sound_levels side levels ≡ true → sound_after side (best_possible side) levels ≡ true
levels-after side [] h = refl
levels-after side (l ∷ ls) h =
    let p = and_parts (sound_level l) (sound_after side l.price ls) h in
    after-whole side (best_possible side) l ls (record { worse = best-worse side l p.0; sound = p.0; rest = p.1 })

-- ---- contracts come in

plus-sound : (a b : Level) → sound_level a ≡ true → contracts b + contracts a ≤ 10000000 → sound_level (plus a b) ≡ true
plus-sound a b h k = grind (arith, nat_tests)

pub enter-after : (side : Side) (price : ℕ) (m : Level) (levels : List Level) → better side price m.price ≡ true → sound_level m ≡ true → contracts_at m.price levels + contracts m ≤ 10000000 → sound_after side price levels ≡ true → sound_after side price (enter side m levels) ≡ true
enter-after side price m [] b s k h = after-whole side price m [] (record { worse = b; sound = s; rest = refl })
enter-after side price m (l ∷ ls) b s k h =
    let p = after-parts side price l ls h in
    elim (cases_Bool (better side m.price l.price)) [
      | inl ahead ↦ rw ahead (after-whole side price m (l ∷ ls) (record { worse = b; sound = s; rest = after-whole side m.price l ls (record { worse = ahead; sound = p.sound; rest = p.rest }) }))
      | inr behind ↦
          elim (cases_eq m.price l.price) [
            | inl same ↦
                let few : contracts l + contracts m ≤ 10000000 = rw (eq-eqb l.price m.price (sym same)) at k in
                rw (behind, eq-eqb m.price l.price same)
                (after-whole side price (plus m l) ls (record { worse = b; sound = plus-sound m l s few; rest = subst (λ (q : ℕ). sound_after side q ls ≡ true) (sym same) p.rest }))
            | inr other ↦
                let apart : eqb l.price m.price ≡ false = ne_eqb l.price m.price (λ e. other (sym e)) in
                let few : contracts_at m.price ls + contracts m ≤ 10000000 = rw apart at k in
                rw (behind, ne_eqb m.price l.price other)
                (after-whole side price l (enter side m ls) (record { worse = p.worse; sound = p.sound; rest = enter-after side l.price m ls (better-other side m.price l.price behind other) s few p.rest }))
          ]
    ]

pub enter-longer : (side : Side) (m : Level) (levels : List Level) → (length levels ≤ length (enter side m levels)) × (length (enter side m levels) ≤ length levels + 1)
enter-longer side m [] = (omega arith, omega arith)
enter-longer side m (l ∷ ls) =
    let more = enter-longer side m ls in
    elim (cases_Bool (better side m.price l.price)) [
      | inl ahead ↦ rw ahead (omega arith, omega arith)
      | inr behind ↦
          elim (cases_Bool (eqb m.price l.price)) [
            | inl same ↦ rw (behind, same) (omega arith, omega arith)
            | inr other ↦ rw (behind, other) (omega (arith, more.0), omega (arith, more.1))
          ]
    ]

-- each price behind another is worse
behind-worse : (side : Side) (price p : ℕ) (levels : List Level) → sound_after side price levels ≡ true → has_price p levels ≡ true → better side price p ≡ true
behind-worse side price p [] h e = absurd (cc)
behind-worse side price p (l ∷ ls) h e =
    let a = after-parts side price l ls h in
    elim (cases_eq l.price p) [
      | inl same ↦ subst (λ (q : ℕ). better side price q ≡ true) same a.worse
      | inr other ↦
          let there : has_price p ls ≡ true = rw (ne_eqb l.price p other) at e in
          better-chain side price l.price p a.worse (behind-worse side l.price p ls a.rest there)
    ]

pub enter-there : (side : Side) (price : ℕ) (m : Level) (levels : List Level) → sound_after side price levels ≡ true → has_price m.price levels ≡ true → length (enter side m levels) ≡ length levels
enter-there side price m [] h e = absurd (cc)
enter-there side price m (l ∷ ls) h e =
    let a = after-parts side price l ls h in
    elim (cases_eq m.price l.price) [
      | inl same ↦
          elim (cases_Bool (better side m.price l.price)) [
            | inl ahead ↦ absurd (both_ways (better side m.price l.price) (subst (λ (q : ℕ). better side m.price q ≡ false) same (better-itself side m.price)) ahead)
            | inr behind ↦ rw (behind, eq-eqb m.price l.price same) refl
          ]
      | inr other ↦
          let there : has_price m.price ls ≡ true = rw (ne_eqb l.price m.price (λ e. other (sym e))) at e in
          let behind = better-oneway side l.price m.price (behind-worse side l.price m.price ls a.rest there) in
          rw (behind, ne_eqb m.price l.price other) (ap suc (enter-there side l.price m ls a.rest there))
    ]

-- ---- contracts leave again

abbrev pub some_each : List Level → Bool
some_each [] = true
some_each (level ∷ levels) = leb 1 (contracts level) && some_each levels

part_sound : (a b : Level) → a.price ≡ b.price → sound_level (plus a b) ≡ true → leb 1 (contracts b) ≡ true → sound_level b ≡ true
part_sound a b e h k = grind (arith, nat_tests)

pub leave-after : (side : Side) (price : ℕ) (m : Level) (levels : List Level) → some_each levels ≡ true → sound_after side price (enter side m levels) ≡ true → sound_after side price levels ≡ true
leave-after side price m [] some h = refl
leave-after side price m (l ∷ ls) some h =
    let each = and_parts (leb 1 (contracts l)) (some_each ls) some in
    elim (cases_Bool (better side m.price l.price)) [
      | inl ahead ↦
          let g : sound_after side price (m ∷ l ∷ ls) ≡ true = rw ahead at h in
          let p = after-parts side price m (l ∷ ls) g in
          let q = after-parts side m.price l ls p.rest in
          after-whole side price l ls (record { worse = better-chain side price m.price l.price p.worse q.worse; sound = q.sound; rest = q.rest })
      | inr behind ↦
          elim (cases_eq m.price l.price) [
            | inl same ↦
                let g : sound_after side price (plus m l ∷ ls) ≡ true = rw (behind, eq-eqb m.price l.price same) at h in
                let p = after-parts side price (plus m l) ls g in
                after-whole side price l ls
                (record {
                  worse = subst (λ (q : ℕ). better side price q ≡ true) same p.worse;
                  sound = part_sound m l same p.sound each.0;
                  rest = subst (λ (q : ℕ). sound_after side q ls ≡ true) same p.rest;
                })
            | inr other ↦
                let g : sound_after side price (l ∷ enter side m ls) ≡ true = rw (behind, ne_eqb m.price l.price other) at h in
                let p = after-parts side price l (enter side m ls) g in
                after-whole side price l ls (record { worse = p.worse; sound = p.sound; rest = leave-after side l.price m ls each.1 p.rest })
          ]
    ]

abbrev level_at : ℕ → ℕ → ℕ → Level
level_at price customer other = record { price = price; customer = customer; other = other }

less-again : (a b : Level) → a.price ≡ b.price → less (plus a b) a ≡ b
less-again a b e =
    let c : (a.customer + b.customer) - a.customer ≡ b.customer = omega arith in
    let o : (a.other + b.other) - a.other ≡ b.other = omega arith in
    ap (λ (n : ℕ). level_at a.price n ((a.other + b.other) - a.other)) c ∙ ap (λ (n : ℕ). level_at a.price b.customer n) o ∙ ap (λ (n : ℕ). level_at n b.customer b.other) e

-- what came in leaves what stood before
pub leave-entered : (side : Side) (m : Level) (levels : List Level) → some_each levels ≡ true → leave m (enter side m levels) ≡ levels
leave-entered side m [] some = rw (eq-eqb m.price m.price refl, eq-eqb (contracts m) (contracts m) refl) refl
leave-entered side m (l ∷ ls) some =
    let each = and_parts (leb 1 (contracts l)) (some_each ls) some in
    elim (cases_Bool (better side m.price l.price)) [
      | inl ahead ↦ rw (ahead, eq-eqb m.price m.price refl, eq-eqb (contracts m) (contracts m) refl) refl
      | inr behind ↦
          elim (cases_eq m.price l.price) [
            | inl same ↦
                let more : eqb (contracts (plus m l)) (contracts m) ≡ false = ne_eqb (contracts (plus m l)) (contracts m) (λ e. omega (arith, leb-true 1 (contracts l) each.0, e)) in
                rw (behind, eq-eqb m.price l.price same, eq-eqb m.price m.price refl, more) (ap (λ (x : Level). x ∷ ls) (less-again m l same))
            | inr other ↦
                rw (behind, ne_eqb m.price l.price other, ne_eqb l.price m.price (λ e. other (sym e))) (ap (λ (xs : List Level). l ∷ xs) (leave-entered side m ls each.1))
          ]
    ]

-- ---- bids and offers stay apart

pub bid-apart : (m : Level) (bids offers : List Level) → would_reach Buy m.price offers ≡ false → uncrossed bids offers ≡ true → uncrossed (enter Buy m bids) offers ≡ true
bid-apart m bids [] r h = no-offers (enter Buy m bids)
bid-apart m [] (o ∷ os) r h = grind (arith, nat_tests)
bid-apart m (b ∷ bs) (o ∷ os) r h = grind (arith, nat_tests)

pub offer-apart : (m : Level) (bids offers : List Level) → would_reach Sell m.price bids ≡ false → uncrossed bids offers ≡ true → uncrossed bids (enter Sell m offers) ≡ true
offer-apart m [] offers r h = refl
offer-apart m (b ∷ bs) [] r h = grind (arith, nat_tests)
offer-apart m (b ∷ bs) (o ∷ os) r h = grind (arith, nat_tests)

pub bid-left-apart : (m : Level) (bids offers : List Level) → uncrossed (enter Buy m bids) offers ≡ true → uncrossed bids offers ≡ true
bid-left-apart m [] offers h = refl
bid-left-apart m (b ∷ bs) [] h = refl
bid-left-apart m (b ∷ bs) (o ∷ os) h = grind (arith, nat_tests)

pub offer-left-apart : (m : Level) (bids offers : List Level) → uncrossed bids (enter Sell m offers) ≡ true → uncrossed bids offers ≡ true
offer-left-apart m [] offers h = refl
offer-left-apart m (b ∷ bs) [] h = refl
offer-left-apart m (b ∷ bs) (o ∷ os) h = grind (arith, nat_tests)
