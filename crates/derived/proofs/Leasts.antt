-- The least units over the legs are the units of a leg, and no leg has fewer.
use Rattle.std.proofs.Common.{◌≡◌, ℕ, suc, ◌+◌, ◌<◌, ◌≤◌, min, Bool, true, false, cond, ◌⊎◌, List, [], ◌∷◌, length, get_or, Some, None, Option, sym, refl, subst, inl, inr, ⊎_elim, div-le_self, arith}
use Rattle.std.specs.List.{AllByRecursion}
use Rattle.std.proofs.lemmas.Bool.{cases_lt}
use Rattle.terms.specs.declared.leg.Leg.{Leg}
use Rattle.terms.specs.declared.side.Side.{Side}
use Rattle.terms.specs.declared.side.Side.TheVariants.{Buy, Sell}
use Rattle.quotes.specs.declared.level.Level.{Level}
use Rattle.quotes.specs.declared.top.LegTop.{LegTop}
use Rattle.quotes.specs.Shown.{Shown, contracts, sound_leg}
use Rattle.quotes.specs.Tops.{own_of, top_of}
use Rattle.derived.specs.declared.prices.Derived.{Derived}
use Rattle.derived.specs.Used.{SoundTop, held, used_price, behind_price, level_behind}
use Rattle.derived.specs.Derived.{SeenLeg, seen_from, seen, least_from, units_in, units_of_leg, units_behind, facing, priced, derived_of, Least, LeastUnits}
use Rattle.derived.proofs.Bounds.{top_sound, held-most}
use Rattle.derived.proofs.Legs.{seen-long}

Met : (SeenLeg → ℕ) → List SeenLeg → ℕ → Type 0
Met f vs n = (k : ℕ) × (k < length vs) × ((d : SeenLeg) → f (get_or vs k d) ≡ n)

least_start : (most : ℕ) (f : SeenLeg → ℕ) (vs : List SeenLeg) → least_from most f vs ≤ most
least_start most f [] = omega arith
least_start most f (v ∷ vs) = omega (arith, least_start (min most (f v)) f vs)

least_under : (most : ℕ) (f : SeenLeg → ℕ) (vs : List SeenLeg) → AllByRecursion (λ v. least_from most f vs ≤ f v) vs
least_under most f [] = tt
least_under most f (v ∷ vs) = (omega (arith, least_start (min most (f v)) f vs), least_under (min most (f v)) f vs)

least-met : (most : ℕ) (f : SeenLeg → ℕ) (vs : List SeenLeg) → (least_from most f vs ≡ most) ⊎ Met f vs (least_from most f vs)
unfolding Met
least-met most f [] = inl refl
least-met most f (v ∷ vs) =
    ⊎_elim
    (λ (e : least_from (min most (f v)) f vs ≡ min most (f v)).
    elim (cases_lt (f v) most) [
      | inl h ↦ inr (0, omega arith, λ d. omega arith)
      | inr h ↦ inl (omega arith)
    ])
    (λ (m : Met f vs (least_from (min most (f v)) f vs)). inr (suc m.0, omega (arith, m.1), m.2))
    (least-met (min most (f v)) f vs)

least-is : (most : ℕ) (f : SeenLeg → ℕ) (vs : List SeenLeg) → 1 ≤ length vs → AllByRecursion (λ v. f v ≤ most) vs → Least f vs (least_from most f vs)
unfolding Met
least-is most f [] h a = absurd (omega arith)
least-is most f (v ∷ vs) h a =
    record {
      under = least_under most f (v ∷ vs);
      met =
          ⊎_elim
          (λ (e : least_from most f (v ∷ vs) ≡ most). (0, omega arith, λ d. omega (arith, e, a.0, (least_under most f (v ∷ vs)).0)))
          (λ (m : Met f (v ∷ vs) (least_from most f (v ∷ vs))). m)
          (least-met most f (v ∷ vs));
    }

-- ---- no leg has more than 10,000,000 units

units-held : (level : Option Level) (ratio : ℕ) → held level ≤ 10000000 → units_in level ratio ≤ 10000000
units-held None ratio h = omega arith
units-held (Some level) ratio h = omega (arith, div-le_self (contracts level) ratio)

behind-most : (top : LegTop) (side : Side) (price : Option ℕ) → SoundTop top → held (behind_price (own_of top side) price) ≤ 10000000
behind-most top side None s = omega arith
behind-most top side (Some price) s = held-most top side price s

units-most : (trader : Side) (v : SeenLeg) → SoundTop v.top → units_of_leg trader v ≤ 10000000
units-most trader v s =
    let side = facing trader v.leg.side in
    units-held (level_behind v.top side) v.leg.ratio (behind-most v.top side (used_price v.top side) s)

all_most : (trader : Side) (depth : ℕ) (shown : Shown) (k : ℕ) (legs : List Leg) → ((l : ℕ) → sound_leg depth (shown l) ≡ true) → AllByRecursion (λ v. units_of_leg trader v ≤ 10000000) (seen_from shown k legs)
all_most trader depth shown k [] h = tt
all_most trader depth shown k (leg ∷ legs) h =
    (units-most trader (record { leg = leg; top = top_of (shown k) }) (top_sound depth (shown k) (h k)), all_most trader depth shown (k + 1) legs h)

units-least : (trader : Side) (depth : ℕ) (shown : Shown) (legs : List Leg) → ((l : ℕ) → sound_leg depth (shown l) ≡ true) → 1 ≤ length legs → Least (units_of_leg trader) (seen shown legs) (units_behind trader (seen shown legs))
unfolding units_behind
units-least trader depth shown legs h some = least-is 10000000 (units_of_leg trader) (seen shown legs) (rw (seen-long shown legs) some) (all_most trader depth shown 0 legs h)

least-when : (depth : ℕ) (shown : Shown) (legs : List Leg) (whole : Bool) (d : Derived) → ((l : ℕ) → sound_leg depth (shown l) ≡ true) → 1 ≤ length legs → d.buyer_units ≡ units_behind Buy (seen shown legs) → d.seller_units ≡ units_behind Sell (seen shown legs) → LeastUnits shown legs (cond whole (Some d) None)
least-when depth shown legs true d h some b s = (rw b (units-least Buy depth shown legs h some), rw s (units-least Sell depth shown legs h some))
least-when depth shown legs false d h some b s = tt

pub least-units : (depth : ℕ) (shown : Shown) (legs : List Leg) (r : Option Derived) → ((l : ℕ) → sound_leg depth (shown l) ≡ true) → 1 ≤ length legs → r ≡ derived_of shown legs → LeastUnits shown legs r
least-units depth shown legs r h some e = subst (λ (o : Option Derived). LeastUnits shown legs o) (sym e) (least-when depth shown legs (priced (seen shown legs)) _ h some refl refl)
