-- The sums, tests and least values over the legs, one leg on.
use Rattle.std.proofs.Common.{◌≡◌, ℕ, zero, suc, ◌+◌, ◌*◌, ◌<◌, min, Bool, true, false, not, ◌&&◌, List, [], ◌∷◌, ◌++◌, length, get_or, fold, refl, arith}
use Rattle.std.proofs.lemmas.Bool.{and_right}
use Rattle.std.proofs.lemmas.List.Sums.{fold-append, sum_by-append}
use Rattle.terms.specs.declared.side.Side.{Side}
use Rattle.terms.specs.declared.side.Side.TheVariants.{Buy, Sell}
use Rattle.derived.specs.declared.tally.Backing.{Backing}
use Rattle.derived.specs.Used.{crossed}
use Rattle.derived.specs.Derived.{SeenLeg, price_for, on_side, sum_over, level_for, has_customers, customers_behind, units_of_leg, units_behind, both_used, priced, none_crossed}
use Rattle.derived.specs.Tallies.{backing}

sum-more : (side trader : Side) (legs : List SeenLeg) (v : SeenLeg) → sum_over side trader (legs ++ v ∷ []) ≡ sum_over side trader legs + on_side side v (v.leg.ratio * price_for trader v)
unfolding sum_over
sum-more side trader legs v = omega (arith, sum_by-append (λ w. on_side side w (w.leg.ratio * price_for trader w)) legs (v ∷ []))

customers-more : (trader : Side) (legs : List SeenLeg) (v : SeenLeg) → customers_behind trader (legs ++ v ∷ []) ≡ (customers_behind trader legs && has_customers (level_for trader v))
unfolding customers_behind
customers-more trader legs v = fold-append (λ b w. b && has_customers (level_for trader w)) true legs (v ∷ [])

units-more : (trader : Side) (legs : List SeenLeg) (v : SeenLeg) → units_behind trader (legs ++ v ∷ []) ≡ min (units_behind trader legs) (units_of_leg trader v)
unfolding units_behind
units-more trader legs v = fold-append (λ n w. min n (units_of_leg trader w)) 10000000 legs (v ∷ [])

pub backing_more : (trader : Side) (legs : List SeenLeg) (v : SeenLeg) (b : Backing) (bought sold units : ℕ) (customers : Bool) → b ≡ backing trader legs → bought ≡ b.bought + on_side Buy v (v.leg.ratio * price_for trader v) → sold ≡ b.sold + on_side Sell v (v.leg.ratio * price_for trader v) → customers ≡ (b.customers && has_customers (level_for trader v)) → units ≡ min b.units (units_of_leg trader v) → record { bought = bought; sold = sold; customers = customers; units = units } ≡ backing trader (legs ++ v ∷ [])
backing_more trader legs v b bought sold units customers e p q c u =
    rw (p, q, c, u, e) (rw (sum-more Buy trader legs v, sum-more Sell trader legs v, customers-more trader legs v, units-more trader legs v))

pub crossed-more : (legs : List SeenLeg) (v : SeenLeg) → none_crossed (legs ++ v ∷ []) ≡ (none_crossed legs && not (crossed v.top))
unfolding none_crossed
crossed-more legs v = fold-append (λ b w. b && not (crossed w.top)) true legs (v ∷ [])

pub priced-more : (legs : List SeenLeg) (v : SeenLeg) → priced (legs ++ v ∷ []) ≡ (priced legs && both_used v)
unfolding priced
priced-more legs v = fold-append (λ b w. b && both_used w) true legs (v ∷ [])

-- ---- a leg that is not priced

every-false : (test : SeenLeg → Bool) (vs : List SeenLeg) → fold (λ b v. b && test v) false vs ≡ false
every-false test [] = refl
every-false test (v ∷ vs) = every-false test vs

every-no : (test : SeenLeg → Bool) (b : Bool) (vs : List SeenLeg) (i : ℕ) (d : SeenLeg) → i < length vs → test (get_or vs i d) ≡ false → fold (λ a w. a && test w) b vs ≡ false
every-no test b [] i d h e = absurd (omega arith)
every-no test b (v ∷ vs) zero d h e = rw (e, and_right b false refl) (every-false test vs)
every-no test b (v ∷ vs) (suc i) d h e = every-no test (b && test v) vs i d (omega arith) e

pub unpriced-leg : (vs : List SeenLeg) (i : ℕ) (d : SeenLeg) → i < length vs → both_used (get_or vs i d) ≡ false → priced vs ≡ false
unfolding priced
unpriced-leg vs i d h e = every-no both_used true vs i d h e
