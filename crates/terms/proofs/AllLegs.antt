-- What the tests of all legs decide.
use Rattle.std.proofs.Common.{◌≡◌, ℕ, ◌%◌, ◌≤◌, ◌&&◌, eqb, leb, List, Decides, refl, arith}
use Rattle.std.specs.List.{AllByRecursion}
use Rattle.std.proofs.ByRecursion.{Decides-by_and}
use Rattle.std.proofs.lemmas.Bool.{leb-true, le-leb}
use Rattle.std.proofs.lemmas.Bool.Decides.{Decides-and, Decides-eqb}
use Rattle.terms.specs.declared.leg.Leg.{Leg}
use Rattle.terms.specs.declared.leg.OptionKind.{OptionKind}
use Rattle.terms.specs.declared.leg.OptionKind.TheVariants.{Call, Put}
use Rattle.terms.specs.declared.side.Side.{Side}
use Rattle.terms.specs.declared.side.Side.TheVariants.{Buy, Sell}
use Rattle.terms.specs.Sides.{same_side}
use Rattle.terms.specs.Strategies.{RatiosInRange, DividesAll, ratios_in_range, divides_all, same_kind, all_on_side, all_of_kind}

pub decides-between : (low high n : ℕ) → Decides (leb low n && leb n high) ((low ≤ n) × (n ≤ high))
decides-between low high n = Decides-and _ _ (leb-true low n, le-leb low n) (leb-true n high, le-leb n high)

pub decides-range : (legs : List Leg) → Decides (ratios_in_range legs) (RatiosInRange legs)
decides-range =
    Decides-by_and (λ leg. leb 1 leg.ratio && leb leg.ratio 100) (λ leg. (1 ≤ leg.ratio) × (leg.ratio ≤ 100))
    ratios_in_range (λ leg. decides-between 1 100 leg.ratio) refl (λ _ _. refl)

pub decides-divides-all : (d : ℕ) (legs : List Leg) → Decides (divides_all d legs) (DividesAll d legs)
decides-divides-all d =
    Decides-by_and (λ leg. eqb (leg.ratio % d) 0) (λ leg. leg.ratio % d ≡ 0)
    (divides_all d) (λ leg. Decides-eqb (leg.ratio % d) 0) refl (λ _ _. refl)

-- whether two sides are one
decides-same-side : (a b : Side) → Decides (same_side a b) (a ≡ b)
decides-same-side Buy Buy = (λ _. refl, λ _. refl)
decides-same-side Sell Sell = (λ _. refl, λ _. refl)
decides-same-side Buy Sell = (λ h. grind arith, λ h. grind arith)
decides-same-side Sell Buy = (λ h. grind arith, λ h. grind arith)

-- whether every leg is on this side
pub decides-on-side : (side : Side) (legs : List Leg) →
    Decides (all_on_side side legs) (AllByRecursion (λ leg. leg.side ≡ side) legs)
decides-on-side side =
    Decides-by_and (λ leg. same_side leg.side side) (λ leg. leg.side ≡ side)
    (all_on_side side) (λ leg. decides-same-side leg.side side) refl (λ _ _. refl)

-- whether two kinds are one
decides-same-kind : (a b : OptionKind) → Decides (same_kind a b) (a ≡ b)
decides-same-kind Call Call = (λ _. refl, λ _. refl)
decides-same-kind Put Put = (λ _. refl, λ _. refl)
decides-same-kind Call Put = (λ h. grind arith, λ h. grind arith)
decides-same-kind Put Call = (λ h. grind arith, λ h. grind arith)

-- whether every leg is of this kind
pub decides-of-kind : (kind : OptionKind) (legs : List Leg) →
    Decides (all_of_kind kind legs) (AllByRecursion (λ leg. leg.kind ≡ kind) legs)
decides-of-kind kind =
    Decides-by_and (λ leg. same_kind leg.kind kind) (λ leg. leg.kind ≡ kind)
    (all_of_kind kind) (λ leg. decides-same-kind leg.kind kind) refl (λ _ _. refl)
