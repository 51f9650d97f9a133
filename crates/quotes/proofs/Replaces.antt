-- Quotes replaced on one side of one leg.
use Rattle.std.proofs.Common.{◌≡◌, ℕ, refl, inl, inr}
use Rattle.std.proofs.lemmas.Bool.{cases_eq, eq-eqb, ne_eqb}
use Rattle.terms.specs.declared.side.Side.{Side}
use Rattle.terms.specs.declared.side.Side.TheVariants.{Buy, Sell}
use Rattle.quotes.specs.Shown.{Shown}
use Rattle.quotes.specs.Takes.{replaced}

-- by what stands there: nothing changes
pub replaced-same : (shown : Shown) (leg : ℕ) (side : Side) (l : ℕ) (s : Side) → shown l s ≡ replaced shown leg side (shown leg side) l s
replaced-same shown leg Buy l Buy = elim (cases_eq l leg) [ inl e ↦ rw (e, eq-eqb leg leg refl) | inr n ↦ rw (ne_eqb l leg n) ]
replaced-same shown leg Sell l Buy = elim (cases_eq l leg) [ inl e ↦ rw (e, eq-eqb leg leg refl) | inr n ↦ rw (ne_eqb l leg n) ]
replaced-same shown leg Buy l Sell = elim (cases_eq l leg) [ inl e ↦ rw (e, eq-eqb leg leg refl) | inr n ↦ rw (ne_eqb l leg n) ]
replaced-same shown leg Sell l Sell = elim (cases_eq l leg) [ inl e ↦ rw (e, eq-eqb leg leg refl) | inr n ↦ rw (ne_eqb l leg n) ]
