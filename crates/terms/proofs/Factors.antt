-- A number above 1 that divides all ratios: the test up to n finds one up to n, and there is none above 100.
use Rattle.std.proofs.Common.{◌≡◌, ℕ, zero, suc, ◌-◌, ◌%◌, ◌<◌, ◌≤◌, false, ◌&&◌, leb, List, [], ◌∷◌, length, Decides, refl, inl, inr, mod-eq_of_lt, arith}
use Rattle.std.proofs.lemmas.Bool.{and_right, or_from, leb-true, le-leb, cases_lt}
use Rattle.std.proofs.lemmas.Bool.Decides.{Decides-and, Decides-below_or, Decides-like}
use Rattle.terms.specs.declared.leg.Leg.{Leg}
use Rattle.terms.specs.Strategies.{DividesAll, CommonFactor, RatiosInRange, divides_all, common_factor}
use Rattle.terms.proofs.AllLegs.{decides-divides-all}

-- ---- numbers up to n

abbrev pub FactorUpTo : ℕ → List Leg → Type 0
FactorUpTo n legs = (d : ℕ) × (2 ≤ d) × (d ≤ n) × DividesAll d legs

-- d is one more than k
counted : (n : ℕ) (legs : List Leg) (d : ℕ) → 2 ≤ d → d ≤ n → DividesAll d legs →
    (k : ℕ) × (k < n) × ((2 ≤ suc k) × DividesAll (suc k) legs)
counted n legs zero two up all = absurd (omega arith)
counted n legs (suc k) two up all = (k, omega arith, (two, all))

pub decides-factor : (n : ℕ) (legs : List Leg) → Decides (common_factor n legs) (FactorUpTo n legs)
decides-factor n legs =
    Decides-like (common_factor n legs)
    (λ f. (suc f.0, f.2.0, omega (arith, f.1), f.2.1))
    (λ f. counted n legs f.0 f.1 f.2 f.3)
    (Decides-below_or (λ k. leb 2 (suc k) && divides_all (suc k) legs) (λ k. (2 ≤ suc k) × DividesAll (suc k) legs)
    (λ m. common_factor m legs)
    (λ k. Decides-and _ _ (leb-true 2 (suc k), le-leb 2 (suc k)) (decides-divides-all (suc k) legs))
    refl (λ _. refl) n)

pub no-factor-more : (n : ℕ) (legs : List Leg) → 2 ≤ n → divides_all n legs ≡ false →
    common_factor (n - 1) legs ≡ false → common_factor n legs ≡ false
no-factor-more zero legs two here below = absurd (omega arith)
no-factor-more (suc n) legs two here below =
    let less : suc n - 1 ≡ n = omega arith in
    or_from _ _ (and_right (leb 2 (suc n)) _ here) (rw less at below)

-- ---- a number that divides a ratio is no larger than the ratio

divisor-small : (r d : ℕ) → 1 ≤ r → r % d ≡ 0 → d ≤ r
divisor-small r d low e = elim (cases_lt r d) [ inl h ↦ absurd (omega (arith, mod-eq_of_lt h)) | inr h ↦ h ]

pub factor-up-to-100 : (legs : List Leg) → 1 ≤ length legs → RatiosInRange legs →
    CommonFactor legs → FactorUpTo 100 legs
factor-up-to-100 [] long range f = absurd (omega arith)
factor-up-to-100 (leg ∷ legs) long range f =
    let small : f.0 ≤ leg.ratio = divisor-small leg.ratio f.0 range.0.0 f.2.0 in
    (f.0, f.1, omega (arith, range.0.1), f.2)
