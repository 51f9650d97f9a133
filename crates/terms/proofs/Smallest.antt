-- The smallest ratio: it is the ratio of a leg, and no ratio is below it.
use Rattle.std.proofs.Common.{◌≡◌, ℕ, suc, ◌<◌, ◌≤◌, min, fold, ◌∙◌, true, List, [], ◌∷◌, length, get_or, inl, inr, arith}
use Rattle.std.specs.List.{AllByRecursion}
use Rattle.std.proofs.lemmas.Bool.{cases_lt}
use Rattle.terms.specs.declared.leg.Leg.{Leg}
use Rattle.terms.specs.Strategies.{RatiosInRange, SmallestOf, smallest_ratio, sound_legs}
use Rattle.terms.proofs.SoundLegs.{sound-count, sound-range}

pub smallest-under-100 : (legs : List Leg) → smallest_ratio legs ≤ 100
smallest-under-100 [] = omega arith
smallest-under-100 (leg ∷ legs) = omega (arith, smallest-under-100 legs)

pub fold-smallest : (n : ℕ) (legs : List Leg) → n ≤ 100 → fold (λ least leg. min least leg.ratio) n legs ≡ min n (smallest_ratio legs)
fold-smallest n [] most = omega arith
fold-smallest n (leg ∷ legs) most = fold-smallest (min n leg.ratio) legs (omega arith) ∙ omega arith

under_all : (r : ℕ) (legs : List Leg) → r ≤ smallest_ratio legs → AllByRecursion (λ leg. r ≤ leg.ratio) legs
under_all r [] h = tt
under_all r (leg ∷ legs) h = (omega arith, under_all r legs (omega arith))

abbrev Met : List Leg → ℕ → Type 0
Met legs r = (k : ℕ) × (k < length legs) × ((d : Leg) → (get_or legs k d).ratio ≡ r)

met-somewhere : (legs : List Leg) → 1 ≤ length legs → RatiosInRange legs → Met legs (smallest_ratio legs)
met-somewhere [] some range = absurd (omega arith)
met-somewhere (leg ∷ []) some range = (0, omega arith, λ d. omega (arith, range.0.1))
met-somewhere (leg ∷ (next ∷ legs)) some range =
    let later = met-somewhere (next ∷ legs) (omega arith) range.1 in
    elim (cases_lt leg.ratio (smallest_ratio (next ∷ legs))) [
      | inl h ↦ (0, omega arith, λ d. omega arith)
      | inr h ↦ (suc later.0, omega (arith, later.1), λ d. omega (arith, later.2 d))
    ]

pub smallest-of : (legs : List Leg) → sound_legs legs ≡ true → SmallestOf legs (smallest_ratio legs)
smallest-of legs sound =
    let some : 1 ≤ length legs = omega (arith, (sound-count legs sound).0) in
    record { under = under_all _ legs (omega arith); met = met-somewhere legs some (sound-range legs sound) }
