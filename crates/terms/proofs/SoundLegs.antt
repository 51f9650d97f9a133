-- The test of sound legs says what the words say, and a strategy is made where it passes.
use Rattle.std.proofs.Common.{◌≡◌, ◌≤◌, Bool, true, false, cond, ◌&&◌, List, length, is_ok, ◌++◌, take, Option, Some, None, Decides, Result, Ok, Err, sym, refl, ap, ◌∙◌, arith}
use Rattle.std.proofs.Math.Seq.{take-append_seam}
use Rattle.std.proofs.lemmas.Bool.Decides.{Decides-and, Decides-at, Decides-like, Decides-not}
use Rattle.terms.specs.declared.leg.Leg.{Leg}
use Rattle.terms.specs.declared.refusal.Refusal.{Refusal}
use Rattle.terms.specs.declared.refusal.Refusal.TheVariants.{LegCount, Ratios}
use Rattle.terms.specs.Refusals.{answered}
use Rattle.terms.specs.Strategies.{RatiosInRange, SoundLegs, leg_count_fits, ratios_fit, sound_legs}
use Rattle.terms.specs.Strategies.{MadeExactlyOf, legs_refusal, strategy_answer}
use Rattle.terms.proofs.AllLegs.{decides-between, decides-range}
use Rattle.terms.proofs.Factors.{decides-factor, factor-up-to-100}

pub decides-sound : (legs : List Leg) → Decides (sound_legs legs) (SoundLegs legs)
decides-sound legs =
    Decides-like (sound_legs legs)
    (λ h. record {
      count = h.0;
      range = h.1.0;
      prime = λ f. h.1.1 (factor-up-to-100 legs (omega (arith, h.0.0)) h.1.0 f);
    })
    (λ s. (s.count, (s.range, λ f. s.prime (f.0, f.1, f.3))))
    (Decides-and _ _ (decides-between 2 6 (length legs))
    (Decides-and _ _ (decides-range legs) (Decides-not _ (decides-factor 100 legs))))

pub sound-count : (legs : List Leg) → sound_legs legs ≡ true → (2 ≤ length legs) × (length legs ≤ 6)
sound-count legs h = ((decides-sound legs).0 h).count

pub sound-range : (legs : List Leg) → sound_legs legs ≡ true → RatiosInRange legs
sound-range legs h = ((decides-sound legs).0 h).range

-- ---- what making a strategy answers

ok-where-both : (legs : List Leg) (count ratios : Bool) →
    is_ok (answered (cond count (cond ratios None (Some Ratios)) (Some LegCount)) legs) ≡ (count && ratios)
ok-where-both legs true true = refl
ok-where-both legs true false = refl
ok-where-both legs false ratios = refl

pub made-where-sound : (legs : List Leg) → is_ok (strategy_answer legs) ≡ sound_legs legs
made-where-sound legs = ok-where-both legs (leg_count_fits legs) (ratios_fit legs)

-- a call that a check refuses answers what the check does
refused-alike : (refusal : Option Refusal) (legs : List Leg) (why : Refusal) →
    Err why ≡ answered {X = Unit {0}} refusal tt → Err why ≡ answered refusal legs
refused-alike None legs why is = grind arith
refused-alike (Some refusal) legs why is = grind arith

accepted-alike : (refusal : Option Refusal) (legs : List Leg) →
    Ok tt ≡ answered {X = Unit {0}} refusal tt → Ok legs ≡ answered refusal legs
accepted-alike None legs is = refl
accepted-alike (Some refusal) legs is = grind arith

abbrev CheckAnswers : List Leg → Result (Unit {0}) Refusal → Type 0
CheckAnswers legs answer = answer ≡ answered {X = Unit {0}} (legs_refusal legs) tt

pub refused-from-check : (legs : List Leg) (why : Refusal) → CheckAnswers legs (Err why) → Err why ≡ strategy_answer legs
refused-from-check legs why is = refused-alike (legs_refusal legs) legs why is

pub made-from-check : (legs : List Leg) → CheckAnswers legs (Ok tt) → Ok legs ≡ strategy_answer legs
made-from-check legs is = accepted-alike (legs_refusal legs) legs is

pub sound-from-check : (legs : List Leg) → CheckAnswers legs (Ok tt) → sound_legs legs ≡ true
sound-from-check legs is = sym (ap is_ok (made-from-check legs is) ∙ made-where-sound legs)

pub places-begin-with : (legs copied unused : List Leg) → copied ≡ legs → take (length legs) (copied ++ unused) ≡ legs
places-begin-with legs copied unused same = rw same (take-append_seam legs unused)

pub made-exactly : (legs : List Leg) (answer : Result (List Leg) Refusal) →
    answer ≡ strategy_answer legs → MadeExactlyOf legs (is_ok answer)
made-exactly legs answer is =
    let d = Decides-at (is_ok answer) _ (ap is_ok is ∙ made-where-sound legs) (decides-sound legs) in
    record { sound = d.0; whole = d.1 }
