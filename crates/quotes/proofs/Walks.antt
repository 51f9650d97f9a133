-- A walk over the levels, best first, to the first of which something is left.
use Rattle.std.proofs.Common.{◌≡◌, ℕ, zero, suc, ◌+◌, ◌-◌, ◌*◌, ◌<◌, ◌≤◌, Bool, true, false, cond, ltb, List, [], ◌∷◌, length, drop, Some, None, Option, sym, refl, ap, ◌∙◌, arith}
use Rattle.std.proofs.lemmas.Option.{slice_get_past}
use Rattle.std.proofs.lemmas.Bool.{lt-ltb, le-ltb, ltb-true, ltb-false}
use Rattle.std.specs.List.{slice_get}
use Rattle.terms.specs.declared.side.Side.{Side}
use Rattle.quotes.specs.declared.level.Level.{Level}
use Rattle.quotes.specs.declared.taken.Found.{Found}
use Rattle.quotes.specs.Shown.{contracts, sound_level, sound_levels}
use Rattle.quotes.specs.Takes.{lessened, level_left}
use Rattle.quotes.specs.Trials.{less_taken, FirstLeft}
use Rattle.quotes.proofs.Parts.{level-bounds, first-sound}
use Rattle.quotes.proofs.LessTaken.{rest-sound, less-length}

-- ---- places

drop_nth : (levels : List Level) (place : ℕ) (level : Level) → Some level ≡ slice_get levels place → drop place levels ≡ level ∷ drop (place + 1) levels
drop_nth [] place level e = grind arith
drop_nth (first ∷ levels) zero level e = grind arith
drop_nth (first ∷ levels) (suc place) level e =
    let next : suc (place + 1) ≡ suc place + 1 = omega arith in
    drop_nth levels place level e ∙ ap (λ (n : ℕ). level ∷ drop n (first ∷ levels)) next

drop-none : (levels : List Level) (place : ℕ) → None ≡ slice_get levels place → drop place levels ≡ []
drop-none [] zero e = refl
drop-none [] (suc place) e = refl
drop-none (first ∷ levels) zero e = grind arith
drop-none (first ∷ levels) (suc place) e = drop-none levels place e

nth_drop : (levels : List Level) (skipped place : ℕ) → slice_get (drop skipped levels) place ≡ slice_get levels (skipped + place)
nth_drop [] zero place = refl
nth_drop [] (suc skipped) place = refl
nth_drop (first ∷ levels) zero place = let e : place ≡ 0 + place = omega arith in ap (λ (n : ℕ). slice_get (first ∷ levels) n) e
nth_drop (first ∷ levels) (suc skipped) place =
    let e : suc (skipped + place) ≡ suc skipped + place = omega arith in nth_drop levels skipped place ∙ ap (λ (n : ℕ). slice_get (first ∷ levels) n) e

pub nth-sound : (side : Side) (levels : List Level) (place : ℕ) (level : Level) → sound_levels side levels ≡ true → Some level ≡ slice_get levels place → sound_level level ≡ true
nth-sound side [] place level h e = grind arith
nth-sound side (first ∷ levels) zero level h e = let same : level ≡ first = grind arith in rw same (first-sound side first levels h)
nth-sound side (first ∷ levels) (suc place) level h e = nth-sound side levels place level (rest-sound side first levels h) e

-- ---- the walk

-- the levels before this place are all taken, and so many contracts more are to be taken from this place on
pub record Walked (own : List Level) (total place more : ℕ) : Type 0 where
  pub same : less_taken own total ≡ less_taken (drop place own) more
  pub few : total ≤ more + 10000000 * place

some_left : (some : Bool) (level left : Level) → Some left ≡ cond some (Some level) None → (some ≡ true) × (left ≡ level)
some_left true level left e = (refl, grind arith)
some_left false level left e = grind arith

all-gone : (some : Bool) (level : Level) → None ≡ cond some (Some level) None → some ≡ false
all-gone true level e = grind arith
all-gone false level e = refl

something-left : (level left : Level) (more : ℕ) → Some left ≡ level_left level more → (more < contracts level) × (left ≡ lessened level more)
something-left level left more e =
    let some = some_left (ltb more (contracts level)) (lessened level more) left e in
    (ltb-true more (contracts level) some.0, some.1)

nothing_left : (level : Level) (more : ℕ) → None ≡ level_left level more → contracts level ≤ more
nothing_left level more e = ltb-false more (contracts level) (all-gone (ltb more (contracts level)) (lessened level more) e)

pub walk-on : (side : Side) (own : List Level) (total place more : ℕ) (level : Level) → sound_levels side own ≡ true → Walked own total place more → Some level ≡ slice_get own place → None ≡ level_left level more → Walked own total (place + 1) (more - contracts level)
walk-on side own total place more level h walked here e =
    let all = nothing_left level more e in
    let most = (level-bounds level (nth-sound side own place level h here)).most in
    record {
      same = walked.same ∙ rw (drop_nth own place level here, le-ltb more (contracts level) all);
      few = omega (arith, walked.few);
    }

pub walk-found : (side : Side) (own : List Level) (total place more : ℕ) (level left : Level) → sound_levels side own ≡ true → Walked own total place more → place < 16 → Some level ≡ slice_get own place → Some left ≡ level_left level more → FirstLeft own total (record { place = place; level = left })
walk-found side own total place more level left h walked near here e =
    let some = something-left level left more e in
    let most = (level-bounds level (nth-sound side own place level h here)).most in
    let cut : less_taken (drop place own) more ≡ lessened level more ∷ drop (place + 1) own = rw (drop_nth own place level here, lt-ltb more (contracts level) some.0) in
    let fewer : contracts (lessened level more) ≡ contracts level - more = omega (arith, some.0) in
    let count : contracts left ≡ contracts level - more = ap contracts some.1 ∙ fewer in
    record {
      near = near;
      first = walked.same ∙ cut ∙ ap (λ (first : Level). first ∷ drop (place + 1) own) (sym some.1);
      small = omega (arith, walked.few, count, most, some.0);
    }

pub walk-short : (own : List Level) (total place more : ℕ) → Walked own total place more → None ≡ slice_get own place → less_taken own total ≡ []
walk-short own total place more walked e = walked.same ∙ ap (λ (levels : List Level). less_taken levels more) (drop-none own place e)

-- a walk past the last level finds nothing left
pub walk_end : (own : List Level) (total place more : ℕ) → Walked own total place more → length own ≤ place → less_taken own total ≡ []
walk_end own total place more walked short = walk-short own total place more walked (sym (slice_get_past own place short))

-- ---- what the first level left tells of the others

pub nth-behind : (own : List Level) (total : ℕ) (found : Found) (place : ℕ) (level : Option Level) → FirstLeft own total found → (place ≡ 0 → ⊥) → level ≡ slice_get own (found.place + place) → level ≡ slice_get (less_taken own total) place
nth-behind own total found zero level left later e = absurd (later refl)
nth-behind own total found (suc place) level left later e =
    let on : (found.place + 1) + place ≡ found.place + suc place = omega arith in
    e ∙ sym (ap (λ (levels : List Level). slice_get levels (suc place)) left.first ∙ nth_drop own (found.place + 1) place ∙ ap (λ (n : ℕ). slice_get own n) on)

-- no place past the depth shows a level
pub nth-short : (own : List Level) (total place : ℕ) → length own ≤ place → None ≡ slice_get (less_taken own total) place
nth-short own total place short =
    let fewer = less-length own total in
    let past : length (less_taken own total) ≤ place = omega arith in
    sym (slice_get_past (less_taken own total) place past)
