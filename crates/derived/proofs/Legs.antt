-- One turn of the loop over the legs: what is known after the first i of them.
use Rattle.std.proofs.Common.{◌≡◌, ℕ, zero, suc, ◌+◌, ◌<◌, ◌≤◌, Bool, true, false, cond, List, [], ◌∷◌, ◌++◌, length, get_or, take, Some, None, Option, sym, refl, ap, ◌∙◌, arith}
use Rattle.std.proofs.ByRecursion.{All-get_or}
use Rattle.std.proofs.lemmas.List.{take_all, take_more, length-take}
use Rattle.std.proofs.lemmas.Option.{cond_some, none-some}
use Rattle.terms.specs.declared.leg.Leg.{Leg}
use Rattle.terms.specs.Strategies.{sound_legs, smallest_ratio}
use Rattle.terms.proofs.SoundLegs.{sound-range}
use Rattle.quotes.specs.Shown.{Shown}
use Rattle.derived.specs.declared.prices.Derived.{Derived}
use Rattle.derived.specs.Derived.{SeenLeg, seen_at, seen_from, seen, both_used, priced, derived_of}
use Rattle.derived.specs.Tallies.{GoodLeg, leg_priced, Tallied, tally, derived_from}
use Rattle.derived.proofs.Folds.{priced-more, unpriced-leg}

length_seen : (shown : Shown) (k : ℕ) (legs : List Leg) → length (seen_from shown k legs) ≡ length legs
length_seen shown k [] = refl
length_seen shown k (leg ∷ legs) = ap suc (length_seen shown (k + 1) legs)

get_or-seen : (shown : Shown) (k : ℕ) (legs : List Leg) (i : ℕ) (d : Leg) (e : SeenLeg) → i < length legs → get_or (seen_from shown k legs) i e ≡ seen_at shown (k + i) (get_or legs i d)
get_or-seen shown k [] i d e h = absurd (omega arith)
get_or-seen shown k (leg ∷ legs) zero d e h = let z : k + 0 ≡ k = omega arith in rw z
get_or-seen shown k (leg ∷ legs) (suc i) d e h =
    let z : k + suc i ≡ (k + 1) + i = omega arith in
    rw z (get_or-seen shown (k + 1) legs i d e (omega arith))

pub seen-leg : (shown : Shown) (legs : List Leg) (i : ℕ) (d : Leg) (e : SeenLeg) → i < length legs → get_or (seen shown legs) i e ≡ seen_at shown i (get_or legs i d)
seen-leg shown legs i d e h =
    let z : 0 + i ≡ i = omega arith in
    get_or-seen shown 0 legs i d e h ∙ ap (λ (k : ℕ). seen_at shown k (get_or legs i d)) z

pub seen-long : (shown : Shown) (legs : List Leg) → length (seen shown legs) ≡ length legs
seen-long shown legs = length_seen shown 0 legs

pub good-leg : (legs : List Leg) (i : ℕ) (d : Leg) → sound_legs legs ≡ true → i < length legs → GoodLeg (get_or legs i d)
good-leg legs i d s h = All-get_or _ legs i d h (sound-range legs s)

-- ---- the invariant

pub record Upto (shown : Shown) (legs : List Leg) (i : ℕ) (t : Tallied) : Type 0 where
  pub value : t ≡ tally (take i (seen shown legs))
  pub whole : priced (take i (seen shown legs)) ≡ true

start-priced : (shown : Shown) (legs : List Leg) → priced (take 0 (seen shown legs)) ≡ true
unfolding priced
start-priced shown legs = refl

pub upto-start : (shown : Shown) (legs : List Leg) (t : Tallied) → t ≡ tally [] → Upto shown legs 0 t
upto-start shown legs t e = record { value = e; whole = start-priced shown legs }

upto-count : (shown : Shown) (legs : List Leg) (i : ℕ) (t : Tallied) → i < length legs → Upto shown legs i t → t.legs ≡ i
upto-count shown legs i t h o =
    let count : t.legs ≡ length (take i (seen shown legs)) = ap (λ (x : Tallied). x.legs) o.value in
    omega (arith, count, length-take i (seen shown legs), seen-long shown legs)

-- what is read at the place of the next leg is that leg
pub next-leg : (shown : Shown) (legs : List Leg) (i k : ℕ) (d : Leg) (t : Tallied) (r : Option SeenLeg) → i < length legs → Upto shown legs i t → k ≡ t.legs → r ≡ leg_priced shown k (get_or legs i d) → r ≡ leg_priced shown i (get_or legs i d)
next-leg shown legs i k d t r h o p e = e ∙ ap (λ (n : ℕ). leg_priced shown n (get_or legs i d)) (p ∙ upto-count shown legs i t h o)

pub upto-more : (shown : Shown) (legs : List Leg) (i k : ℕ) (d : Leg) (t u : Tallied) (r : Option SeenLeg) (v : SeenLeg) → i < length legs → Upto shown legs i t → k ≡ t.legs → r ≡ leg_priced shown k (get_or legs i d) → r ≡ Some v → ((vs : List SeenLeg) → t ≡ tally vs → u ≡ tally (vs ++ v ∷ [])) → Upto shown legs (i + 1) u
upto-more shown legs i k d t u r v h o p e n next =
    let vs = seen shown legs in
    let leg = seen_at shown i (get_or legs i d) in
    let s = cond_some (both_used leg) leg v (sym (next-leg shown legs i k d t r h o p e) ∙ n) in
    let at : get_or vs i v ≡ v = seen-leg shown legs i d v h ∙ s.1 in
    let long : i < length vs = rw (seen-long shown legs) h in
    let grown : take (i + 1) vs ≡ take i vs ++ v ∷ [] = take_more vs i v long ∙ ap (λ (w : SeenLeg). take i vs ++ w ∷ []) at in
    let used : both_used v ≡ true = ap both_used (sym s.1) ∙ s.0 in
    record {
      value = next (take i vs) o.value ∙ ap tally (sym grown);
      whole = ap priced grown ∙ priced-more (take i vs) v ∙ rw (o.whole, used);
    }

-- ---- a leg with no used price

none-if : (b : Bool) (v : SeenLeg) → None ≡ cond b (Some v) None → b ≡ false
none-if true v e = absurd (none-some v e)
none-if false v e = refl

pub no-derived : (shown : Shown) (legs : List Leg) (i : ℕ) (d : Leg) → i < length legs → None ≡ leg_priced shown i (get_or legs i d) → None ≡ derived_of shown legs
no-derived shown legs i d h e =
    let v = seen_at shown i (get_or legs i d) in
    let f : both_used (get_or (seen shown legs) i v) ≡ false = ap both_used (seen-leg shown legs i d v h) ∙ none-if (both_used v) v e in
    let q : priced (seen shown legs) ≡ false = unpriced-leg (seen shown legs) i v (rw (seen-long shown legs) h) f in
    rw q

-- ---- after the last leg

pub upto_all : (shown : Shown) (legs : List Leg) (i : ℕ) (t : Tallied) (s : ℕ) (r : Derived) → length legs ≤ i → s ≡ smallest_ratio legs → r ≡ derived_from t s → Upto shown legs i t → Some r ≡ derived_of shown legs
upto_all shown legs i t s r h e f o =
    let vs = seen shown legs in
    let all : take i vs ≡ vs = take_all i vs (rw (seen-long shown legs) h) in
    let p : priced vs ≡ true = ap priced (sym all) ∙ o.whole in
    let k : t ≡ tally vs = o.value ∙ ap tally all in
    let q : r ≡ derived_from (tally vs) (smallest_ratio legs) = f ∙ ap (λ (x : Tallied). derived_from x s) k ∙ ap (λ (n : ℕ). derived_from (tally vs) n) e in
    rw (p, q)
