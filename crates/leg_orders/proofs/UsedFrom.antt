-- Orders used up from a place on, one after the other.
use Rattle.std.proofs.Common.{◌≡◌, ℕ, zero, suc, ◌-◌, ◌<◌, ◌≤◌, Bool, true, false, cond, not, List, [], ◌∷◌, set, Some, None, Option, sym, refl, ap, ◌∙◌, subst, inl, inr, arith}
use Rattle.std.specs.List.{slice_get, remove}
use Rattle.std.proofs.lemmas.Bool.{cases_Bool, and_from, not_from_false, le-leb, lt-leb}
use Rattle.ranked.specs.Order.{may_set}
use Rattle.leg_orders.specs.declared.order.LegOrder.{LegOrder}
use Rattle.leg_orders.specs.Ranks.{leg_before}
use Rattle.leg_orders.specs.Uses.{fewer}
use Rattle.leg_orders.specs.Scans.{used_from}
use Rattle.leg_orders.specs.RanksLemmas.{oneway}

-- none stands there
pub used-past : (xs : List LegOrder) (place n : ℕ) → None ≡ slice_get xs place → xs ≡ used_from place n xs
used-past [] zero n past = refl
used-past [] (suc place) n past = refl
used-past (x ∷ xs) zero n past = absurd (cc)
used-past (x ∷ xs) (suc place) n past = ap (λ (ys : List LegOrder). x ∷ ys) (used-past xs place n past)

used-part : (xs : List LegOrder) (place n : ℕ) (x : LegOrder) → Some x ≡ slice_get xs place → n < x.contracts → used_from place n xs ≡ set xs place (fewer x n)
used-part [] place n x e part = absurd (cc)
used-part (y ∷ ys) zero n x e part =
    let same : x ≡ y = grind arith in
    let less : n < y.contracts = subst (λ (o : LegOrder). n < o.contracts) same part in
    rw (lt-leb y.contracts n less) (ap (λ (o : LegOrder). fewer o n ∷ ys) (sym same))
used-part (y ∷ ys) (suc place) n x e part = ap (λ (zs : List LegOrder). y ∷ zs) (used-part ys place n x e part)

pub used_all : (xs : List LegOrder) (place n : ℕ) (x : LegOrder) → Some x ≡ slice_get xs place → x.contracts ≤ n → used_from place (n - x.contracts) (remove xs place) ≡ used_from place n xs
used_all [] place n x e all = absurd (cc)
used_all (y ∷ ys) zero n x e all =
    let same : x ≡ y = grind arith in
    let more : y.contracts ≤ n = subst (λ (o : LegOrder). o.contracts ≤ n) same all in
    rw (le-leb y.contracts n more) (ap (λ (o : LegOrder). used_from 0 (n - o.contracts) ys) same)
used_all (y ∷ ys) (suc place) n x e all = ap (λ (zs : List LegOrder). y ∷ zs) (used_all ys place n x e all)

-- an order with fewer contracts has the same rank
not_itself : (x : LegOrder) → leg_before x x ≡ false
not_itself x = elim (cases_Bool (leg_before x x)) [ inl e ↦ oneway x x e | inr e ↦ e ]

fewer-may-set : (x : LegOrder) (n : ℕ) → may_set leg_before (Some x) (fewer x n) ≡ true
fewer-may-set x n = and_from (not (leg_before x (fewer x n))) (not (leg_before (fewer x n) x)) (not_from_false (leg_before x (fewer x n)) (not_itself x)) (not_from_false (leg_before (fewer x n) x) (not_itself x))

-- what putting the order with fewer contracts in its place leaves
pub part-replaced : (xs ys : List LegOrder) (place n : ℕ) (x y : LegOrder) (put : Bool) → Some x ≡ slice_get xs place → n < x.contracts → y ≡ fewer x n → put ≡ may_set leg_before (slice_get xs place) y → ys ≡ cond put (set xs place y) xs → ys ≡ used_from place n xs
part-replaced xs ys place n x y put read part is may after =
    let yes : put ≡ true =
    may ∙ ap (λ (o : LegOrder). may_set leg_before (slice_get xs place) o) is ∙ ap (λ (o : Option LegOrder). may_set leg_before o (fewer x n)) (sym read) ∙ fewer-may-set x n in
    after ∙ ap (λ (b : Bool). cond b (set xs place y) xs) yes ∙ ap (λ (o : LegOrder). set xs place o) is ∙ sym (used-part xs place n x read part)
