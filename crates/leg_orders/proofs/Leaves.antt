-- An order found by its number and taken out.
use Rattle.std.proofs.Common.{◌≡◌, ℕ, zero, suc, ◌<◌, true, false, List, [], ◌∷◌, ◌++◌, length, get_or, take, drop, Some, None, sym, refl, ap, ◌∙◌, subst, arith, take-append-drop}
use Rattle.std.specs.List.{remove}
use Rattle.std.proofs.Math.Seq.{drop-cons}
use Rattle.std.proofs.lemmas.Bool.{eq-eqb, ne_eqb}
use Rattle.terms.specs.declared.side.Side.{Side}
use Rattle.ranked.specs.Order.{in_order, FoundAt, Found}
use Rattle.leg_orders.specs.declared.order.LegOrder.{LegOrder}
use Rattle.leg_orders.specs.Ranks.{leg_before}
use Rattle.leg_orders.specs.Books.{book_shown, fine_orders, has_number, AwayPrices}
use Rattle.leg_orders.specs.Leaves.{order_numbered, without, left}
use Rattle.leg_orders.proofs.Books.{shows_left}
use Rattle.leg_orders.proofs.Kept.{Kept, less-kept}

abbrev number_of : LegOrder → ℕ
number_of order = order.number

pub record Standing (number : ℕ) (orders : List LegOrder) (place : ℕ) : Type 0 where
  pub stands : has_number number orders ≡ true
  pub rest : remove orders place ≡ without number orders
  pub order : (d : LegOrder) → order_numbered number orders ≡ Some (get_or orders place d)

pub standing : (number : ℕ) (orders : List LegOrder) (place : ℕ) → FoundAt number_of orders number place → Standing number orders place
standing number [] place at = absurd (omega (arith, at.within))
standing number (x ∷ xs) zero at =
    let e = eq-eqb x.number number (at.is x) in
    record { stands = rw e refl; rest = rw e refl; order = λ d. rw e refl }
standing number (x ∷ xs) (suc place) at =
    let e = ne_eqb x.number number (at.first 0 x (omega arith)) in
    let more = standing number xs place (record { within = omega (arith, at.within); is = at.is; first = λ k d l. at.first (suc k) d (omega arith) }) in
    record { stands = rw e more.stands; rest = rw e (ap (λ (ys : List LegOrder). x ∷ ys) more.rest); order = λ d. rw e (more.order d) }

pub record Absent (number : ℕ) (orders : List LegOrder) : Type 0 where
  pub stands : has_number number orders ≡ false
  pub rest : orders ≡ without number orders
  pub order : order_numbered number orders ≡ None

pub absent : (number : ℕ) (orders : List LegOrder) → Found number_of orders number None → Absent number orders
absent number [] at = record { stands = refl; rest = refl; order = refl }
absent number (x ∷ xs) at =
    let e = ne_eqb x.number number (at 0 x (omega arith)) in
    let more = absent number xs (λ k d l. at (suc k) d (omega arith)) in
    record { stands = rw e more.stands; rest = rw e (ap (λ (ys : List LegOrder). x ∷ ys) more.rest); order = rw e more.order }

split_at : (xs : List LegOrder) (place : ℕ) (d : LegOrder) → place < length xs → xs ≡ take place xs ++ get_or xs place d ∷ drop (suc place) xs
split_at xs place d l = sym (take-append-drop place xs) ∙ ap (λ (ys : List LegOrder). take place xs ++ ys) (drop-cons xs place d l)

pub withdraw-kept : (last : ℕ) (away : List AwayPrices) (orders : List LegOrder) (place : ℕ) (d : LegOrder) → place < length orders → in_order leg_before (remove orders place) ≡ true → Kept last orders away → Kept last (remove orders place) away
withdraw-kept last away orders place d l ranked kept =
    less-kept last away (get_or orders place d) (take place orders) (drop (suc place) orders) ranked (subst (λ (o : List LegOrder). Kept last o away) (split_at orders place d l) kept)

pub withdraw-shows : (away : List AwayPrices) (orders : List LegOrder) (place : ℕ) (d : LegOrder) → place < length orders → in_order leg_before orders ≡ true → fine_orders (remove orders place) ≡ true → (l : ℕ) (s : Side) → book_shown (remove orders place) away l s ≡ left (book_shown orders away) (get_or orders place d) l s
withdraw-shows away orders place d lt ranked fine l s =
    let whole = split_at orders place d lt in
    shows_left (get_or orders place d) (take place orders) (drop (suc place) orders) away (subst (λ (o : List LegOrder). in_order leg_before o ≡ true) whole ranked) fine l s
    ∙ ap (λ (o : List LegOrder). left (book_shown o away) (get_or orders place d) l s) (sym whole)
