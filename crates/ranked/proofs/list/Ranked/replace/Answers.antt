-- A record of the same rank keeps the order.
use Rattle.std.proofs.Common.{◌≡◌, ◌<◌, true, List, length, take, sym, ◌∙◌, subst, arith, rules}
use Rattle.std.proofs.Math.Seq.{take-set-lt}
use Rattle.std.proofs.lemmas.List.{length-take-le, length-set}
use Rattle.ranked.specs.Order.{in_order}
use Rattle.ranked.proofs.Orders.{in-order-set, may-set-within}
use Rattle.ranked.proofs.list.Ranked.replace.Goals as goal

pub offset_bounds-self-place : goal.offset_bounds-self-place
offset_bounds-self-place g c =
    let list = c.args.self.now in
    let within = may-set-within g.T.Rank.before (take list.len list.slots.now) c.args.place c.args.y (sym c.may_put-fits.ensures ∙ c.if-fits.true) in
    let inside : c.args.place < length list.slots.now = omega (arith, within, list.within, length-take-le list.len list.slots.now list.within) in
    search rules

pub bounds-self-place : goal.bounds-self-place
bounds-self-place g c =
    let list = c.args.self.now in
    let within = may-set-within g.T.Rank.before (take list.len list.slots.now) c.args.place c.args.y (sym c.may_put-fits.ensures ∙ c.if-fits.true) in
    omega (arith, within, list.within, length-take-le list.len list.slots.now list.within)

pub invariant_of-self : goal.invariant_of-self
invariant_of-self g c =
    let before = g.T.Rank.before in
    let list = c.args.self.now in
    let slots = list.slots.now in
    let may = sym c.may_put-fits.ensures ∙ c.if-fits.true in
    let within = may-set-within before (take list.len slots) c.args.place c.args.y may in
    let is = take-set-lt list.len slots c.args.place c.args.y (omega (arith, within, length-take-le list.len slots list.within)) in
    record {
      within = omega (arith, list.within, length-set slots c.args.place c.args.y);
      ranked = subst (λ (l : List g.row.T.Denot). in_order before l ≡ true) (sym is) (in-order-set before g.met.T.Rank.chain (take list.len slots) c.args.place c.args.y may list.ranked);
    }

pub returns-then-fits-clause-list : goal.returns-then-fits-clause-list
returns-then-fits-clause-list g c =
    let list = c.args.self.now in
    let slots = list.slots.now in
    let within = may-set-within g.T.Rank.before (take list.len slots) c.args.place c.args.y (sym c.may_put-fits.ensures ∙ c.if-fits.true) in
    rw c.if-fits.true (take-set-lt list.len slots c.args.place c.args.y (omega (arith, within, length-take-le list.len slots list.within)))
