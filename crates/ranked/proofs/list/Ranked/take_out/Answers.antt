-- One record less.
use Rattle.std.proofs.Common.{◌≡◌, ◌-◌, true, List, take, sym, ap, ◌∙◌, subst, arith}
use Rattle.ranked.specs.Order.{in_order}
use Rattle.ranked.proofs.Orders.{in-order-removed}
use Rattle.ranked.proofs.Shifts.{removed-from-copied}
use Rattle.ranked.proofs.list.Ranked.take_out.Goals as goal

pub invariant_of-self : goal.invariant_of-self
invariant_of-self g c =
    let list = c.args.self.now in
    let slots = list.slots.now in
    let is = ap (take (list.len - 1)) c.copy_within.ensures.after ∙ removed-from-copied slots c.args.place list.len c.if-place-self.true list.within in
    record {
      within = omega (arith, list.within, c.copy_within.ensures.len);
      ranked = subst (λ (l : List g.row.T.Denot). in_order g.T.Rank.before l ≡ true) (sym is) (in-order-removed g.T.Rank.before (take list.len slots) c.args.place list.ranked);
    }

pub returns-then-place-self-clause-list : goal.returns-then-place-self-clause-list
returns-then-place-self-clause-list g c =
    let list = c.args.self.now in
    ap (take (list.len - 1)) c.copy_within.ensures.after ∙ removed-from-copied list.slots.now c.args.place list.len c.if-place-self.true list.within
