-- One record more, at its place.
use Rattle.std.proofs.Common.{◌≡◌, ◌+◌, true, List, length, take, set, sym, ap, ◌∙◌, subst, arith}
use Rattle.std.proofs.lemmas.List.{length-take-le, length-set}
use Rattle.ranked.specs.Order.{in_order}
use Rattle.ranked.proofs.Orders.{in-order-inserted-given}
use Rattle.ranked.proofs.Shifts.{inserted-from-copied}
use Rattle.ranked.proofs.list.Ranked.take_in.Goals as goal

pub invariant_of-self : goal.invariant_of-self
invariant_of-self g c =
    let list = c.args.self.now in
    let slots = list.slots.now in
    let long : length (take list.len slots) ≡ list.len = length-take-le list.len slots list.within in
    let is = ap (λ (l : List g.row.T.Denot). take (list.len + 1) (set l c.args.place c.args.x)) c.copy_within.ensures.after ∙ inserted-from-copied slots c.args.place list.len c.args.x (omega (arith, c.requires.within)) (omega (arith, c.requires.free)) in
    record {
      within = omega (arith, c.requires.free, c.copy_within.ensures.len, length-set c.copy_within.new.self c.args.place c.args.x);
      ranked = subst (λ (l : List g.row.T.Denot). in_order g.T.Rank.before l ≡ true) (sym is) (in-order-inserted-given g.T.Rank.before g.met.T.Rank.chain g.met.T.Rank.oneway c.args.x (take list.len slots) c.args.place _ list.ranked c.requires.place);
    }

pub returns-clause-list : goal.returns-clause-list
returns-clause-list g c =
    let list = c.args.self.now in
    let slots = list.slots.now in
    let long : length (take list.len slots) ≡ list.len = length-take-le list.len slots list.within in
    ap (λ (l : List g.row.T.Denot). take (list.len + 1) (set l c.args.place c.args.x)) c.copy_within.ensures.after ∙ inserted-from-copied slots c.args.place list.len c.args.x (omega (arith, c.requires.within)) (omega (arith, c.requires.free))
