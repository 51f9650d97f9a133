-- The orders at one price are neighbours, and those in front make the best level.
use Rattle.std.proofs.Common.{◌≡◌, ◌∷◌, length, sym, ap, ◌∙◌, arith}
use Rattle.leg_orders.specs.Levels.{own}
use Rattle.leg_orders.proofs.Runs.{no-run, running-few, running_more, scan-next, run-to-end, run-to-other}
use Rattle.depth_book.specs.Levels.{unread_levels}
use Rattle.depth_book.proofs.scan.SideLevelsIterator.next.Goals.{in-Some+then-not-is_at, in_default}
use Rattle.depth_book.proofs.scan.SideLevelsIterator.next.Goals as goal

pub returns-then-not-is_of-clause-steps : goal.returns-then-not-is_of-clause-steps
returns-then-not-is_of-clause-steps c =
    let none = no-run c.in_ok-first.ensures.cases.0 c.args.self.now.scan (sym c.is_of.ensures ∙ c.if-not-is_of.true) in
    (none, none)

pub with_order-level-requires : goal.with_order-level-requires
with_order-level-requires c = running-few (running_more c.loop-order.invariant c.in-Some.ensures.cases.0 (sym c.if-not-is_at.ensures)) c.args.self.now.scan

pub loop-order-preserved : goal.loop-order-preserved
loop-order-preserved c = rw c.with_order-level.ensures (running_more c.loop-order.invariant c.in-Some.ensures.cases.0 (sym c.if-not-is_at.ensures))

pub invariant_of-self : goal.invariant_of-self
invariant_of-self c =
    let run = c.loop-order.invariant in
    let first : unread_levels c.args.self.now ≡ c.loop-order.level ∷ own c.args.self.now.at.leg c.args.self.now.at.side c.loop-order.rest.now =
    elim c.match-split_first.branch [
      | in-Some+then-not-is_at w ↦ run-to-other run w.in-Some.ensures.cases.0 (sym w.if-not-is_at.ensures)
      | in_default w ↦ run-to-end run w.in_default.ensures.cases
    ] in
    record { scan = scan-next run c.args.self.now.scan first }

pub returns : goal.returns
returns c =
    let run = c.loop-order.invariant in
    let first : unread_levels c.args.self.now ≡ c.loop-order.level ∷ own c.args.self.now.at.leg c.args.self.now.at.side c.loop-order.rest.now =
    elim c.match-split_first.branch [
      | in-Some+then-not-is_at w ↦ run-to-other run w.in-Some.ensures.cases.0 (sym w.if-not-is_at.ensures)
      | in_default w ↦ run-to-end run w.in_default.ensures.cases
    ] in
    record { steps = first; goes = record { on = λ _. (tt, tt, omega (arith, ap length first)); keeps = tt; rests = λ _. tt } }
