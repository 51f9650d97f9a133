-- The records that x does not precede come first.
use Rattle.std.proofs.Common.{not, rules}
use Rattle.std.proofs.lemmas.List.Sorted.{IsPartitionPoint-from_clause}
use Rattle.ranked.specs.Items.{items}
use Rattle.ranked.proofs.Places.{place-from-point}
use Rattle.ranked.proofs.Orders.{parted-in-order}
use Rattle.ranked.proofs.list.Ranked.place_of.Goals as goal

pub returns-clause-place : goal.returns-clause-place
returns-clause-place g c =
    let before = g.T.Rank.before in
    let x = c.args.x.now in
    let list = c.args.self.now in
    let parted = parted-in-order before g.met.T.Rank.chain x (items list) list.ranked in
    place-from-point before x (items list) c.partition_point.result (search rules)
    (rw (← c.as_slice.ensures) (IsPartitionPoint-from_clause (λ y. not (before x y)) _ _ c.partition_point.ensures.partitioned (rw c.as_slice.ensures parted) (λ a r q k. search rules)))
