-- What a ranked list holds.
--   items    its records, in their places
--   room     how many the lent memory holds
use Rattle.std.specs.Prelude.{ℕ, List, length, take}
use Rattle.ranked.specs.declared.rank.Rank.{Ghosts}
use Rattle.ranked.specs.declared.list.Ranked.{Ranked}

module _ {T : Type 0} {rank : Ghosts T} where
  abbrev pub items : Ranked T rank → List T
  items list = take list.len list.slots.now

  abbrev pub room : Ranked T rank → ℕ
  room list = length list.slots.now
