-- What a trial market shows, and what a take on it adds.
--   Taken         the contracts taken on each side of a leg
--   none_taken    nothing taken on either side of a leg
--   taken_at      the contracts taken on one side of a leg by its number
--   less_taken    the levels with that many contracts fewer, from the best on: a level with nothing left leaves
--   tried         what a trial over these quotes shows, with that much taken on each leg
--   taken_more    the totals of each leg after a take from these levels: a refused one adds nothing
--   FirstLeft     the best level of which something is left: its place among all levels, and what is left of it
--   Finds         such a level, or none where nothing is left
use Rattle.std.specs.Prelude.{◌≡◌, ℕ, ◌+◌, ◌-◌, ◌<◌, ◌≤◌, cond, List, [], ◌∷◌, drop, Some, None, Option, nat_lt, slice_index_or, slice_set}
use Rattle.terms.specs.declared.side.Side.{Side}
use Rattle.terms.specs.declared.side.BySide.{BySide}
use Rattle.terms.specs.Sides.{of_side, with_on}
use Rattle.quotes.specs.declared.level.Level.{Level}
use Rattle.quotes.specs.declared.taken.Found.{Found}
use Rattle.quotes.specs.Shown.{Shown, contracts}
use Rattle.quotes.specs.Takes.{lessened, may_take}

-- ---- what was taken

abbrev pub Taken : Type 0
Taken = BySide ℕ

abbrev pub none_taken : Taken
none_taken = record { bid = 0; offer = 0 }

abbrev pub taken_at : List Taken → ℕ → Side → ℕ
taken_at totals leg side = of_side (slice_index_or totals leg none_taken) side

abbrev pub taken_more : List Taken → ℕ → Side → List Level → ℕ → List Taken
taken_more totals leg side levels quantity =
    cond (may_take levels quantity)
    (slice_set totals leg (with_on (slice_index_or totals leg none_taken) side (taken_at totals leg side + quantity)))
    totals

-- ---- what is left

abbrev pub less_taken : List Level → ℕ → List Level
less_taken [] total = []
less_taken (level ∷ levels) total = cond (nat_lt total (contracts level)) (lessened level total ∷ levels) (less_taken levels (total - contracts level))

abbrev pub tried : Shown → List Taken → Shown
tried shown totals leg side = record { own = less_taken (shown leg side).own (taken_at totals leg side); away = (shown leg side).away }

-- sixteen levels of 10,000,000 contracts are the most that a side can show
pub record FirstLeft (own : List Level) (total : ℕ) (found : Found) : Type 0 where
  pub near : found.place < 16
  pub first : less_taken own total ≡ found.level ∷ drop (found.place + 1) own
  pub small : total + contracts found.level ≤ 160000000

abbrev pub Finds : List Level → ℕ → Option Found → Type 0
Finds own total None = less_taken own total ≡ []
Finds own total (Some found) = FirstLeft own total found
