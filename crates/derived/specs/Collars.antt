-- Deviations and collar values.
--   deviation     the larger of 5 and a twentieth of the away price, its fraction dropped
--   bands         the table of collar values (up_to, a row of it)
--   collar        the collar value of a price: the amount of the first band that it does not pass (collar_in, of any bands)
--   CollarRule    the same, band by band
use Rattle.std.specs.Prelude.{◌≡◌, ℕ, ◌/◌, ◌<◌, ◌≤◌, max, cond, List, [], ◌∷◌, nat_le}
use Rattle.derived.specs.declared.collar.Band.{Band}

abbrev pub deviation : ℕ → ℕ
deviation away = max 5 (away / 20)

abbrev pub up_to : ℕ → ℕ → Band
up_to limit amount = record { limit = limit; amount = amount }

abbrev pub bands : List Band
bands = up_to 200 20 ∷ up_to 500 30 ∷ up_to 1000 40 ∷ up_to 2000 70 ∷ up_to 5000 90 ∷ up_to 10000 140 ∷ up_to 4294967295 190 ∷ []

abbrev pub collar_in : List Band → ℕ → ℕ
collar_in [] price = 190
collar_in (band ∷ rest) price = cond (nat_le price band.limit) band.amount (collar_in rest price)

unfoldable pub collar : ℕ → ℕ
collar price = collar_in bands price

pub record CollarRule (price amount : ℕ) : Type 0 where
  pub to200 : price ≤ 200 → amount ≡ 20
  pub to500 : 200 < price → price ≤ 500 → amount ≡ 30
  pub to1000 : 500 < price → price ≤ 1000 → amount ≡ 40
  pub to2000 : 1000 < price → price ≤ 2000 → amount ≡ 70
  pub to5000 : 2000 < price → price ≤ 5000 → amount ≡ 90
  pub to10000 : 5000 < price → price ≤ 10000 → amount ≡ 140
  pub above : 10000 < price → amount ≡ 190
