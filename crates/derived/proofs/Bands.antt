-- The first band that reaches a price, and the rule of the whole table.
use Rattle.std.proofs.Common.{◌≡◌, ℕ, ◌≤◌, Bool, true, false, cond, List, [], ◌∷◌, Some, Option, refl, arith}
use Rattle.std.specs.Option.{unwrap_or, option_map}
use Rattle.std.specs.Prelude.{find, nat_le}
use Rattle.std.proofs.lemmas.Bool.Decides.{nat_tests}
use Rattle.derived.specs.declared.collar.Band.{Band}
use Rattle.derived.specs.Collars.{collar_in, collar, CollarRule}

abbrev pub amount_of : Option Band → ℕ
amount_of band = unwrap_or (option_map (λ (b : Band). b.amount) band) 190

first-or : (here : Bool) (band : Band) (later : Option Band) (n : ℕ) → amount_of later ≡ n → amount_of (cond here (Some band) later) ≡ cond here band.amount n
first-or true band later n e = refl
first-or false band later n e = e

pub first_band : (bands : List Band) (price : ℕ) → amount_of (find (λ (band : Band). nat_le price band.limit) bands) ≡ collar_in bands price
first_band [] price = refl
first_band (band ∷ bands) price = first-or (nat_le price band.limit) band _ _ (first_band bands price)

table-rule : (price : ℕ) → CollarRule price (collar price)
unfolding collar
table-rule price =
    record {
      to200 = λ h. grind (arith, nat_tests);
      to500 = λ l h. grind (arith, nat_tests);
      to1000 = λ l h. grind (arith, nat_tests);
      to2000 = λ l h. grind (arith, nat_tests);
      to5000 = λ l h. grind (arith, nat_tests);
      to10000 = λ l h. grind (arith, nat_tests);
      above = λ l. grind (arith, nat_tests);
    }

pub rule-of : (price amount : ℕ) → amount ≡ collar price → CollarRule price amount
rule-of price amount e = rw e (table-rule price)

pub collar-most : (price : ℕ) → collar price ≤ 190
unfolding collar
collar-most price = grind (arith, nat_tests)
