-- What a strategy is.
--   LegCountFits            two to six legs
--   RatiosInRange           every ratio is 1 to 100
--   DividesAll              a number divides all ratios
--   CommonFactor            a number above 1 divides all ratios
--   SoundLegs               legs of which a strategy can be made
--   legs_refusal            the first row of the refusals that fits these legs
--   strategy_answer         what making a strategy of these legs answers
--   smallest_ratio          the smallest ratio
--   SmallestOf              a number is the ratio of a leg, and no ratio is below it
--   same_kind               whether two kinds are one
--   all_on_side, all_of_kind    every leg is on this side, of this kind (on_one_side, of_one_kind: of either)
--   every_eco_complex_only  whether every order in these legs counts as Complex Only
-- A word in small letters is the same as a test that can be computed (leg_count_fits, ratios_in_range, divides_all,
-- common_factor, ratios_fit, sound_legs); MadeExactlyOf says that they agree.
use Rattle.std.specs.Prelude.{◌≡◌, ℕ, zero, suc, ◌%◌, ◌<◌, ◌≤◌, min, Bool, true, false, cond, not, ◌&&◌, ◌||◌, List, [], ◌∷◌, length, Some, None, Option, Result, ◌==◌, nat_le, slice_index_or}
use Rattle.std.specs.List.{AllByRecursion, list_all}
use Rattle.terms.specs.declared.leg.Leg.{Leg}
use Rattle.terms.specs.declared.leg.OptionKind.{OptionKind}
use Rattle.terms.specs.declared.leg.OptionKind.TheVariants.{Call, Put}
use Rattle.terms.specs.declared.side.Side.{Side}
use Rattle.terms.specs.declared.side.Side.TheVariants.{Buy, Sell}
use Rattle.terms.specs.declared.refusal.Refusal.{Refusal}
use Rattle.terms.specs.declared.refusal.Refusal.TheVariants.{LegCount, Ratios}
use Rattle.terms.specs.Refusals.{answered}
use Rattle.terms.specs.Sides.{same_side}

-- ---- the rule in words

abbrev pub LegCountFits : List Leg → Type 0
LegCountFits legs = (2 ≤ length legs) × (length legs ≤ 6)

abbrev pub RatiosInRange : List Leg → Type 0
RatiosInRange legs = AllByRecursion (λ leg. (1 ≤ leg.ratio) × (leg.ratio ≤ 100)) legs

abbrev pub DividesAll : ℕ → List Leg → Type 0
DividesAll d legs = AllByRecursion (λ leg. leg.ratio % d ≡ 0) legs

abbrev pub CommonFactor : List Leg → Type 0
CommonFactor legs = (d : ℕ) × (2 ≤ d) × DividesAll d legs

pub record SoundLegs (legs : List Leg) : Type 0 where
  pub count : LegCountFits legs
  pub range : RatiosInRange legs
  pub prime : CommonFactor legs → ⊥

-- ---- the rule as tests

abbrev pub leg_count_fits : List Leg → Bool
leg_count_fits legs = nat_le 2 (length legs) && nat_le (length legs) 6

abbrev pub ratios_in_range : List Leg → Bool
ratios_in_range legs = list_all (λ leg. nat_le 1 leg.ratio && nat_le leg.ratio 100) legs

abbrev pub divides_all : ℕ → List Leg → Bool
divides_all d legs = list_all (λ leg. leg.ratio % d == 0) legs

-- one of 2 to n divides all ratios
abbrev pub common_factor : ℕ → List Leg → Bool
common_factor zero legs = false
common_factor (suc n) legs = (nat_le 2 (suc n) && divides_all (suc n) legs) || common_factor n legs

abbrev pub ratios_fit : List Leg → Bool
ratios_fit legs = ratios_in_range legs && not (common_factor 100 legs)

abbrev pub sound_legs : List Leg → Bool
sound_legs legs = leg_count_fits legs && ratios_fit legs

-- a strategy is made of legs that are sound, in words, and of no others
pub record MadeExactlyOf (legs : List Leg) (made : Bool) : Type 0 where
  pub sound : made ≡ true → SoundLegs legs
  pub whole : SoundLegs legs → made ≡ true

-- ---- making a strategy

abbrev pub legs_refusal : List Leg → Option Refusal
legs_refusal legs = cond (leg_count_fits legs) (cond (ratios_fit legs) None (Some Ratios)) (Some LegCount)

abbrev pub strategy_answer : List Leg → Result (List Leg) Refusal
strategy_answer legs = answered (legs_refusal legs) legs

-- ---- reading a strategy

-- no ratio is above 100
abbrev pub smallest_ratio : List Leg → ℕ
smallest_ratio [] = 100
smallest_ratio (leg ∷ legs) = min leg.ratio (smallest_ratio legs)

-- r is the ratio of a leg, and no ratio is below it
pub record SmallestOf (legs : List Leg) (r : ℕ) : Type 0 where
  pub under : AllByRecursion (λ leg. r ≤ leg.ratio) legs
  pub met : (k : ℕ) × (k < length legs) × ((d : Leg) → (slice_index_or legs k d).ratio ≡ r)

abbrev pub same_kind : OptionKind → OptionKind → Bool
same_kind Call Call = true
same_kind Call Put = false
same_kind Put Call = false
same_kind Put Put = true

abbrev pub all_on_side : Side → List Leg → Bool
all_on_side side legs = list_all (λ leg. same_side leg.side side) legs

abbrev pub all_of_kind : OptionKind → List Leg → Bool
all_of_kind kind legs = list_all (λ leg. same_kind leg.kind kind) legs

abbrev pub on_one_side : List Leg → Bool
on_one_side legs = all_on_side Buy legs || all_on_side Sell legs

abbrev pub of_one_kind : List Leg → Bool
of_one_kind legs = all_of_kind Call legs || all_of_kind Put legs

-- six legs; or two, both calls or both puts, on one side; or three or more, all on one side
abbrev pub every_eco_complex_only : List Leg → Bool
every_eco_complex_only legs =
    (length legs == 6)
    || ((length legs == 2 && (of_one_kind legs && on_one_side legs))
    || (nat_le 3 (length legs) && on_one_side legs))
