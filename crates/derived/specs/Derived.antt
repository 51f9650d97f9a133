-- The derived prices of a strategy.
--   SeenLeg           a leg and what the market shows at its top
--   seen              the legs of a strategy as the market shows them, leg 0 first (seen_at, seen_from: at a place, and from one on)
--   facing            the side of a leg's quotes with which a trader of units trades: a buyer of units buys the
--                     bought legs from offers and sells the sold legs to bids; a seller does the opposite
--   price_for         the used price of a leg, for that trader
--   net_price         ratio times used price summed over bought legs, less that sum over sold legs (on_side, sum_over: an amount
--                     that counts for one side, and the sum over it)
--   level_for         the own level behind the used price of a leg, for that trader
--   customers_behind  every used price in the net price is own, with customer contracts in its level (has_customers, of a level)
--   units_behind      the least, over legs, of the contracts of the level divided by the ratio; 0 where a price is not own
--                     (units_in, units_of_leg: of a level, and of a leg; least_from, the least over legs)
--   bottom_collar, top_collar    the collars, a smallest ratio within DBB and DBO where customers stand behind every price
--   priced            every leg has both used prices (both_used, of one leg; when_priced, an answer given only then)
--   none_crossed      no leg is crossed
--   derived_of        all derived prices, where every leg is priced: DBB is the net price for a seller, DBO for a buyer
--   dbb_of, dbo_of, collars_of, orders_may_meet, leg_units    one of them each; without derived prices no ECOs meet, and the legs have no units
--   Least             a number is the value of one of the legs, and no leg has less
--   LeastUnits        that the leg units are the least over the legs, in words
use Rattle.std.specs.Prelude.{◌≡◌, ℕ, ◌+◌, ◌*◌, ◌/◌, ◌<◌, ◌≤◌, min, Bool, true, false, cond, not, ◌&&◌, List, [], ◌∷◌, length, ℤ, pos, ◌+ℤ◌, ◌-ℤ◌, is_some, Some, None, fold, sum_by, Option, nat_le, slice_index_or}
use Rattle.std.specs.Option.{unwrap_or}
use Rattle.std.specs.List.{AllByRecursion}
use Rattle.terms.specs.declared.leg.Leg.{Leg}
use Rattle.terms.specs.declared.side.Side.{Side}
use Rattle.terms.specs.declared.side.Side.TheVariants.{Buy, Sell}
use Rattle.terms.specs.Sides.{opposite, same_side}
use Rattle.terms.specs.Strategies.{smallest_ratio}
use Rattle.quotes.specs.declared.level.Level.{Level}
use Rattle.quotes.specs.declared.top.LegTop.{LegTop}
use Rattle.quotes.specs.Shown.{Shown, contracts}
use Rattle.quotes.specs.Tops.{top_of}
use Rattle.derived.specs.declared.prices.Derived.{Derived}
use Rattle.derived.specs.Used.{used_price, level_behind, crossed}

pub record SeenLeg : Type 0 where
  pub leg : Leg
  pub top : LegTop

abbrev pub seen_at : Shown → ℕ → Leg → SeenLeg
seen_at shown place leg = record { leg = leg; top = top_of (shown place) }

abbrev pub seen_from : Shown → ℕ → List Leg → List SeenLeg
seen_from shown place [] = []
seen_from shown place (leg ∷ legs) = seen_at shown place leg ∷ seen_from shown (place + 1) legs

abbrev pub seen : Shown → List Leg → List SeenLeg
seen shown legs = seen_from shown 0 legs

abbrev pub facing : Side → Side → Side
facing Buy side = opposite side
facing Sell side = side

-- ---- every leg, and the least over legs

abbrev pub every : (SeenLeg → Bool) → List SeenLeg → Bool
every test legs = fold (λ b v. b && test v) true legs

abbrev pub least_from : ℕ → (SeenLeg → ℕ) → List SeenLeg → ℕ
least_from most f legs = fold (λ n v. min n (f v)) most legs

-- ---- net prices

-- 0 where the leg has no used price; then no net price is asked for
abbrev pub price_for : Side → SeenLeg → ℕ
price_for trader v = unwrap_or (used_price v.top (facing trader v.leg.side)) 0

abbrev pub on_side : Side → SeenLeg → ℕ → ℕ
on_side side v amount = cond (same_side v.leg.side side) amount 0

unfoldable pub sum_over : Side → Side → List SeenLeg → ℕ
sum_over side trader legs = sum_by (λ v. on_side side v (v.leg.ratio * price_for trader v)) legs

abbrev pub net_price : Side → List SeenLeg → ℤ
net_price trader legs = pos (sum_over Buy trader legs) -ℤ pos (sum_over Sell trader legs)

-- ---- what stands behind a net price

abbrev pub level_for : Side → SeenLeg → Option Level
level_for trader v = level_behind v.top (facing trader v.leg.side)

abbrev pub has_customers : Option Level → Bool
has_customers None = false
has_customers (Some level) = nat_le 1 level.customer

unfoldable pub customers_behind : Side → List SeenLeg → Bool
customers_behind trader legs = every (λ v. has_customers (level_for trader v)) legs

abbrev pub units_in : Option Level → ℕ → ℕ
units_in None ratio = 0
units_in (Some level) ratio = contracts level / ratio

abbrev pub units_of_leg : Side → SeenLeg → ℕ
units_of_leg trader v = units_in (level_for trader v) v.leg.ratio

-- no level holds more than 10,000,000 contracts
unfoldable pub units_behind : Side → List SeenLeg → ℕ
units_behind trader legs = least_from 10000000 (units_of_leg trader) legs

-- ---- collars, from the smallest ratio s

abbrev pub bottom_collar : ℕ → List SeenLeg → ℤ
bottom_collar s legs = cond (customers_behind Sell legs) (net_price Sell legs +ℤ pos s) (net_price Sell legs)

abbrev pub top_collar : ℕ → List SeenLeg → ℤ
top_collar s legs = cond (customers_behind Buy legs) (net_price Buy legs -ℤ pos s) (net_price Buy legs)

-- ---- whether there are derived prices, and whether ECOs may meet

abbrev pub both_used : SeenLeg → Bool
both_used v = is_some (used_price v.top Buy) && is_some (used_price v.top Sell)

unfoldable pub priced : List SeenLeg → Bool
priced legs = every both_used legs

unfoldable pub none_crossed : List SeenLeg → Bool
none_crossed legs = every (λ v. not (crossed v.top)) legs

-- ---- the answers

abbrev pub when_priced : {X : Type 0} → List SeenLeg → X → Option X
when_priced legs x = cond (priced legs) (Some x) None

abbrev pub derived_of : Shown → List Leg → Option Derived
derived_of shown legs =
    when_priced (seen shown legs)
    (record {
      dbb = net_price Sell (seen shown legs);
      dbo = net_price Buy (seen shown legs);
      collars = (bottom_collar (smallest_ratio legs) (seen shown legs), top_collar (smallest_ratio legs) (seen shown legs));
      may_meet = none_crossed (seen shown legs);
      buyer_units = units_behind Buy (seen shown legs);
      seller_units = units_behind Sell (seen shown legs);
    })

abbrev pub dbb_of : Option Derived → Option ℤ
dbb_of None = None
dbb_of (Some derived) = Some derived.dbb

abbrev pub dbo_of : Option Derived → Option ℤ
dbo_of None = None
dbo_of (Some derived) = Some derived.dbo

abbrev pub collars_of : Option Derived → Option (ℤ × ℤ)
collars_of None = None
collars_of (Some derived) = Some derived.collars

abbrev pub orders_may_meet : Option Derived → Bool
orders_may_meet None = false
orders_may_meet (Some derived) = derived.may_meet

abbrev pub leg_units : Side → Option Derived → ℕ
leg_units trader None = 0
leg_units Buy (Some derived) = derived.buyer_units
leg_units Sell (Some derived) = derived.seller_units

-- ---- the least, in words

-- n is the value of one of the legs, and no leg has less
pub record Least (f : SeenLeg → ℕ) (legs : List SeenLeg) (n : ℕ) : Type 0 where
  pub under : AllByRecursion (λ v. n ≤ f v) legs
  pub met : (k : ℕ) × (k < length legs) × ((d : SeenLeg) → f (slice_index_or legs k d) ≡ n)

abbrev pub LeastUnits : Shown → List Leg → Option Derived → Type 0
LeastUnits shown legs None = Unit {0}
LeastUnits shown legs (Some derived) =
    Least (units_of_leg Buy) (seen shown legs) derived.buyer_units
    × Least (units_of_leg Sell) (seen shown legs) derived.seller_units
