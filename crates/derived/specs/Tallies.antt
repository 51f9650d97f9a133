-- The derived prices as they grow leg by leg. No public contract cites these; Derived.antt has the rule.
--   GoodLeg         the leg's ratio is one that a strategy may have
--   leg_priced      the leg at a place as the market shows it, where it has both used prices
--   PricedAt        the leg may stand in a strategy, and these are its used prices
--   backing         the sums, customers and units behind one net price, over the legs so far
--   Tallied, tally  how many legs so far, both backings over them, and whether none of them is crossed
--   net_of          bought less sold
--   top_over, bottom_under, collar_for    the collar of a buyer and of a seller, and of either
--   derived_from    the derived prices after the last leg
--   SmallBacking, SmallTally    no sum is large after so many legs
use Rattle.std.specs.Prelude.{◌≡◌, ℕ, ◌*◌, ◌≤◌, Bool, cond, List, length, ℤ, pos, ◌+ℤ◌, ◌-ℤ◌, Some, None, Option}
use Rattle.terms.specs.declared.leg.Leg.{Leg}
use Rattle.terms.specs.declared.side.Side.{Side}
use Rattle.terms.specs.declared.side.Side.TheVariants.{Buy, Sell}
use Rattle.quotes.specs.declared.top.LegTop.{LegTop}
use Rattle.quotes.specs.Shown.{Shown}
use Rattle.derived.specs.declared.prices.Derived.{Derived}
use Rattle.derived.specs.declared.tally.Backing.{Backing}
use Rattle.derived.specs.Used.{used_price}
use Rattle.derived.specs.Derived.{SeenLeg, seen_at, both_used, sum_over, customers_behind, units_behind, none_crossed}

-- ---- one leg

abbrev pub GoodLeg : Leg → Type 0
GoodLeg leg = (1 ≤ leg.ratio) × (leg.ratio ≤ 100)

abbrev pub leg_priced : Shown → ℕ → Leg → Option SeenLeg
leg_priced shown place leg = cond (both_used (seen_at shown place leg)) (Some (seen_at shown place leg)) None

pub record PricedAt (leg : Leg) (top : LegTop) (used_bid used_offer : ℕ) : Type 0 where
  pub low : 1 ≤ leg.ratio
  pub high : leg.ratio ≤ 100
  pub bid : used_price top Buy ≡ Some used_bid
  pub offer : used_price top Sell ≡ Some used_offer

-- ---- the legs so far

abbrev pub backing : Side → List SeenLeg → Backing
backing trader legs =
    record {
      bought = sum_over Buy trader legs;
      sold = sum_over Sell trader legs;
      customers = customers_behind trader legs;
      units = units_behind trader legs;
    }

pub record Tallied : Type 0 where
  pub legs : ℕ
  pub buyer : Backing
  pub seller : Backing
  pub apart : Bool

abbrev pub tally : List SeenLeg → Tallied
tally legs = record { legs = length legs; buyer = backing Buy legs; seller = backing Sell legs; apart = none_crossed legs }

-- ---- after the last leg

abbrev pub net_of : Backing → ℤ
net_of b = pos b.bought -ℤ pos b.sold

abbrev pub top_over : Backing → ℕ → ℤ
top_over b s = cond b.customers (net_of b -ℤ pos s) (net_of b)

abbrev pub bottom_under : Backing → ℕ → ℤ
bottom_under b s = cond b.customers (net_of b +ℤ pos s) (net_of b)

abbrev pub collar_for : Side → Backing → ℕ → ℤ
collar_for Buy b s = top_over b s
collar_for Sell b s = bottom_under b s

abbrev pub derived_from : Tallied → ℕ → Derived
derived_from t s =
    record {
      dbb = net_of t.seller;
      dbo = net_of t.buyer;
      collars = (bottom_under t.seller s, top_over t.buyer s);
      may_meet = t.apart;
      buyer_units = t.buyer.units;
      seller_units = t.seller.units;
    }

-- ---- no sum is large after n legs: a ratio is at most 100, a used price at most 1,000,190

pub record SmallBacking (b : Backing) (n : ℕ) : Type 0 where
  pub bought : b.bought ≤ 100019000 * n
  pub sold : b.sold ≤ 100019000 * n

pub record SmallTally (legs : ℕ) (b s : Backing) : Type 0 where
  pub few : legs ≤ 6
  pub buyer : SmallBacking b legs
  pub seller : SmallBacking s legs
