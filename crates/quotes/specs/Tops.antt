-- The top of a leg: its best own level and its away price on each side.
--   no_top               a leg without quotes
--   own_of, away_of      those of one side
--   with_own, with_away  the top with another own level or away price on one side
--   top_of               the top of a leg's quotes
--   list_of              a list of at most one level
--   quotes_of            the quotes of a leg that has at most one level on each side
use Rattle.std.specs.Prelude.{ℕ, List, [], ◌∷◌, Some, None, Option}
use Rattle.terms.specs.declared.side.Side.{Side}
use Rattle.terms.specs.declared.side.Side.TheVariants.{Buy, Sell}
use Rattle.terms.specs.Sides.{of_side, with_on}
use Rattle.quotes.specs.declared.level.Level.{Level}
use Rattle.quotes.specs.declared.top.LegTop.{LegTop}
use Rattle.quotes.specs.Shown.{LegQuotes}
use Rattle.quotes.specs.Takes.{best}

abbrev pub no_top : LegTop
no_top = record { own = record { bid = None; offer = None }; away = record { bid = None; offer = None } }

abbrev pub own_of : LegTop → Side → Option Level
own_of top side = of_side top.own side

abbrev pub away_of : LegTop → Side → Option ℕ
away_of top side = of_side top.away side

abbrev pub with_own : LegTop → Side → Option Level → LegTop
with_own top side level = record { own = with_on top.own side level; away = top.away }

abbrev pub with_away : LegTop → Side → Option ℕ → LegTop
with_away top side price = record { own = top.own; away = with_on top.away side price }

abbrev pub top_of : LegQuotes → LegTop
top_of q =
    record {
      own = record { bid = best (q Buy).own; offer = best (q Sell).own };
      away = record { bid = (q Buy).away; offer = (q Sell).away };
    }

abbrev pub list_of : Option Level → List Level
list_of None = []
list_of (Some level) = level ∷ []

abbrev pub quotes_of : LegTop → LegQuotes
quotes_of top side = record { own = list_of (own_of top side); away = away_of top side }
