-- Kinds of options.
--   kind_text   how a kind is written
use Rattle.std.specs.Prelude.{ℕ, List, codes}
use Rattle.terms.specs.declared.leg.OptionKind.{OptionKind}
use Rattle.terms.specs.declared.leg.OptionKind.TheVariants.{Call, Put}

abbrev pub kind_text : OptionKind → List ℕ
kind_text Call = codes "call"
kind_text Put = codes "put"
