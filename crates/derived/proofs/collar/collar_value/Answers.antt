use Rattle.derived.specs.Collars.{collar}
use Rattle.derived.proofs.Bands.{rule-of}
use Rattle.derived.proofs.collar.collar_value.Goals as goal

pub returns : goal.returns
unfolding collar
returns c =
    let value = c.amount_in_table.ensures in
    record { value = value; rule = rule-of c.args.price c.amount_in_table.result value }
