use Rattle.std.proofs.Common.{◌≡◌, ◌∙◌, ap, rules}
use Rattle.derived.proofs.Bands.{amount_of, first_band}
use Rattle.derived.proofs.collar.amount_in.Goals as goal

pub returns : goal.returns
returns c =
    let amount : c.map_or.result ≡ amount_of c.band_for.result = search rules in
    amount ∙ ap amount_of c.band_for.ensures ∙ first_band c.args.bands.now c.args.price
