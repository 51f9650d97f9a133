-- The refusal is that of the check; after it the places begin with the legs.
use Rattle.std.proofs.Common.{Ok, ap, sym, ◌∙◌}
use Rattle.std.proofs.lemmas.Result.{err_from_is_err_and}
use Rattle.terms.specs.Strategies.{sound_legs}
use Rattle.terms.proofs.SoundLegs.{refused-from-check, made-from-check, sound-from-check, sound-count, made-exactly, places-begin-with}
use Rattle.terms.proofs.strategy.Strategy.make.Goals as goal

pub returns-in_err-check : goal.returns-in_err-check
returns-in_err-check c =
    let p = err_from_is_err_and c.from_residual.result c.from_residual.ensures.1 in
    let answer = refused-from-check c.args.legs.now c.in_err-check.field-0.0 (sym c.in_err-check.was ∙ c.check.ensures) in
    rw (p.1, p.2) (record { answer = answer; words = made-exactly c.args.legs.now _ answer })

pub invariant_of-result : goal.invariant_of-result
invariant_of-result c =
    let legs = c.args.legs.now in
    let sound = sound-from-check legs (sym c.in_ok-check.was ∙ c.check.ensures) in
    let same = places-begin-with legs c.copy_from_slice.new.self _ c.copy_from_slice.ensures.after in
    record { few = (sound-count legs sound).1; sound = ap sound_legs same ∙ sound }

pub returns : goal.returns
returns c =
    let legs = c.args.legs.now in
    let same = places-begin-with legs c.copy_from_slice.new.self _ c.copy_from_slice.ensures.after in
    let answer = ap Ok same ∙ made-from-check legs (sym c.in_ok-check.was ∙ c.check.ensures) in
    record { answer = answer; words = made-exactly legs (Ok _) answer }
