-- The changed legs are six and sound, and show what the call defines.
use Rattle.quotes.proofs.Sheets.{keeps-as, put-own-keeps}
use Rattle.market.proofs.sheet.QuoteSheet.set_own.Goals as goal

pub invariant_of-self : goal.invariant_of-self
invariant_of-self c =
    let m = c.args.self.now in
    let a = c.args in
    let kept = keeps-as _ _ _ _ c.put_own.ensures.after (put-own-keeps m.legs a.at.leg a.at.side a.level m.long m.sound) in
    record { long = kept.long; sound = kept.sound }

pub returns : goal.returns
returns c =
    let m = c.args.self.now in
    let a = c.args in
    let kept = keeps-as _ _ _ _ c.put_own.ensures.after (put-own-keeps m.legs a.at.leg a.at.side a.level m.long m.sound) in
    record { answer = c.put_own.ensures.answer; quotes = kept.shows }
