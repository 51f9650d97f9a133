use Rattle.std.proofs.Common.{◌≡◌, ◌+◌, not, ◌&&◌, [], ◌∷◌, ◌++◌, length, ap, ◌∙◌, arith}
use Rattle.std.proofs.lemmas.List.{length-append}
use Rattle.terms.specs.declared.side.Side.TheVariants.{Buy, Sell}
use Rattle.derived.specs.Used.{crossed}
use Rattle.derived.specs.Derived.{none_crossed}
use Rattle.derived.specs.Tallies.{Tallied, backing}
use Rattle.derived.proofs.Folds.{crossed-more}
use Rattle.derived.proofs.tally.Tally.with.Goals as goal
use Rattle.derived.proofs.tally.Tally.with.Goals.{then-self, else-self}

pub invariant_of-result : goal.invariant_of-result
invariant_of-result c =
    let small = c.self.invariant in
    let legs = c.self.inside.legs in
    let same = ap (λ (t : Tallied). t.legs) c.self.view_is in
    record { few = omega (arith, same); buyer = c.with.ensures.small legs small.buyer; seller = c.with-2.ensures.small legs small.seller }

pub returns : goal.returns
returns c legs e =
    let v = c.args.leg.now in
    let t = c.self.inside in
    let same = c.self.view_is ∙ e in
    let count : t.legs + 1 ≡ length (legs ++ v ∷ []) = omega (arith, ap (λ (x : Tallied). x.legs) same, length-append legs (v ∷ [])) in
    let buyer : c.with.result ≡ backing Buy (legs ++ v ∷ []) = c.with.ensures.sums legs (ap (λ (x : Tallied). x.buyer) same) in
    let seller : c.with-2.result ≡ backing Sell (legs ++ v ∷ []) = c.with-2.ensures.sums legs (ap (λ (x : Tallied). x.seller) same) in
    let both : c.if-self.result ≡ (t.apart && not (crossed v.top)) =
    elim c.if-self.branch [ then-self w ↦ grind arith | else-self w ↦ grind arith ] in
    let apart : c.if-self.result ≡ none_crossed (legs ++ v ∷ []) =
    let before : t.apart ≡ none_crossed legs = ap (λ (x : Tallied). x.apart) same in
    let after = crossed-more legs v in
    cc in
    rw (count, buyer, seller, apart)
