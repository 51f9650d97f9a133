-- What a trial shows is sound, is all that stands while nothing is taken, and moves with a take as any market's quotes do.
use Rattle.std.proofs.Common.{◌≡◌, ℕ, zero, suc, ◌+◌, ◌<◌, ◌≤◌, Bool, true, false, cond, List, [], ◌∷◌, length, get_or, drop, set, replicate, Result, sym, refl, ap, ◌∙◌, inl, inr, arith, get_or-set_other, get_or-set_same}
use Rattle.std.proofs.lemmas.Bool.{both_ways, cases_eq, cases_lt, eq-eqb, ne_eqb, leb-true, le-leb}
use Rattle.terms.specs.declared.refusal.Refusal.{Refusal}
use Rattle.terms.specs.declared.side.Side.{Side}
use Rattle.terms.specs.declared.side.Side.TheVariants.{Buy, Sell}
use Rattle.terms.specs.Sides.{same_side, of_side, with_on}
use Rattle.quotes.specs.declared.level.Level.{Level}
use Rattle.quotes.specs.declared.taken.Found.{Found}
use Rattle.quotes.specs.Shown.{SideQuotes, LegQuotes, Shown, Sound, sound_side, sound_leg, sound_levels}
use Rattle.quotes.specs.Takes.{may_take, levels_left, taken, take_answer}
use Rattle.quotes.specs.Trials.{Taken, none_taken, taken_at, taken_more, less_taken, tried, FirstLeft}
use Rattle.quotes.proofs.Parts.{side-parts, side-whole, leg-parts, leg-whole, leg-side}
use Rattle.quotes.proofs.LessTaken.{less-sound, less-length, less-apart, less_none, less-more}
use Rattle.quotes.proofs.Replaces.{replaced-same}

-- ---- one side of a sound market

pub side-levels : (depth : ℕ) (shown : Shown) → Sound depth shown → (leg : ℕ) (side : Side) → sound_levels side (shown leg side).own ≡ true
side-levels depth shown h leg side = (side-parts depth side (shown leg side) (leg-side depth (shown leg) side (h.legs leg))).levels

pub side-length : (depth : ℕ) (shown : Shown) → Sound depth shown → (leg : ℕ) (side : Side) → length (shown leg side).own ≤ depth
side-length depth shown h leg side = leb-true (length (shown leg side).own) depth (side-parts depth side (shown leg side) (leg-side depth (shown leg) side (h.legs leg))).short

-- ---- soundness

less-side : (depth : ℕ) (side : Side) (q : SideQuotes) (n : ℕ) → sound_side depth side q ≡ true → sound_side depth side (record { own = less_taken q.own n; away = q.away }) ≡ true
less-side depth side q n h =
    let p = side-parts depth side q h in
    let fewer = less-length q.own n in
    let short = leb-true (length q.own) depth p.short in
    side-whole depth side (record { own = less_taken q.own n; away = q.away })
    (record { short = le-leb (length (less_taken q.own n)) depth (omega arith); levels = less-sound side q.own n p.levels; away = p.away })

-- a leg with contracts taken on either side
abbrev pub less_leg : LegQuotes → ℕ → ℕ → LegQuotes
less_leg q n m Buy = record { own = less_taken (q Buy).own n; away = (q Buy).away }
less_leg q n m Sell = record { own = less_taken (q Sell).own m; away = (q Sell).away }

pub leg-less : (depth : ℕ) (q : LegQuotes) (n m : ℕ) → sound_leg depth q ≡ true → sound_leg depth (less_leg q n m) ≡ true
leg-less depth q n m h =
    let p = leg-parts depth q h in
    leg-whole depth (less_leg q n m)
    (record {
      bids = less-side depth Buy (q Buy) n p.bids;
      offers = less-side depth Sell (q Sell) m p.offers;
      apart = less-apart (q Buy).own (q Sell).own n m (side-parts depth Buy (q Buy) p.bids).levels (side-parts depth Sell (q Sell) p.offers).levels p.apart;
    })

pub tried-sound : (depth : ℕ) (shown : Shown) (totals : List Taken) → Sound depth shown → Sound depth (tried shown totals)
tried-sound depth shown totals h =
    record {
      legs = λ leg. leg-less depth (shown leg) (taken_at totals leg Buy) (taken_at totals leg Sell) (h.legs leg);
      lacking = λ leg side past. rw (h.lacking leg side past);
    }

-- ---- nothing taken

none-at : (legs leg : ℕ) → get_or (replicate legs none_taken) leg none_taken ≡ none_taken
none-at zero leg = refl
none-at (suc legs) zero = refl
none-at (suc legs) (suc leg) = none-at legs leg

pub none-on : (side : Side) → of_side none_taken side ≡ 0
none-on Buy = refl
none-on Sell = refl

pub tried-new : (depth : ℕ) (shown : Shown) → Sound depth shown → (leg : ℕ) (side : Side) → tried shown (replicate 6 none_taken) leg side ≡ shown leg side
tried-new depth shown h leg side =
    let none : taken_at (replicate 6 none_taken) leg side ≡ 0 = ap (λ (t : Taken). of_side t side) (none-at 6 leg) ∙ none-on side in
    let levels = less_none side (shown leg side).own (side-levels depth shown h leg side) in
    ap (λ (n : ℕ). record { own = less_taken (shown leg side).own n; away = (shown leg side).away }) none
    ∙ ap (λ (own : List Level). record { own = own; away = (shown leg side).away }) levels

-- a leg that the market lacks has nothing left to take
none_left : (depth : ℕ) (shown : Shown) → Sound depth shown → (leg : ℕ) (side : Side) (n : ℕ) → 6 ≤ leg → less_taken (shown leg side).own n ≡ []
none_left depth shown h leg side n past = ap (λ (q : SideQuotes). less_taken q.own n) (h.lacking leg side past)

-- ---- a take

take-here : (q : LegQuotes) (t : Taken) (side : Side) (quantity : ℕ) (left : List Level) → less_taken (q side).own (of_side t side + quantity) ≡ left → (s : Side) →
    ◌≡◌ {A = SideQuotes} (record { own = less_taken (q s).own (of_side (with_on t side (of_side t side + quantity)) s); away = (q s).away })
    (cond (same_side s side) (record { own = left; away = (q side).away }) (record { own = less_taken (q s).own (of_side t s); away = (q s).away }))
take-here q t Buy quantity left e Buy = ap (λ (own : List Level). record { own = own; away = (q Buy).away }) e
take-here q t Buy quantity left e Sell = refl
take-here q t Sell quantity left e Buy = refl
take-here q t Sell quantity left e Sell = ap (λ (own : List Level). record { own = own; away = (q Sell).away }) e

tried-added : (shown : Shown) (totals : List Taken) (leg : ℕ) (side : Side) (quantity : ℕ) → leg < length totals → less_taken (shown leg side).own (taken_at totals leg side + quantity) ≡ levels_left (tried shown totals leg side).own quantity → (l : ℕ) (s : Side) → tried shown (set totals leg (with_on (get_or totals leg none_taken) side (taken_at totals leg side + quantity))) l s ≡ taken (tried shown totals) leg side quantity l s
tried-added shown totals leg side quantity lt e l s =
    let t = get_or totals leg none_taken in
    let new = with_on t side (of_side t side + quantity) in
    elim (cases_eq l leg) [
      | inl same ↦ rw (same, get_or-set_same totals leg new none_taken lt, eq-eqb leg leg refl) (take-here (shown leg) t side quantity (levels_left (tried shown totals leg side).own quantity) e s)
      | inr other ↦ rw (get_or-set_other totals leg l new none_taken other, ne_eqb l leg other)
    ]

-- what may be taken stands on one of the six legs
take-fits : (depth : ℕ) (shown : Shown) (leg : ℕ) (side : Side) (n quantity : ℕ) → Sound depth shown → may_take (less_taken (shown leg side).own n) quantity ≡ true → leg < 6
take-fits depth shown leg side n quantity h may =
    elim (cases_lt leg 6) [
      | inl lt ↦ lt
      | inr past ↦ absurd (both_ways (may_take (less_taken (shown leg side).own n) quantity) (ap (λ (left : List Level). may_take left quantity) (none_left depth shown h leg side n past)) may)
    ]

tried-when : (may : Bool) (depth : ℕ) (shown : Shown) (totals : List Taken) (leg : ℕ) (side : Side) (quantity : ℕ) → Sound depth shown → length totals ≡ 6 → may_take (tried shown totals leg side).own quantity ≡ may → (l : ℕ) (s : Side) →
    tried shown (cond may (set totals leg (with_on (get_or totals leg none_taken) side (taken_at totals leg side + quantity))) totals) l s
    ≡ taken (tried shown totals) leg side quantity l s
tried-when true depth shown totals leg side quantity h long may l s =
    let fits = take-fits depth shown leg side (taken_at totals leg side) quantity h may in
    let lt : leg < length totals = omega (arith, fits) in
    let more = less-more side (shown leg side).own (taken_at totals leg side) quantity (side-levels depth shown h leg side) may in
    tried-added shown totals leg side quantity lt (rw may (sym more)) l s
tried-when false depth shown totals leg side quantity h long may l s = rw may (replaced-same (tried shown totals) leg side l s)

-- a take adds to the totals what it takes, and nothing where it is refused
tried-take : (depth : ℕ) (shown : Shown) (totals : List Taken) (leg : ℕ) (side : Side) (quantity : ℕ) → Sound depth shown → length totals ≡ 6 → (l : ℕ) (s : Side) → tried shown (taken_more totals leg side (tried shown totals leg side).own quantity) l s ≡ taken (tried shown totals) leg side quantity l s
tried-take depth shown totals leg side quantity h long l s = tried-when (may_take (tried shown totals leg side).own quantity) depth shown totals leg side quantity h long refl l s

-- ---- a take from the first level left

-- what a take in a trial answers, adds to the totals, and leaves to be seen
pub record Took (shown : Shown) (totals new : List Taken) (leg : ℕ) (side : Side) (quantity : ℕ) (said : Result (Unit {0}) Refusal) : Type 0 where
  pub answer : said ≡ take_answer (tried shown totals leg side).own quantity
  pub more : new ≡ taken_more totals leg side (tried shown totals leg side).own quantity
  pub quotes : (l : ℕ) (s : Side) → tried shown new l s ≡ taken (tried shown totals) leg side quantity l s

pub take_left : (depth : ℕ) (shown : Shown) → Sound depth shown → (totals new : List Taken) → length totals ≡ 6 → (leg : ℕ) (side : Side) (quantity : ℕ) (said : Result (Unit {0}) Refusal) (total : ℕ) (found : Found) → total ≡ taken_at totals leg side → FirstLeft (shown leg side).own total found → said ≡ take_answer (found.level ∷ []) quantity → new ≡ taken_more totals leg side (found.level ∷ []) quantity → Took shown totals new leg side quantity said
take_left depth shown h totals new long leg side quantity said total found at left answer more =
    let first : (tried shown totals leg side).own ≡ found.level ∷ drop (found.place + 1) (shown leg side).own = ap (λ (n : ℕ). less_taken (shown leg side).own n) (sym at) ∙ left.first in
    let added : new ≡ taken_more totals leg side (tried shown totals leg side).own quantity = more ∙ ap (λ (levels : List Level). taken_more totals leg side levels quantity) (sym first) in
    record {
      answer = answer ∙ ap (λ (levels : List Level). take_answer levels quantity) (sym first);
      more = added;
      quotes = λ l s. ap (λ (table : List Taken). tried shown table l s) added ∙ tried-take depth shown totals leg side quantity h long l s;
    }

-- a list without levels has no first
none_first : (levels : List Level) (level : Level) → levels ≡ [] → (rest : List Level) → levels ≡ level ∷ rest → ⊥
none_first [] level e rest f = grind arith
none_first (first ∷ levels) level e rest f = grind arith

-- a level of which something is left stands on one of the six legs
pub left-fits : (depth : ℕ) (shown : Shown) → Sound depth shown → (leg : ℕ) (side : Side) (n : ℕ) (found : Found) → FirstLeft (shown leg side).own n found → leg < 6
left-fits depth shown h leg side n found left =
    elim (cases_lt leg 6) [
      | inl lt ↦ lt
      | inr past ↦ absurd (none_first (less_taken (shown leg side).own n) found.level (none_left depth shown h leg side n past) (drop (found.place + 1) (shown leg side).own) left.first)
    ]
