-- Levels with contracts taken from the best on: they stay sound and apart, and one take after another adds up.
use Rattle.std.proofs.Common.{◌≡◌, ℕ, ◌+◌, ◌-◌, ◌<◌, ◌≤◌, true, ◌&&◌, List, [], ◌∷◌, length, sym, refl, ap, ◌∙◌, inl, inr, arith}
use Rattle.std.proofs.lemmas.Bool.{and_parts, and_from, cases_lt, lt-ltb, le-ltb}
use Rattle.std.proofs.lemmas.Bool.Decides.{nat_tests}
use Rattle.terms.specs.declared.side.Side.{Side}
use Rattle.terms.specs.declared.side.Side.TheVariants.{Buy, Sell}
use Rattle.quotes.specs.declared.level.Level.{Level}
use Rattle.quotes.specs.Shown.{contracts, held, sound_level, better, sound_after, sound_levels, uncrossed}
use Rattle.quotes.specs.Takes.{lessened, less_best, may_take}
use Rattle.quotes.specs.Trials.{less_taken}
use Rattle.quotes.proofs.Parts.{level-bounds, first-sound}

-- ---- the levels behind the first

rest-after : (side : Side) (level : Level) (levels : List Level) → sound_levels side (level ∷ levels) ≡ true → sound_after side level.price levels ≡ true
rest-after side level levels h = (and_parts (sound_level level) (sound_after side level.price levels) h).1

pub after-sound : (side : Side) (price : ℕ) (levels : List Level) → sound_after side price levels ≡ true → sound_levels side levels ≡ true
after-sound side price [] h = refl
after-sound side price (level ∷ levels) h = (and_parts (better side price level.price) (sound_level level && sound_after side level.price levels) h).1

pub rest-sound : (side : Side) (level : Level) (levels : List Level) → sound_levels side (level ∷ levels) ≡ true → sound_levels side levels ≡ true
rest-sound side level levels h = after-sound side level.price levels (rest-after side level levels h)

-- ---- soundness

lessened-sound : (level : Level) (n : ℕ) → sound_level level ≡ true → n < contracts level → sound_level (lessened level n) ≡ true
lessened-sound level n h some = grind (arith, nat_tests)

pub less-sound : (side : Side) (levels : List Level) (n : ℕ) → sound_levels side levels ≡ true → sound_levels side (less_taken levels n) ≡ true
less-sound side [] n h = refl
less-sound side (level ∷ levels) n h =
    elim (cases_lt n (contracts level)) [
      | inl some ↦ rw (lt-ltb n (contracts level) some) (and_from (sound_level (lessened level n)) (sound_after side level.price levels) (lessened-sound level n (first-sound side level levels h) some) (rest-after side level levels h))
      | inr all ↦ rw (le-ltb n (contracts level) all) (less-sound side levels (n - contracts level) (rest-sound side level levels h))
    ]

pub less-length : (levels : List Level) (n : ℕ) → length (less_taken levels n) ≤ length levels
less-length [] n = omega arith
less-length (level ∷ levels) n =
    elim (cases_lt n (contracts level)) [
      | inl some ↦ rw (lt-ltb n (contracts level) some) (omega arith)
      | inr all ↦ rw (le-ltb n (contracts level) all) (let k = less-length levels (n - contracts level) in omega arith)
    ]

-- what is left is what stood less what was taken, and nothing where more was taken
pub less-held : (levels : List Level) (n : ℕ) → held (less_taken levels n) ≡ held levels - n
less-held [] n = omega arith
less-held (level ∷ levels) n =
    elim (cases_lt n (contracts level)) [
      | inl some ↦ rw (lt-ltb n (contracts level) some) (omega arith)
      | inr all ↦ rw (le-ltb n (contracts level) all) (let k = less-held levels (n - contracts level) in omega arith)
    ]

-- ---- uncrossed

pub no-offers : (bids : List Level) → uncrossed bids [] ≡ true
no-offers [] = refl
no-offers (bid ∷ bids) = refl

next-bid : (bid offer : Level) (bids offers : List Level) → sound_after Buy bid.price bids ≡ true → uncrossed (bid ∷ bids) (offer ∷ offers) ≡ true → uncrossed bids (offer ∷ offers) ≡ true
next-bid bid offer [] offers h apart = refl
next-bid bid offer (next ∷ bids) offers h apart =
    let worse = (and_parts (better Buy bid.price next.price) (sound_level next && sound_after Buy next.price bids) h).0 in grind (arith, nat_tests)

next-offer : (bid offer : Level) (bids offers : List Level) → sound_after Sell offer.price offers ≡ true → uncrossed (bid ∷ bids) (offer ∷ offers) ≡ true → uncrossed (bid ∷ bids) offers ≡ true
next-offer bid offer bids [] h apart = refl
next-offer bid offer bids (next ∷ offers) h apart =
    let worse = (and_parts (better Sell offer.price next.price) (sound_level next && sound_after Sell next.price offers) h).0 in grind (arith, nat_tests)

less-bids : (bids offers : List Level) (n : ℕ) → sound_levels Buy bids ≡ true → uncrossed bids offers ≡ true → uncrossed (less_taken bids n) offers ≡ true
less-bids [] offers n h apart = refl
less-bids (bid ∷ bids) [] n h apart = no-offers (less_taken (bid ∷ bids) n)
less-bids (bid ∷ bids) (offer ∷ offers) n h apart =
    elim (cases_lt n (contracts bid)) [
      | inl some ↦ rw (lt-ltb n (contracts bid) some) apart
      | inr all ↦ rw (le-ltb n (contracts bid) all) (less-bids bids (offer ∷ offers) (n - contracts bid) (rest-sound Buy bid bids h) (next-bid bid offer bids offers (rest-after Buy bid bids h) apart))
    ]

less-offers : (bids offers : List Level) (n : ℕ) → sound_levels Sell offers ≡ true → uncrossed bids offers ≡ true → uncrossed bids (less_taken offers n) ≡ true
less-offers [] offers n h apart = refl
less-offers (bid ∷ bids) [] n h apart = refl
less-offers (bid ∷ bids) (offer ∷ offers) n h apart =
    elim (cases_lt n (contracts offer)) [
      | inl some ↦ rw (lt-ltb n (contracts offer) some) apart
      | inr all ↦ rw (le-ltb n (contracts offer) all) (less-offers (bid ∷ bids) offers (n - contracts offer) (rest-sound Sell offer offers h) (next-offer bid offer bids offers (rest-after Sell offer offers h) apart))
    ]

pub less-apart : (bids offers : List Level) (n m : ℕ) → sound_levels Buy bids ≡ true → sound_levels Sell offers ≡ true → uncrossed bids offers ≡ true → uncrossed (less_taken bids n) (less_taken offers m) ≡ true
less-apart bids offers n m b o apart = less-offers (less_taken bids n) offers m o (less-bids bids offers n b apart)

-- ---- adding up

abbrev level_at : ℕ → ℕ → ℕ → Level
level_at price customer other = record { price = price; customer = customer; other = other }

pub lessened-none : (level : Level) → lessened level 0 ≡ level
lessened-none level =
    let customer : level.customer - 0 ≡ level.customer = omega arith in
    let other : level.other - (0 - level.customer) ≡ level.other = omega arith in
    ap (λ (n : ℕ). level_at level.price n (level.other - (0 - level.customer))) customer ∙ ap (λ (n : ℕ). level_at level.price level.customer n) other

-- with nothing taken every level stands
pub less_none : (side : Side) (levels : List Level) → sound_levels side levels ≡ true → less_taken levels 0 ≡ levels
less_none side [] h = refl
less_none side (level ∷ levels) h =
    let some : 0 < contracts level = omega (arith, (level-bounds level (first-sound side level levels h)).some) in
    rw (lt-ltb 0 (contracts level) some) (ap (λ (first : Level). first ∷ levels) (lessened-none level))

lessened-twice : (level : Level) (n q : ℕ) → n < contracts level → lessened (lessened level n) q ≡ lessened level (n + q)
lessened-twice level n q h =
    let customer : (level.customer - n) - q ≡ level.customer - (n + q) = omega arith in
    let other : (level.other - (n - level.customer)) - (q - (level.customer - n)) ≡ level.other - ((n + q) - level.customer) = omega arith in
    cc

-- a take from the best level, of which something was taken before
take-first : (side : Side) (level : Level) (levels : List Level) (n q : ℕ) → sound_levels side levels ≡ true → n < contracts level → may_take (lessened level n ∷ levels) q ≡ true → less_best (lessened level n ∷ levels) q ≡ less_taken (level ∷ levels) (n + q)
take-first side level levels n q h lt may =
    let most : q ≤ contracts (lessened level n) = grind (arith, nat_tests) in
    elim (cases_lt q (contracts (lessened level n))) [
      | inl some ↦
          let more : n + q < contracts level = omega arith in
          rw (lt-ltb q (contracts (lessened level n)) some, lt-ltb (n + q) (contracts level) more) (ap (λ (first : Level). first ∷ levels) (lessened-twice level n q lt))
      | inr all ↦
          let gone : contracts level ≤ n + q = omega arith in
          let none : (n + q) - contracts level ≡ 0 = omega arith in
          rw (le-ltb q (contracts (lessened level n)) all, le-ltb (n + q) (contracts level) gone, none) (sym (less_none side levels h))
    ]

-- a take from what is left of the levels adds to what was taken
pub less-more : (side : Side) (levels : List Level) (n q : ℕ) → sound_levels side levels ≡ true → may_take (less_taken levels n) q ≡ true → less_best (less_taken levels n) q ≡ less_taken levels (n + q)
less-more side [] n q h may = refl
less-more side (level ∷ levels) n q h may =
    elim (cases_lt n (contracts level)) [
      | inl lt ↦
          let cut : less_taken (level ∷ levels) n ≡ lessened level n ∷ levels = rw (lt-ltb n (contracts level) lt) in
          ap (λ (left : List Level). less_best left q) cut ∙ take-first side level levels n q (rest-sound side level levels h) lt (ap (λ (left : List Level). may_take left q) (sym cut) ∙ may)
      | inr all ↦
          let cut : less_taken (level ∷ levels) n ≡ less_taken levels (n - contracts level) = rw (le-ltb n (contracts level) all) in
          let gone : contracts level ≤ n + q = omega arith in
          let same : (n + q) - contracts level ≡ (n - contracts level) + q = omega arith in
          ap (λ (left : List Level). less_best left q) cut
          ∙ less-more side levels (n - contracts level) q (rest-sound side level levels h) (ap (λ (left : List Level). may_take left q) (sym cut) ∙ may)
          ∙ rw (le-ltb (n + q) (contracts level) gone, same)
    ]

-- a take from the best level, of no more than it holds
pub less-best : (side : Side) (level : Level) (levels : List Level) (n : ℕ) → sound_levels side (level ∷ levels) ≡ true → n ≤ contracts level → less_best (level ∷ levels) n ≡ less_taken (level ∷ levels) n
less-best side level levels n h most =
    elim (cases_lt n (contracts level)) [
      | inl some ↦ rw (lt-ltb n (contracts level) some)
      | inr all ↦
          let none : n - contracts level ≡ 0 = omega arith in
          rw (le-ltb n (contracts level) all, none) (sym (less_none side levels (rest-sound side level levels h)))
    ]
