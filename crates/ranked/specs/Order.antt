-- Lists in rank order, and the place of a record in one.
--   leads         none of these records precedes x
--   in_order      no record precedes one that stands ahead of it
--   place_for     the place of x: behind all up to the first record that it precedes
--   in_rank       the list with x at its place
--   place_given   the place of x in a list with this much room, none if it is full
--   inserted_at   the list with x at the place given, or as it was
--   may_set       whether y may stand in the place of this record: neither precedes the other
--   FoundAt       the first record with this number stands at this place
--   Found         the place of the first record with this number, or none has it
use Rattle.std.specs.Prelude.{◌≡◌, ℕ, suc, ◌<◌, Bool, true, false, cond, not, ◌&&◌, List, [], ◌∷◌, length, Some, None, Option, ◌≢◌, nat_le, slice_index_or}
use Rattle.std.specs.List.{insert}

module _ {X : Type 0} (before : X → X → Bool) where
  abbrev pub leads : X → List X → Bool
  leads x [] = true
  leads x (y ∷ ys) = not (before y x) && leads x ys

  abbrev pub in_order : List X → Bool
  in_order [] = true
  in_order (x ∷ xs) = leads x xs && in_order xs

  abbrev pub place_for : X → List X → ℕ
  place_for x [] = 0
  place_for x (y ∷ ys) = cond (before x y) 0 (suc (place_for x ys))

  abbrev pub in_rank : X → List X → List X
  in_rank x [] = x ∷ []
  in_rank x (y ∷ ys) = cond (before x y) (x ∷ y ∷ ys) (y ∷ in_rank x ys)

  abbrev pub place_given : X → List X → ℕ → Option ℕ
  place_given x xs room = cond (nat_le room (length xs)) None (Some (place_for x xs))

  abbrev pub may_set : Option X → X → Bool
  may_set None y = false
  may_set (Some x) y = not (before x y) && not (before y x)

module _ {X : Type 0} where
  abbrev pub inserted_at : List X → Option ℕ → X → List X
  inserted_at xs None x = xs
  inserted_at xs (Some place) x = insert xs place x

module _ {X : Type 0} (numbered : X → ℕ) (xs : List X) (number : ℕ) where
  pub record FoundAt (place : ℕ) : Type 0 where
    pub within : place < length xs
    pub is : (d : X) → numbered (slice_index_or xs place d) ≡ number
    pub first : (k : ℕ) (d : X) → k < place → numbered (slice_index_or xs k d) ≢ number

  abbrev pub Found : Option ℕ → Type 0
  Found None = (k : ℕ) (d : X) → k < length xs → numbered (slice_index_or xs k d) ≢ number
  Found (Some place) = FoundAt place
