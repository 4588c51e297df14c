-- Lists with an item in the place of another, or behind all of them, and the bits of bases.
use Rattle.std.specs.Prelude.{ℕ, zero, suc, List, [], ◌∷◌, Option, None, Some, slice_get}

abbrev pub put_at : {A : Type 0} → List A → ℕ → A → List A
put_at [] n y = y ∷ []
put_at (x ∷ xs) zero y = y ∷ xs
put_at (x ∷ xs) (suc n) y = x ∷ put_at xs n y

-- the bits that a base has, and none where it doesn't live
abbrev pub bits_of : {A : Type 0} → Option (Option (List A)) → List A
bits_of None = []
bits_of (Some None) = []
bits_of (Some (Some bits)) = bits

abbrev pub bits_at : {A : Type 0} → List (Option (List A)) → ℕ → List A
bits_at table base = bits_of (slice_get table base)

-- the table without the bits of a base
abbrev pub cleared : {A : Type 0} → List (Option (List A)) → ℕ → List (Option (List A))
cleared [] base = []
cleared (b ∷ table) zero = None ∷ table
cleared (b ∷ table) (suc base) = b ∷ cleared table base
