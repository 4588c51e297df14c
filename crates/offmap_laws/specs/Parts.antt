-- What lists of bits consist of.
use Rattle.std.specs.Prelude.{◌≡◌, ℕ, zero, suc, ◌+◌, List, [], take, drop}

-- the bits before a part of k bits at a bit, those of the part, and those behind it, each described by elements
pub record ArePasted {E K : Type 0} (Described : List E → List K → Type 0) (front part rest : List E) (at k : ℕ) (ks : List K) : Type 0 where
  pub before : Described front (take at ks)
  pub inside : Described part (take k (drop at ks))
  pub behind : Described rest (drop (at + k) ks)

-- n times k bits, each time as P says
module _ {K : Type 0} (P : List K → Type 0) (k : ℕ) where
  abbrev pub AllTimes : ℕ → List K → Type 0
  AllTimes zero ks = ks ≡ []
  AllTimes (suc n) ks = P (take k ks) × AllTimes n (drop k ks)
