-- What is asked of tests for single cells, and of what is left of cells when an object has died.
use Rattle.std.specs.Prelude.{◌≡◌, ℕ, Bool, true, List, [], ◌∷◌, length, map}

-- contents that are alike bit by bit
module _ {K : Type 0} (Alike : K → K → Type 0) where
  abbrev pub AllAlike : List K → List K → Type 0
  AllAlike [] [] = Unit {0}
  AllAlike [] (k ∷ ks) = ⊥
  AllAlike (j ∷ js) [] = ⊥
  AllAlike (j ∷ js) (k ∷ ks) = Alike j k × AllAlike js ks

-- the test is true of the cells alone that allow one content
pub record SingleLaws {C K : Type 0} (Fine : ℕ → C → Type 0) (Allows : ℕ → C → List K → Type 0) (Alike : K → K → Type 0) (single : ℕ → C → Bool) : Type 0 where
  pub single_one : (k : ℕ) (c : C) (js ks : List K) → Fine k c → single k c ≡ true → Allows k c js → Allows k c ks → AllAlike Alike js ks
  pub one_single : (k : ℕ) (c : C) → Fine k c → ((js ks : List K) → Allows k c js → Allows k c ks → AllAlike Alike js ks) → single k c ≡ true
  pub some : (k : ℕ) (c : C) → Fine k c → (ks : List K) × Allows k c ks
  pub wide : (k : ℕ) (c : C) (ks : List K) → Allows k c ks → length ks ≡ k

-- `wither` is what becomes of a concrete cell
pub record DeathLaws {C K : Type 0} (Fine : ℕ → C → Type 0) (Allows : ℕ → C → List K → Type 0) (wither : K → K) (left : C → C) : Type 0 where
  pub left_allows : (k : ℕ) (c : C) (ks : List K) → Fine k c → Allows k c ks → Allows k (left c) (map wither ks)
