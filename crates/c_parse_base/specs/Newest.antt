-- What a look-up of names tells: the newest use of each.
use Rattle.std.specs.Prelude.{◌≡◌, ℕ, Bool, cond, List, [], ◌∷◌, map, Option, None, Some, bytes_eq}
use Rattle.c_tree.specs.WellFormed.{NameUse, Names}

-- whether the newest use of the name makes it a typedef name, where there is one
abbrev pub newest : Names → List ℕ → Option Bool
newest [] name = None
newest (known ∷ more) name = cond (bytes_eq known.name name) (Some known.is_typedef) (newest more name)

-- a use of a name, and what the use that it hides makes of the name, where there is one
pub record Hiding : Type 0 where
  pub known : NameUse
  pub hidden : Option Bool

-- the names that are declared by these uses
abbrev pub known_of : List Hiding → Names
known_of uses = map (λ u. u.known) uses

-- each use tells what it hides, where the newest stands first
abbrev pub Hides : List Hiding → Type 0
Hides [] = Unit {0}
Hides (u ∷ more) = (u.hidden ≡ newest (known_of more) u.known.name) × Hides more

-- a look-up finds the newest use of each name, and the uses tell what it finds once they are undone
pub record IsLookup (found : List ℕ → Option Bool) (uses : List Hiding) : Type 0 where
  pub finds : (name : List ℕ) → found name ≡ newest (known_of uses) name
  pub hides : Hides uses
