-- Steps one after the other.
use Rattle.std.specs.Prelude.{List, [], ◌∷◌}

abbrev pub stepped : {A : Type 0} → List (A → A) → A → A
stepped [] a = a
stepped (f ∷ more) a = stepped more (f a)
