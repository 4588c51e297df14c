-- What reading by a grammar promises.
use Rattle.std.specs.Prelude.{◌↔◌, ℕ, ◌≡◌, ◌≤◌, List, Option, None, Some}
use Rattle.c_base.specs.declared.token.Token.{Token}
use Rattle.grammar.specs.Forms.{Language, Grammar}
use Rattle.grammar.specs.Reading.{Found, Readers, parse}
use Rattle.grammar.specs.Spelling.{Spells, nest}

module _ (L : Language) (G : Grammar L) where
  -- the tree that is read is spelled and nests so deep at most, and each that is spelled and nests so deep at most is read
  abbrev pub IsExact : Readers L → Type 0
  IsExact R = (depth : ℕ) (s : L.Sort) (scope : L.Scope) (tokens : List Token) (x : Found L) →
      (parse L G R depth s scope tokens ≡ Some x) ↔ (Spells L G x.0 s scope tokens x.1 x.2 × (nest L x.0 ≤ depth))

  -- what is read: there is just this tree, or none
  abbrev pub IsRead : ℕ → L.Sort → L.Scope → List Token → Option (Found L) → Type 0
  IsRead depth s scope tokens None = (x : Found L) → Spells L G x.0 s scope tokens x.1 x.2 → nest L x.0 ≤ depth → ⊥
  IsRead depth s scope tokens (Some x) =
      Spells L G x.0 s scope tokens x.1 x.2 × (nest L x.0 ≤ depth)
      × ((y : Found L) → Spells L G y.0 s scope tokens y.1 y.2 → nest L y.0 ≤ depth → y ≡ x)
