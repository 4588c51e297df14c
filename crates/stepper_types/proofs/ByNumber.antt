-- The bases of the plain program, by number.
use Rattle.std.proofs.Common.{◌≡◌, ℕ, zero, suc, ◌<◌, ◌≤◌, List, [], ◌∷◌, map, length, get_or, Option, None, Some, option_map, option_copied, slice_get, MatchOption, IfSome, Bor, refl, sym, ap, ◌∙◌}
use Rattle.std.specs.List.{HoldsAt}
use Rattle.std.proofs.lemmas.Option.{slice_get_past, slice_get-get_or}
use Rattle.c_program.specs.declared.program.Base.{Base as CodeBase}
use Rattle.c_program.specs.Syntax.{base_at}
use Rattle.c_program.specs.Views.{base_of}

pub base_by : (bases : List CodeBase) (n : ℕ) → base_at (map base_of bases) n ≡ option_map base_of (slice_get bases n)
base_by [] n = refl
base_by (b ∷ more) zero = refl
base_by (b ∷ more) (suc n) = base_by more n

-- an element that was found in a list, or that the list is shorter
abbrev pub IsWithin : List CodeBase → ℕ → Option (Bor CodeBase) → Type 0
IsWithin all n found = MatchOption found (length all ≤ n) (λ x. (n < length all) × HoldsAt (λ y. x.now ≡ y) all n)

abbrev pub IsAt : List CodeBase → ℕ → Option (Bor CodeBase) → Type 0
IsAt all n found = IfSome found (λ x. x.now ≡ get_or all n x.now)

pub base_got : (all bases : List CodeBase) (n : ℕ) (found : Option (Bor CodeBase)) → all ≡ bases → IsWithin all n found → IsAt all n found →
    option_map base_of (option_copied found) ≡ base_at (map base_of bases) n
base_got all bases n None same h is =
    sym (base_by bases n ∙ ap (option_map base_of) (ap (λ xs. slice_get xs n) (sym same) ∙ slice_get_past all n h))
base_got all bases n (Some x) same h is =
    sym (base_by bases n ∙ ap (option_map base_of) (ap (λ xs. slice_get xs n) (sym same) ∙ slice_get-get_or all n x.now h.0 ∙ ap Some (sym is)))
