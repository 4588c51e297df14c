-- What is taken off with one more.
use Rattle.std.proofs.Common.{◌≡◌, ℕ, zero, suc, List, [], ◌∷◌, Option, None, Some, refl}
use Rattle.c_machine.specs.Machine.{Held}
use Rattle.c_machine.specs.Parts.{split_held}

abbrev pub one_more : Option (List Held × List Held) → Option (List Held × List Held)
one_more None = None
one_more (Some (last, [])) = None
one_more (Some (last, h ∷ held)) = Some (h ∷ last, held)

pub split_more : (n : ℕ) (last held : List Held) → split_held (suc n) last held ≡ one_more (split_held n last held)
split_more zero last [] = refl
split_more zero last (h ∷ held) = refl
split_more (suc n) last [] = refl
split_more (suc n) last (h ∷ held) = split_more n (h ∷ last) held
