-- Offsets in a list.
use Rattle.std.proofs.Common.{ℕ, List, [], ◌∷◌, inl, inr}
use Rattle.cell_laws.proofs.Accesses.{Among}
use Rattle.offmap_laws.specs.Offsets.{IsAmong}

pub among : (ats : List ℕ) (at : ℕ) → IsAmong ats at → Among ats at
among [] at i = i
among (x ∷ xs) at (inl e) = inl e
among (x ∷ xs) at (inr i) = inr (among xs at i)
