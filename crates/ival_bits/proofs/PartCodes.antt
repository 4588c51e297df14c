-- How parts are computed.
use Rattle.std.proofs.Common.{◌≡◌, ℕ, ◌^◌, ap, ◌∙◌}
use Rattle.ival_core.specs.declared.value.Shape.{Shape}
use Rattle.ival_arith.specs.Values.{residues}
use Rattle.ival_arith.specs.Floors.{floored}
use Rattle.ival_bits.specs.Parts.{extracted}

pub extracted_from : (low bits m d : ℕ) (s t r : Shape) → d ≡ 2 ^ low → m ≡ 2 ^ bits → t ≡ floored d s → r ≡ residues m t → r ≡ extracted low bits s
unfolding extracted
extracted_from low bits m d s t r e f g h = h ∙ ap (residues m) (g ∙ ap (λ k. floored k s) e) ∙ ap (λ k. residues k (floored (2 ^ low) s)) f
