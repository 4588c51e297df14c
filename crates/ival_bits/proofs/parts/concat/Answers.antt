use Rattle.std.proofs.Common.{rules, ◌≡◌, ◌^◌, pos, ◌*ℤ◌}
use Rattle.ival_core.specs.Sets.{IsNumber}
use Rattle.ival_bits.specs.Parts.{concatenated}
use Rattle.ival_bits.proofs.parts.concat.Goals as goal
use Rattle.std.proofs.Common.{ap, sym, subst, ◌∙◌, ◌^◌}
use Rattle.std.specs.Prelude.{neg_ℤ, ◌*ℤ◌}
use Rattle.ival_core.specs.Sets.{Has, IsNumber}
use Rattle.ival_arith.specs.declared.pieces.Change.TheVariants.{Times}
use Rattle.ival_arith.specs.Pieces.{all_changed}
use Rattle.ival_arith.specs.Values.{residues}
use Rattle.ival_arith.specs.Sums.{sums}
use Rattle.ival_bits.specs.Parts.{concatenated}
use Rattle.ival_bits.proofs.PartSets.{Tops, concatenated_whole, concatenated_sums, whole_holds, whole_single, raised_number, part_sums, concat_holds, concat_single}

-- src/parts.rt:87:9
pub returns-then-low_bits-eq64-clause-value : goal.returns-then-low_bits-eq64-clause-value
returns-then-low_bits-eq64-clause-value c = let e : c.residues-rest.result.shape ≡ residues (2 ^ c.args.low_bits) c.args.low.now.shape = c.residues-rest.ensures ∙ ap (λ m. residues m c.args.low.now.shape) c.power.ensures.value in e ∙ sym (concatenated_whole c.args.low_bits c.args.low.now.shape c.args.high.now.shape c.if-low_bits-eq64.true)

-- src/parts.rt:87:9
pub returns-then-low_bits-eq64-clause-holds : goal.returns-then-low_bits-eq64-clause-holds
returns-then-low_bits-eq64-clause-holds c = let t : Tops c.args.low_bits c.args.high.now = record { small = c.requires.low; tops = c.requires.high } in let e : c.residues-rest.result.shape ≡ residues (2 ^ c.args.low_bits) c.args.low.now.shape = c.residues-rest.ensures ∙ ap (λ m. residues m c.args.low.now.shape) c.power.ensures.value in whole_holds c.args.low_bits c.args.low.now c.args.high.now c.residues-rest.result t c.if-low_bits-eq64.true e

-- src/parts.rt:87:9
pub returns-then-low_bits-eq64-clause-single : goal.returns-then-low_bits-eq64-clause-single
returns-then-low_bits-eq64-clause-single c = let t : Tops c.args.low_bits c.args.high.now = record { small = c.requires.low; tops = c.requires.high } in let e : c.residues-rest.result.shape ≡ residues (2 ^ c.args.low_bits) c.args.low.now.shape = c.residues-rest.ensures ∙ ap (λ m. residues m c.args.low.now.shape) c.power.ensures.value in whole_single c.args.low_bits c.args.low.now c.args.high.now c.residues-rest.result t c.if-low_bits-eq64.true e

-- src/parts.rt:89:15
pub changed-top-requires-clause-numbers : goal.changed-top-requires-clause-numbers
changed-top-requires-clause-numbers c = let t : Tops c.args.low_bits c.args.high.now = record { small = c.requires.low; tops = c.requires.high } in λ n h. subst (λ k. IsNumber (n *ℤ pos k)) (sym c.power-2.ensures.value) (raised_number c.args.low_bits c.args.high.now t n h)

-- src/parts.rt:90:5
pub sums-requires-clause-sums : goal.sums-requires-clause-sums
sums-requires-clause-sums c = let t : Tops c.args.low_bits c.args.high.now = record { small = c.requires.low; tops = c.requires.high } in let e : c.residues-rest.result.shape ≡ residues (2 ^ c.args.low_bits) c.args.low.now.shape = c.residues-rest.ensures ∙ ap (λ m. residues m c.args.low.now.shape) c.power.ensures.value in let x : c.changed-top.result.shape ≡ all_changed (Times (2 ^ c.args.low_bits)) c.args.high.now.shape = search rules in λ x0 y0 h k. part_sums c.args.low_bits c.args.low.now c.args.high.now t x0 y0 (subst (λ s. Has s x0) x h) (subst (λ s. Has s y0) e k)

-- src/parts.rt:78:1
pub returns-clause-value : goal.returns-clause-value
returns-clause-value c = let t : Tops c.args.low_bits c.args.high.now = record { small = c.requires.low; tops = c.requires.high } in let e : c.residues-rest.result.shape ≡ residues (2 ^ c.args.low_bits) c.args.low.now.shape = c.residues-rest.ensures ∙ ap (λ m. residues m c.args.low.now.shape) c.power.ensures.value in let x : c.changed-top.result.shape ≡ all_changed (Times (2 ^ c.args.low_bits)) c.args.high.now.shape = search rules in let v : c.sums.result.shape ≡ sums (neg_ℤ (pos (2 ^ 120))) (pos (2 ^ 120)) (all_changed (Times (2 ^ c.args.low_bits)) c.args.high.now.shape) (residues (2 ^ c.args.low_bits) c.args.low.now.shape) = c.sums.ensures ∙ ap (λ s. sums (neg_ℤ (pos (2 ^ 120))) (pos (2 ^ 120)) s c.residues-rest.result.shape) x ∙ ap (sums (neg_ℤ (pos (2 ^ 120))) (pos (2 ^ 120)) (all_changed (Times (2 ^ c.args.low_bits)) c.args.high.now.shape)) e in let w : c.sums.result.shape ≡ concatenated c.args.low_bits c.args.low.now.shape c.args.high.now.shape = v ∙ sym (concatenated_sums c.args.low_bits c.args.low.now.shape c.args.high.now.shape c.if-low_bits-eq64.false) in w

-- src/parts.rt:78:1
pub returns-clause-holds : goal.returns-clause-holds
returns-clause-holds c = let t : Tops c.args.low_bits c.args.high.now = record { small = c.requires.low; tops = c.requires.high } in let e : c.residues-rest.result.shape ≡ residues (2 ^ c.args.low_bits) c.args.low.now.shape = c.residues-rest.ensures ∙ ap (λ m. residues m c.args.low.now.shape) c.power.ensures.value in let x : c.changed-top.result.shape ≡ all_changed (Times (2 ^ c.args.low_bits)) c.args.high.now.shape = search rules in let v : c.sums.result.shape ≡ sums (neg_ℤ (pos (2 ^ 120))) (pos (2 ^ 120)) (all_changed (Times (2 ^ c.args.low_bits)) c.args.high.now.shape) (residues (2 ^ c.args.low_bits) c.args.low.now.shape) = c.sums.ensures ∙ ap (λ s. sums (neg_ℤ (pos (2 ^ 120))) (pos (2 ^ 120)) s c.residues-rest.result.shape) x ∙ ap (sums (neg_ℤ (pos (2 ^ 120))) (pos (2 ^ 120)) (all_changed (Times (2 ^ c.args.low_bits)) c.args.high.now.shape)) e in let w : c.sums.result.shape ≡ concatenated c.args.low_bits c.args.low.now.shape c.args.high.now.shape = v ∙ sym (concatenated_sums c.args.low_bits c.args.low.now.shape c.args.high.now.shape c.if-low_bits-eq64.false) in concat_holds c.args.low_bits c.args.low.now c.args.high.now c.sums.result t c.if-low_bits-eq64.false w

-- src/parts.rt:78:1
pub returns-clause-single : goal.returns-clause-single
returns-clause-single c = let t : Tops c.args.low_bits c.args.high.now = record { small = c.requires.low; tops = c.requires.high } in let e : c.residues-rest.result.shape ≡ residues (2 ^ c.args.low_bits) c.args.low.now.shape = c.residues-rest.ensures ∙ ap (λ m. residues m c.args.low.now.shape) c.power.ensures.value in let x : c.changed-top.result.shape ≡ all_changed (Times (2 ^ c.args.low_bits)) c.args.high.now.shape = search rules in let v : c.sums.result.shape ≡ sums (neg_ℤ (pos (2 ^ 120))) (pos (2 ^ 120)) (all_changed (Times (2 ^ c.args.low_bits)) c.args.high.now.shape) (residues (2 ^ c.args.low_bits) c.args.low.now.shape) = c.sums.ensures ∙ ap (λ s. sums (neg_ℤ (pos (2 ^ 120))) (pos (2 ^ 120)) s c.residues-rest.result.shape) x ∙ ap (sums (neg_ℤ (pos (2 ^ 120))) (pos (2 ^ 120)) (all_changed (Times (2 ^ c.args.low_bits)) c.args.high.now.shape)) e in let w : c.sums.result.shape ≡ concatenated c.args.low_bits c.args.low.now.shape c.args.high.now.shape = v ∙ sym (concatenated_sums c.args.low_bits c.args.low.now.shape c.args.high.now.shape c.if-low_bits-eq64.false) in concat_single c.args.low_bits c.args.low.now c.args.high.now c.sums.result t c.if-low_bits-eq64.false w
