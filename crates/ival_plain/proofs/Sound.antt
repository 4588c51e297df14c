-- The sets that plain functions answer are sound.
use Rattle.std.proofs.Common.{◌≡◌, ℕ, ◌-◌, ◌^◌, ◌≤◌, min, ℤ, pos, [], ◌∷◌, refl, sym, subst, inl, inr, arith}
use Rattle.std.proofs.lemmas.Bool.{cases_eq}
use Rattle.std.proofs.Math.Nat.{pow-le-pow_right}
use Rattle.std.proofs.lemmas.Int.{ints}
use Rattle.std.proofs.lemmas.Nat.{pow_pos}
use lib.Signed.{◌<ℤ◌}
use Rattle.c_base.specs.Integers.{residue}
use Rattle.ival_core.specs.declared.value.Shape.TheVariants.{Few, Many}
use Rattle.ival_core.specs.declared.value.Ival.{Ival}
use Rattle.ival_core.specs.Sets.{IsValid, Has}
use Rattle.ival_arith.specs.declared.pieces.Change.TheVariants.{Times}
use Rattle.ival_arith.specs.Pieces.{all_changed}
use Rattle.ival_arith.specs.Values.{residues}
use Rattle.ival_arith.specs.Floors.{floored}
use Rattle.ival_arith.proofs.Flooring.{floored-covers}
use Rattle.ival_arith.proofs.Reducing.{residues-fits}
use Rattle.ival_arith.proofs.Words.{powers}
use Rattle.ival_arith.proofs.Residuals.{residues_below}
use Rattle.ival_bits.specs.Parts.{extracted, concatenated}
use Rattle.ival_bits.proofs.PartSets.{residue_number, Tops, rests, raised, part_sums, sums_of, concatenated_sums, concatenated_whole}

pub few_valid : IsValid (Few (record { items = [] }))
few_valid = record { small = omega arith; ascending = tt; numbers = tt }

pub at_most_64 : (n : ℕ) → min n 64 ≤ 64
at_most_64 n = omega arith

pub word_valid : (n : ℕ) → IsValid (Few (record { items = pos (residue (2 ^ 64) (pos n)) ∷ [] }))
word_valid n = record { small = omega arith; ascending = (tt, tt); numbers = (residue_number (2 ^ 64) (pos n) (pow_pos 64) (powers 64 (omega arith)), tt) }

pub residues_valid : (bits : ℕ) (a : Ival) → IsValid (residues (2 ^ min bits 64) a.shape)
residues_valid bits a = (residues-fits (2 ^ min bits 64) a.shape (pow_pos (min bits 64)) (powers (min bits 64) (at_most_64 bits)) a.valid).valid

extracted_valid : (low bits : ℕ) (a : Ival) → bits ≤ 64 → IsValid (extracted low bits a.shape)
unfolding extracted
extracted_valid low bits a h =
    let c = floored-covers (2 ^ low) a.shape (pow_pos low) a.valid in
    (residues-fits (2 ^ bits) (floored (2 ^ low) a.shape) (pow_pos bits) (powers bits h) c.valid).valid

pub part_valid : (low bits : ℕ) (a : Ival) → IsValid (extracted low (min bits 64) a.shape)
part_valid low bits a = extracted_valid low (min bits 64) a (at_most_64 bits)

pub bit_valid : IsValid (Few (record { items = pos 0 ∷ pos 1 ∷ [] }))
bit_valid = record {
  small = omega arith;
  ascending = ((omega (arith, ints), tt), (tt, tt));
  numbers = (record { least = omega (arith, ints); greatest = omega (arith, ints) }, (record { least = omega (arith, ints); greatest = omega (arith, ints) }, tt));
}

-- numbers of the bits above the lower ones
pub part_tops : (low_bits bits : ℕ) (a v : Ival) → v.shape ≡ extracted 0 (min bits (64 - min low_bits 64)) a.shape → Tops (min low_bits 64) v
unfolding extracted
part_tops low_bits bits a v e =
    let n = min bits (64 - min low_bits 64) in
    let small : n ≤ 64 - min low_bits 64 = omega arith in
    let most : n ≤ 64 = omega arith in
    let c = floored-covers (2 ^ 0) a.shape (pow_pos 0) a.valid in
    record {
      small = omega arith;
      tops = λ h i.
          let b = residues_below (2 ^ n) (floored (2 ^ 0) a.shape) (pow_pos n) (powers n most) h (subst (λ s. Has s h) e i) in
          let p : 2 ^ n ≤ 2 ^ (64 - min low_bits 64) = pow-le-pow_right (omega arith) small in
          (b.above, further (2 ^ n) (2 ^ (64 - min low_bits 64)) h p b.below);
    }
  where
    further : (m n : ℕ) (h : ℤ) → m ≤ n → h <ℤ pos m → h <ℤ pos n
    further m n h p b = omega (arith, ints)

concatenated_valid : (low_bits : ℕ) (low high : Ival) → Tops low_bits high → IsValid (concatenated low_bits low.shape high.shape)
concatenated_valid low_bits low high t =
    elim (cases_eq low_bits 64) [
      | inl e ↦ subst IsValid (sym (concatenated_whole low_bits low.shape high.shape e)) (rests low_bits low t.small).valid
      | inr n ↦
          let r = raised low_bits high t in
          let f = rests low_bits low t.small in
          subst IsValid (sym (concatenated_sums low_bits low.shape high.shape n))
          (sums_of (all_changed (Times (2 ^ low_bits)) high.shape) (residues (2 ^ low_bits) low.shape) r.exactly.valid f.valid (part_sums low_bits low high t)).valid
    ]

pub high_valid : (low_bits bits : ℕ) (a : Ival) → IsValid (extracted 0 (min bits (64 - min low_bits 64)) a.shape)
high_valid low_bits bits a = extracted_valid 0 (min bits (64 - min low_bits 64)) a (omega arith)

abbrev pub high_of : ℕ → ℕ → Ival → Ival
high_of low_bits bits a = record { shape = extracted 0 (min bits (64 - min low_bits 64)) a.shape; valid = high_valid low_bits bits a }

pub concat_valid : (low_bits : ℕ) (low : Ival) (bits : ℕ) (high : Ival) → IsValid (concatenated (min low_bits 64) low.shape (extracted 0 (min bits (64 - min low_bits 64)) high.shape))
concat_valid low_bits low bits high =
    concatenated_valid (min low_bits 64) low (high_of low_bits bits high) (part_tops low_bits bits high (high_of low_bits bits high) refl)

pub words_valid : IsValid (Many (record { low = pos 0; high = pos (2 ^ 64 - 1); stride = 1 }))
words_valid = record {
  first = record { least = omega (arith, ints); greatest = omega (arith, ints) };
  last = record { least = omega (arith, ints); greatest = omega (arith, ints) };
  moves = omega arith;
  long = omega (arith, ints);
  meets = omega arith;
}
