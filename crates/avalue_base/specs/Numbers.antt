-- Plain functions on sets of integers.
use Rattle.std.specs.Prelude.{ℕ, suc, ◌-◌, ◌/◌, ◌^◌, ◌==◌, min, Bool, true, false, ℤ, pos, unsigned_abs, List, [], ◌∷◌, Option, None, Some}
use Rattle.std.specs.List.{list_any, list_all}
use Rattle.std.specs.Int.{int_rem_euclid}
use Rattle.c_base.specs.Integers.{residue}
use Rattle.c_memory.specs.Rows.{Numbers, Few as FewNumbers, Many as ManyNumbers}
use Rattle.ival_core.specs.declared.value.Shape.{Shape}
use Rattle.ival_core.specs.declared.value.Shape.TheVariants.{Few, Many}
use Rattle.ival_core.specs.declared.value.Ival.{Ival}
use Rattle.ival_core.specs.Sets.{apart, steps_from}
use Rattle.ival_core.specs.Joined.{joined}
use Rattle.ival_core.specs.Views.{single_of}
use Rattle.ival_core.proofs.Joined.{joined-makes}
use Rattle.ival_arith.specs.Kinds.{holds_number}
use Rattle.ival_arith.specs.Values.{residues}
use Rattle.ival_bits.specs.Parts.{extracted, concatenated}
use Rattle.ival_plain.proofs.Sound.{few_valid, bit_valid, word_valid, words_valid, part_valid, concat_valid}

-- at most 8 numbers, or bounds with the remainder that all numbers leave
abbrev pub numbers_of : Shape → Numbers
numbers_of (Few few) = FewNumbers few.items
numbers_of (Many run) = ManyNumbers run.low run.high (unsigned_abs (int_rem_euclid run.low (pos run.stride))) run.stride

-- all numbers of a set
unfoldable pub list_of : Shape → List ℤ
list_of (Few few) = few.items
list_of (Many run) = steps_from run.low run.stride (suc (apart run.low run.high / run.stride))

abbrev pub is_empty_list : {X : Type 0} → List X → Bool
is_empty_list [] = true
is_empty_list (x ∷ xs) = false

abbrev pub is_empty : Shape → Bool
is_empty (Few few) = is_empty_list few.items
is_empty (Many run) = false

-- each number of s is one of t
unfoldable pub lies_in : Shape → Shape → Bool
lies_in s t = list_all (holds_number t) (list_of s)

-- some number of s leaves r modulo m
unfoldable pub has_residue : Shape → ℕ → ℕ → Bool
has_residue s m r = list_any (λ n. residue m n == r) (list_of s)

abbrev pub amount : Option ℤ → Option ℕ
amount None = None
amount (Some z) = Some (unsigned_abs z)

-- what all numbers of s leave modulo 2^k, where they leave the same
abbrev pub rest_in : ℕ → Shape → Option ℕ
rest_in k s = amount (single_of (residues (2 ^ k) s))

-- first and the numbers that follow it, so many in all, are numbers of s
unfoldable pub has_all_from : Shape → ℕ → ℤ → Bool
has_all_from s count first = list_all (holds_number s) (steps_from first 1 count)

-- so many numbers of s stand in a row
unfoldable pub has_row : Shape → ℕ → Bool
has_row s count = list_any (has_all_from s count) (list_of s)

unfoldable pub no_numbers : Ival
no_numbers = record { shape = Few (record { items = [] }); valid = few_valid }

-- the numbers of one bit
unfoldable pub bit_numbers : Ival
bit_numbers = record { shape = Few (record { items = pos 0 ∷ pos 1 ∷ [] }); valid = bit_valid }

-- the number alone, modulo 2^64
unfoldable pub word : ℕ → Ival
word n = record { shape = Few (record { items = pos (residue (2 ^ 64) (pos n)) ∷ [] }); valid = word_valid n }

-- the least set that holds both
unfoldable pub join_of : Ival → Ival → Ival
join_of a b = record { shape = joined a.shape b.shape; valid = (joined-makes a.shape b.shape a.valid b.valid).valid }

-- so many bits of each number from bit `low` on, at most 64
unfoldable pub part_of : ℕ → ℕ → Ival → Ival
part_of low bits a = record { shape = extracted low (min bits 64) a.shape; valid = part_valid low bits a }

-- numbers of two parts, of which the lower one has so many bits, at most 64
unfoldable pub concat_of : ℕ → Ival → ℕ → Ival → Ival
concat_of low_bits low bits high = record {
  shape = concatenated (min low_bits 64) low.shape (extracted 0 (min bits (64 - min low_bits 64)) high.shape);
  valid = concat_valid low_bits low bits high;
}

-- the numbers of 64 bits
unfoldable pub words : Ival
words = record { shape = Many (record { low = pos 0; high = pos (2 ^ 64 - 1); stride = 1 }); valid = words_valid }
