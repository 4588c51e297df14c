-- What is stored is what is loaded, for numbers that were made from no address.
use Rattle.std.proofs.Common.{◌≡◌, ℕ, suc, ◌^◌, Bool, true, false, List, [], ◌∷◌, length, map, replicate, Ok, Err, refl, ap}
use Rattle.std.specs.Prelude.{ℤ}
use Rattle.std.specs.Ordering.{nat_cmp}
use Rattle.std.specs.FinSet.{union, contains-empty, contains-union, same_set, nat_cmp-IsAntisymmetric}
use Rattle.std.specs.Cmp.{nat_cmp_total}
use Rattle.std.specs.List.{list_any}
use Rattle.c_base.specs.declared.integer.IntKind.TheVariants.{Int}
use Rattle.c_base.specs.declared.integer.Machine.TheVariants.{Lp64}
use Rattle.c_memory.specs.declared.scalar.Scalar.TheVariants.{Integer}
use Rattle.c_base.specs.declared.kind.Kind.TheVariants.{Initialization}
use Rattle.c_base.specs.Integers.{bits_from, residue, fits_kind}
use Rattle.c_memory.specs.Values.{Uninit, Provenance, nowhere, plain, cells_from, cells_of, is_uninit, is_dead, bit_of, united, value_in}
use Rattle.c_base.proofs.Bits.{number_of_bits-bits_from, signed_back}

map-bit_of-cells_from : (p : Provenance) (i : ℕ) (bits : List Bool) → map bit_of (cells_from p i bits) ≡ bits
unfolding cells_from
map-bit_of-cells_from p i [] = refl
map-bit_of-cells_from p i (b ∷ bs) = ap (λ more. b ∷ more) (map-bit_of-cells_from p (suc i) bs)

pub length-cells_from : (p : Provenance) (i : ℕ) (bits : List Bool) → length (cells_from p i bits) ≡ length bits
unfolding cells_from
length-cells_from p i [] = refl
length-cells_from p i (b ∷ bs) = ap suc (length-cells_from p (suc i) bs)

none_uninit : (p : Provenance) (i : ℕ) (bits : List Bool) → list_any is_uninit (cells_from p i bits) ≡ false
unfolding cells_from
none_uninit p i [] = refl
none_uninit p i (b ∷ bs) = none_uninit p (suc i) bs

none_dead : (p : Provenance) (i : ℕ) (bits : List Bool) → list_any is_dead (cells_from p i bits) ≡ false
unfolding cells_from
none_dead p i [] = refl
none_dead p i (b ∷ bs) = none_dead p (suc i) bs

nowhere_union : union nowhere nowhere ≡ nowhere
nowhere_union =
    same_set nat_cmp_total nat_cmp-IsAntisymmetric (union nowhere nowhere) nowhere
    (λ q. rw (contains-union nat_cmp_total nowhere nowhere q, contains-empty nat_cmp q) refl)

united_nowhere : (i : ℕ) (bits : List Bool) → united (cells_from nowhere i bits) ≡ nowhere
unfolding cells_from united
united_nowhere i [] = refl
united_nowhere i (b ∷ bs) = rw (united_nowhere (suc i) bs) nowhere_union

pub int_stored_loaded : (n : ℤ) → fits_kind Int Lp64 n ≡ true → value_in Lp64 (Integer Int) (cells_of Lp64 32 (plain n)) ≡ Ok (plain n)
unfolding value_in
int_stored_loaded n h =
    let bits = bits_from (residue (2 ^ 32) n) 32 in
    let back = signed_back n h in
    rw (none_uninit nowhere 0 bits, none_dead nowhere 0 bits, map-bit_of-cells_from nowhere 0 bits, united_nowhere 0 bits, number_of_bits-bits_from (residue (2 ^ 32) n) 32 back.0, back.1) refl

pub uninit_loaded : value_in Lp64 (Integer Int) (replicate 32 Uninit) ≡ Err Initialization
unfolding value_in
uninit_loaded = refl
