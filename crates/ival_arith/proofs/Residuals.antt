-- Residues lie below the modulus, also in the sets that hold more than them.
use Rattle.std.proofs.Common.{◌≡◌, ℕ, zero, suc, ◌+◌, ◌-◌, ◌*◌, ◌/◌, ◌%◌, ◌<◌, ◌≤◌, ◌^◌, Bool, true, false, cond, ℤ, pos, map, refl, sym, subst, inl, inr, arith}
use Rattle.std.specs.Prelude.{nat_lt}
use Rattle.std.proofs.lemmas.Int.{ints}
use Rattle.std.proofs.lemmas.Bool.{ltb-true}
use Rattle.std.proofs.lemmas.Nat.{mod_below}
use Rattle.std.proofs.Math.Nat.{one-dvd}
use lib.Signed.{◌<ℤ◌, ◌≤ℤ◌}
use Rattle.c_base.specs.Integers.{residue}
use Rattle.c_base.proofs.Residues.{residue_below}
use Rattle.ival_core.specs.declared.value.Shape.{Shape}
use Rattle.ival_core.specs.declared.value.Shape.TheVariants.{Few, Many}
use Rattle.ival_core.specs.Sets.{apart, Among, Has}
use Rattle.ival_core.specs.Ranges.{ranged}
use Rattle.ival_core.specs.Joined.{gcd}
use Rattle.ival_core.specs.Sets.{AllNumbers}
use Rattle.ival_core.proofs.Insertion.{AllNumbers-from_among}
use Rattle.ival_core.proofs.Joined.{Makes}
use Rattle.ival_arith.specs.Pieces.{gathered, run, residues_from, is_among, cycle}
use Rattle.ival_arith.specs.Values.{residues}
use Rattle.ival_arith.proofs.Fits.{gathered-makes}
use Rattle.ival_arith.proofs.Parts.{Image, mapped-makes, run-exactly, ranged-exactly}
use Rattle.ival_arith.proofs.Cycles.{range_may, cycle_moves}
use Rattle.ival_arith.proofs.Reducing.{residue_number}

-- n lies from 0 to m - 1
pub record Below (m : ℕ) (n : ℤ) : Type 0 where
  pub above : pos 0 ≤ℤ n
  pub below : n <ℤ pos m

makes_below : (m : ℕ) (P : ℤ → Type 0) (s : Shape) → 0 < m → m ≤ 2 ^ 64 → Makes P s → ((n : ℤ) → P n → Below m n) → (n : ℤ) → Has s n → Below m n
makes_below m P s h k e f n i =
    let x = run-exactly (pos 0) (pos (m - 1)) 1 (record { least = omega (arith, ints); greatest = omega (arith, ints) }) (record { least = omega (arith, ints); greatest = omega (arith, ints) }) (omega (arith, ints)) (omega arith) in
    let y = x.only n (e.least.least (run (pos 0) (pos (m - 1)) 1) x.valid (λ z p. let b = f z p in let c = b.above in let d = b.below in x.holds z (record { above = b.above; below = omega (arith, ints); meets = one-dvd (apart (pos 0) z) })) n i) in
    let c : n ≤ℤ pos (m - 1) = y.below in
    record { above = y.above; below = omega (arith, ints) }

pub residue_is_below : (m : ℕ) (z : ℤ) → 0 < m → Below m (pos (residue m z))
residue_is_below m z h = let b = residue_below m z h in record { above = omega (arith, ints); below = omega (arith, ints) }

left_below : (m first stride count : ℕ) → 0 < m → (n : ℤ) → Among (residues_from m first stride count) n → Below m n
unfolding residues_from
left_below m first stride zero h n i = absurd i
left_below m first stride (suc count) h n (inl e) = subst (Below m) (sym e) (let b = mod_below first m h in record { above = omega (arith, ints); below = omega (arith, ints) })
left_below m first stride (suc count) h n (inr i) = left_below m (first + stride) stride count h n i

left_numbers : (m first stride count : ℕ) → 0 < m → m ≤ 2 ^ 64 → AllNumbers (residues_from m first stride count)
left_numbers m first stride count h k = AllNumbers-from_among (residues_from m first stride count) (λ n i. let b = left_below m first stride count h n i in let c = b.above in let d = b.below in record { least = omega (arith, ints); greatest = omega (arith, ints) })

cycle_below : (m first stride more : ℕ) → 0 < m → m ≤ 2 ^ 64 → (n : ℤ) → Has (cycle m first stride more) n → Below m n
unfolding cycle
cycle_below m first stride more h k n i =
    by_tests (is_among (residues_from m first stride 8) (pos ((first + 8 * stride) % m))) (nat_lt (first + more * stride) m) (λ e. cycle_moves m first stride e) (λ e. ltb-true (first + more * stride) m e) i
  where
    by_tests : (s t : Bool) → (s ≡ false → 0 < stride) → (t ≡ true → first + more * stride < m) →
        Has (cond s (gathered (residues_from m first stride 8)) (cond t (run (pos first) (pos (first + more * stride)) stride) (ranged (pos 0) (pos (m - 1)) (pos (first % gcd stride m)) (pos (gcd stride m))))) n → Below m n
    by_tests true t f g i =
        makes_below m (Among (residues_from m first stride 8)) (gathered (residues_from m first stride 8)) h k (gathered-makes (residues_from m first stride 8) (left_numbers m first stride 8 h k)) (left_below m first stride 8 h) n i
    by_tests false true f g i =
        let l = g refl in
        let x = run-exactly (pos first) (pos (first + more * stride)) stride (record { least = omega (arith, ints); greatest = omega (arith, ints) }) (record { least = omega (arith, ints); greatest = omega (arith, ints) }) (omega (arith, ints)) (f refl) in
        let y = x.only n i in let a : pos first ≤ℤ n = y.above in let b : n ≤ℤ pos (first + more * stride) = y.below in
        record { above = omega (arith, ints); below = omega (arith, ints) }
    by_tests false false f g i =
        let x = ranged-exactly (pos 0) (pos (m - 1)) (pos (first % gcd stride m)) (pos (gcd stride m)) (range_may m first stride h k) in
        let y = x.only n i in let a : pos 0 ≤ℤ n = y.above in let b : n ≤ℤ pos (m - 1) = y.below in
        record { above = a; below = omega (arith, ints) }

pub residues_below : (m : ℕ) (s : Shape) → 0 < m → m ≤ 2 ^ 64 → (n : ℤ) → Has (residues m s) n → Below m n
unfolding residues
residues_below m (Few v) h k n i =
    makes_below m (Image (Among v.items) (λ z. pos (residue m z))) (gathered (map (λ z. pos (residue m z)) v.items)) h k (mapped-makes (λ z. pos (residue m z)) v.items (λ z j. residue_number m z h k))
    (λ z j. subst (Below m) (sym j.is) (residue_is_below m j.from h)) n i
residues_below m (Many p) h k n i = cycle_below m (residue m p.low) (p.stride % m) (apart p.low p.high / p.stride) h k n i
