-- Parts of sets whose numbers leave the same modulo a power of two, and sets that are made of such parts: each has one number.
use Rattle.std.proofs.Common.{◌≡◌, ℕ, ◌+◌, ◌-◌, ◌*◌, ◌/◌, ◌%◌, ◌^◌, ◌<◌, ◌≤◌, ◌==◌, Bool, true, false, cond, ℤ, pos, ◌+ℤ◌, ◌≤ℤ◌, [], ◌∷◌, length, map, refl, sym, ap, ◌∙◌, subst, arith, eq-eqb}
use Rattle.std.specs.Prelude.{min, neg_ℤ, Some}
use Rattle.std.specs.Int.{◌∣◌}
use Rattle.std.proofs.lemmas.Int.{ints}
use Rattle.std.proofs.lemmas.List.{length-map}
use Rattle.std.proofs.lemmas.Nat.{pow_pos, pow-add}
use Rattle.std.proofs.lemmas.Nat.Gcd.{dvd_of_mod-eq-zero, mod-eq-zero_of_dvd, dvd_trans}
use Rattle.std.proofs.Math.Nat.{dvd-mul_left, div-mul_cancel, mod-eq_of_lt}
use Rattle.c_base.specs.Integers.{residue}
use Rattle.c_base.specs.Operators.{floor}
use Rattle.ival_core.specs.declared.value.Ival.{Ival}
use Rattle.ival_core.specs.declared.value.Progression.{Progression}
use Rattle.ival_core.specs.declared.value.Shape.{Shape}
use Rattle.ival_core.specs.declared.value.Shape.TheVariants.{Few, Many}
use Rattle.ival_core.specs.Sets.{Has, IsNumber, IsLongRun, IsValid, Steps}
use Rattle.ival_core.specs.Ivals.{Holds}
use Rattle.ival_core.specs.Views.{single_of}
use Rattle.ival_core.proofs.Insertion.{AllNumbers-among, Holds-number}
use Rattle.ival_core.proofs.Runs.{Steps-low}
use Rattle.ival_arith.specs.Floors.{floored, run_floored}
use Rattle.ival_arith.specs.declared.pieces.Change.TheVariants.{Times}
use Rattle.ival_arith.specs.Pieces.{gathered, all_changed}
use Rattle.ival_arith.specs.Sums.{sums}
use Rattle.ival_arith.specs.Values.{residues}
use Rattle.ival_arith.proofs.Adding.{at_first}
use Rattle.ival_arith.proofs.Fits.{gathered-exactly}
use Rattle.ival_arith.proofs.Flooring.{floor_further, floor_number, floor_order, floored-covers, step_some}
use Rattle.ival_arith.proofs.Parts.{Image, at_place, map-among, map-numbers, run-exactly}
use Rattle.ival_arith.proofs.Reducing.{residues-fits}
use Rattle.ival_arith.proofs.Singling.{fits_single, single_shape}
use Rattle.ival_arith.proofs.Words.{powers}
use Rattle.ival_bits.specs.Parts.{part, glued, extracted, concatenated}
use Rattle.ival_bits.proofs.PartSets.{concat_single, gathered_single, residues_single, rests, shape_only}
use Rattle.ival_plain.proofs.Sound.{part_tops, high_of}
use Rattle.avalue_base.specs.Numbers.{rest_in, part_of, concat_of}
use Rattle.avalue_base.proofs.Sets.{concat_held}
use Rattle.avalue_base.proofs.Rests.{rest_held, rest_plus, rest_minus}
use Rattle.avalue_base.proofs.Slices.{residue_part}

same_part : (k low n : ℕ) (x y : ℤ) → low + n ≤ k → residue (2 ^ k) x ≡ residue (2 ^ k) y → residue (2 ^ n) (floor x (2 ^ low)) ≡ residue (2 ^ n) (floor y (2 ^ low))
same_part k low n x y h e = residue_part x low n k h ∙ ap (λ r. r / 2 ^ low % 2 ^ n) e ∙ sym (residue_part y low n k h)

-- a number of a divided set is one that leaves the same, divided
record Divided (k low r : ℕ) (m : ℤ) : Type 0 where
  from : ℤ
  rest : residue (2 ^ k) from ≡ r
  is : m ≡ floor from (2 ^ low)

low_divides : (low k : ℕ) → low ≤ k → 2 ^ low ∣ 2 ^ k
low_divides low k h =
    let s : k - low + low ≡ k = omega arith in
    subst (λ z. 2 ^ low ∣ z) (sym (pow-add 2 (k - low) low) ∙ ap (λ z. 2 ^ z) s) (dvd-mul_left (2 ^ low) (2 ^ (k - low)))

-- numbers of a run that all leave the same stand so far apart
stride_divided : (k : ℕ) (p : Progression) (r : ℕ) → IsLongRun p → ((n : ℤ) → Steps p n → residue (2 ^ k) n ≡ r) → 2 ^ k ∣ p.stride
stride_divided k p r l f =
    let a = f (p.low +ℤ pos (0 * p.stride)) (at_first p l 0 (omega arith)) in
    let b = f (p.low +ℤ pos (1 * p.stride)) (at_first p l 1 (omega arith)) in
    let e : residue (2 ^ k) (pos (0 * p.stride)) ≡ residue (2 ^ k) (pos (1 * p.stride)) =
    rest_minus (2 ^ k) p.low (pos (0 * p.stride)) (pos (1 * p.stride)) (pow_pos k) (a ∙ sym b) in
    let z : 0 * p.stride % 2 ^ k ≡ 0 = nothing (2 ^ k) p.stride (pow_pos k) in
    let o : 1 * p.stride ≡ p.stride = omega arith in
    dvd_of_mod-eq-zero (2 ^ k) (ap (λ x. x % 2 ^ k) (sym o) ∙ sym e ∙ z)
  where
    nothing : (m s : ℕ) → 0 < m → 0 * s % m ≡ 0
    nothing m s h = let o : 0 * s ≡ 0 = omega arith in ap (λ x. x % m) o ∙ mod-eq_of_lt h

run_divided : (k low : ℕ) (p : Progression) (r : ℕ) → low ≤ k → IsLongRun p → ((n : ℤ) → Steps p n → residue (2 ^ k) n ≡ r) → (m : ℤ) → Has (run_floored (2 ^ low) p) m → Divided k low r m
run_divided k low p r h l f m a =
    let wide = stride_divided k p r l f in
    let d = dvd_trans (2 ^ low) (low_divides low k h) wide in
    let lo : p.low ≤ℤ p.high = (Steps-low p l).below in
    let step = cond (p.stride % 2 ^ low == 0) (p.stride / 2 ^ low) 1 in
    let x = run-exactly (floor p.low (2 ^ low)) (floor p.high (2 ^ low)) step (floor_number p.low (2 ^ low) l.first) (floor_number p.high (2 ^ low) l.last) (floor_order p.low p.high (2 ^ low) (pow_pos low) lo) (step_some p.stride (2 ^ low) l.moves (pow_pos low)) in
    let q = at_place (record { low = floor p.low (2 ^ low); high = floor p.high (2 ^ low); stride = step }) m (x.only m a) in
    let e : step ≡ p.stride / 2 ^ low = ap (λ b. cond b (p.stride / 2 ^ low) 1) (eq-eqb (p.stride % 2 ^ low) 0 (mod-eq-zero_of_dvd (2 ^ low) d)) in
    let s : p.stride / 2 ^ low * 2 ^ low ≡ p.stride = div-mul_cancel (2 ^ low) d in
    let n = q.0 * (p.stride / 2 ^ low * 2 ^ low) in
    let many : 2 ^ k ∣ n = subst (λ z. 2 ^ k ∣ q.0 * z) (sym s) (dvd_trans (2 ^ k) wide (dvd-mul_left p.stride q.0)) in
    record {
      from = p.low +ℤ pos n;
      rest = rest_plus (2 ^ k) p.low (pos n) (pos 0) (pow_pos k) (mod-eq-zero_of_dvd (2 ^ k) many ∙ sym (mod-eq_of_lt (pow_pos k))) ∙ ap (residue (2 ^ k)) (plus_none p.low) ∙ f p.low (Steps-low p l);
      is = q.1 ∙ ap (λ z. floor p.low (2 ^ low) +ℤ pos (q.0 * z)) e ∙ sym (floor_further p.low q.0 (p.stride / 2 ^ low) (2 ^ low) (pow_pos low));
    }
  where
    plus_none : (x : ℤ) → x +ℤ pos 0 ≡ x
    plus_none x = omega (arith, ints)

divided : (k low : ℕ) (s : Shape) (r : ℕ) → low ≤ k → IsValid s → ((n : ℤ) → Has s n → residue (2 ^ k) n ≡ r) → (m : ℤ) → Has (floored (2 ^ low) s) m → Divided k low r m
unfolding floored
divided k low (Few v) r h l f m a =
    let numbers = map-numbers (λ n. floor n (2 ^ low)) v.items (λ n i. floor_number n (2 ^ low) (AllNumbers-among v.items l.numbers n i)) in
    let g = gathered-exactly (map (λ n. floor n (2 ^ low)) v.items) numbers (subst (λ z. z ≤ 8) (sym (length-map v.items (λ n. floor n (2 ^ low)))) l.small) in
    let i = map-among (λ n. floor n (2 ^ low)) v.items m (g.only m a) in
    record { from = i.from; rest = f i.from i.has; is = i.is }
divided k low (Many p) r h l f m a = run_divided k low p r h l f m a

-- a part of all numbers is one
extract_rest : (k low n : ℕ) (v : Ival) (r : ℕ) (z : ℤ) → low + n ≤ k → k ≤ 64 → rest_in k v.shape ≡ Some r → Holds v z → extracted low n v.shape ≡ Few (record { items = part low n z ∷ [] })
unfolding extracted
extract_rest k low n v r z h few e i =
    let c = floored-covers (2 ^ low) v.shape (pow_pos low) v.valid in
    let f = residues-fits (2 ^ n) (floored (2 ^ low) v.shape) (pow_pos n) (powers n (omega arith)) c.valid in
    fits_single (Image (Has (floored (2 ^ low) v.shape)) (λ m. pos (residue (2 ^ n) m))) (residues (2 ^ n) (floored (2 ^ low) v.shape)) (part low n z) f
    (record { from = floor z (2 ^ low); has = c.holds (floor z (2 ^ low)) (record { from = z; has = i; is = refl }); is = refl })
    (λ m j.
    let w = divided k low v.shape r (omega arith) v.valid (λ x a. rest_held k v r x few e a) j.from j.has in
    j.is ∙ ap (λ (q : ℤ). pos (residue (2 ^ n) q)) w.is ∙ ap pos (same_part k low n w.from z h (w.rest ∙ sym (rest_held k v r z few e i))))

pub part_rest : (k low n : ℕ) (v : Ival) (r : ℕ) (z : ℤ) → low + n ≤ k → k ≤ 64 → rest_in k v.shape ≡ Some r → Holds v z → single_of (part_of low n v).shape ≡ Some (part low n z)
unfolding part_of
part_rest k low n v r z h few e i =
    let m : min n 64 ≡ n = omega arith in
    ap single_of (extract_rest k low (min n 64) v r z (omega arith) few e i) ∙ ap (λ q. Some (part low q z)) m

-- one number
one : (a : ℤ) → IsNumber a → Ival
one a n = record { shape = gathered (a ∷ []); valid = (gathered-exactly (a ∷ []) (n, tt) (omega arith)).valid }

-- what two such sets give is one number too
pub concat_rest : (j k : ℕ) (v w : Ival) (r s : ℕ) (a b : ℤ) → j + k ≤ 64 → 0 < k → rest_in j v.shape ≡ Some r → rest_in k w.shape ≡ Some s → Holds v a → Holds w b →
    single_of (concat_of j v k w).shape ≡ Some (glued j a (pos (residue (2 ^ k) b)))
unfolding concat_of one concatenated
concat_rest j k v w r s a b h p e f x y =
    let n = min k (64 - min j 64) in
    let few : min j 64 ≤ 64 = omega arith in
    let top = high_of j k w in
    let low : min j 64 ≡ 64 → ⊥ = λ q. absurd (omega arith) in
    let number = Holds-number v a x in
    let single = gathered_single a number in
    let own : residues (2 ^ min j 64) v.shape ≡ Few (record { items = pos (residue (2 ^ min j 64) a) ∷ [] }) =
    fits_single (Image (Holds v) (λ z. pos (residue (2 ^ min j 64) z))) (residues (2 ^ min j 64) v.shape) (pos (residue (2 ^ min j 64) a)) (rests (min j 64) v few)
    (record { from = a; has = x; is = refl }) (λ z i. i.is ∙ ap pos (same (min j 64) (omega arith) i.from i.has)) in
    let other = ap (residues (2 ^ min j 64)) single ∙ residues_single (2 ^ min j 64) a (pow_pos (min j 64)) (powers (min j 64) few) in
    let t = concat_single (min j 64) (one a number) top (concat_of j v k w) (part_tops j k w top refl) low (again (min j 64) v.shape (gathered (a ∷ [])) top.shape (own ∙ sym other)) a (part 0 n b)
    (shape_only (one a number) a single) (shape_only top (part 0 n b) (extract_rest k 0 n w s b (omega arith) (omega arith) f y)) in
    let held = concat_held j k v w a b h p x y in
    let is = (t (glued j a (pos (residue (2 ^ k) b)))).0 held in
    ap single_of (single_shape (concat_of j v k w).shape (glued (min j 64) a (part 0 n b)) (concat_of j v k w).valid t) ∙ ap Some (sym is)
  where
    same : (i : ℕ) → i ≡ j → (z : ℤ) → Holds v z → residue (2 ^ i) z ≡ residue (2 ^ i) a
    same i q z m = let few : j ≤ 64 = omega arith in subst (λ c. residue (2 ^ c) z ≡ residue (2 ^ c) a) (sym q) (rest_held j v r z few e m ∙ sym (rest_held j v r a few e x))

    again : (i : ℕ) (c d t : Shape) → residues (2 ^ i) c ≡ residues (2 ^ i) d → concatenated i c t ≡ concatenated i d t
    again i c d t q = ap (λ u. cond (i == 64) u (sums (neg_ℤ (pos (2 ^ 120))) (pos (2 ^ 120)) (all_changed (Times (2 ^ i)) t) u)) q
