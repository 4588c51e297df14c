-- Numbers modulo m.
use Rattle.std.proofs.Common.{◌≡◌, ℕ, ◌+◌, ◌*◌, ◌/◌, ◌%◌, ◌<◌, ◌≤◌, ◌^◌, ℤ, pos, negsuc, ◌+ℤ◌, map, refl, sym, subst, ap, ◌∙◌, arith}
use Rattle.std.specs.Prelude.{◌*ℤ◌}
use Rattle.std.proofs.lemmas.Int.{ints}
use Rattle.std.proofs.lemmas.Nat.{mul-le, mul-mod_second}
use Rattle.std.proofs.Math.Nat.{add-mod-mod, le_of_mul-le-mul_right, div-mul_cancel, mod-eq_of_lt}
use lib.Signed.{◌<ℤ◌, ◌≤ℤ◌}
use Rattle.c_base.specs.Integers.{residue}
use Rattle.c_base.proofs.Residues.{residue_same, residue_differs, residue_below}
use Rattle.ival_core.specs.declared.value.Progression.{Progression}
use Rattle.ival_core.specs.declared.value.Shape.{Shape}
use Rattle.ival_core.specs.declared.value.Shape.TheVariants.{Few, Many}
use Rattle.ival_core.specs.Sets.{apart, Among, IsNumber, IsLongRun, IsValid, Has, Steps}
use Rattle.ival_core.proofs.Distances.{apart_is}
use Rattle.ival_core.proofs.Runs.{Steps-low, Steps-high}
use Rattle.ival_core.proofs.Joined.{Makes}
use Rattle.ival_arith.specs.Pieces.{gathered, run_residues}
use Rattle.ival_arith.specs.Values.{residues}
use Rattle.ival_arith.proofs.Fits.{Fits, Fits-same, Makes-fits, Makes-same}
use Rattle.ival_arith.proofs.Parts.{Image, mapped-makes, at_place, from_place}
use Rattle.ival_arith.proofs.Cycles.{after, Left, cycle-fits, cycle-makes}

-- a residue some steps further
pub residue-further : (m : ℕ) (a : ℤ) (k : ℕ) → 0 < m → residue m (a +ℤ pos k) ≡ (residue m a + k) % m
residue-further m a k h =
    let d = residue_differs m a h in
    residue_same m (a +ℤ pos k) (pos (residue m a + k)) h (record { times = d.times; is = by_parts a (residue m a) k d.times (pos m) d.is })
  where
    by_parts : (a : ℤ) (r k : ℕ) (t m : ℤ) → a ≡ pos r +ℤ t *ℤ m → a +ℤ pos k ≡ pos (r + k) +ℤ t *ℤ m
    by_parts a r k t m e = omega (arith, ints)

pub after_is : (m : ℕ) (a : ℤ) (stride j : ℕ) → 0 < m → after m (residue m a) (stride % m) j ≡ residue m (a +ℤ pos (j * stride))
after_is m a stride j h =
    sym (add-mod-mod (residue m a) (j * (stride % m)) m) ∙ ap (λ x. (residue m a + x) % m) (mul-mod_second j stride m) ∙ add-mod-mod (residue m a) (j * stride) m ∙ sym (residue-further m a (j * stride) h)

-- how many steps a long run has
pub record Long (p : Progression) : Type 0 where
  pub more : 8 ≤ apart p.low p.high / p.stride
  pub last : (j : ℕ) → (p.low +ℤ pos (j * p.stride)) ≤ℤ p.high → j ≤ apart p.low p.high / p.stride
  pub inside : (j : ℕ) → j ≤ apart p.low p.high / p.stride → (p.low +ℤ pos (j * p.stride)) ≤ℤ p.high

pub long : (p : Progression) → IsLongRun p → Long p
long p l =
    let n = apart p.low p.high / p.stride in
    let a = l.long in
    let e : p.high ≡ p.low +ℤ pos (apart p.low p.high) = apart_is p.low p.high (omega (arith, ints)) in
    let w : n * p.stride ≡ apart p.low p.high = div-mul_cancel p.stride (let s = Steps-high p l in s.meets) in
    record {
      more = le_of_mul-le-mul_right (omega (arith, ints)) l.moves;
      last = λ j h. le_of_mul-le-mul_right (below p.low p.high (apart p.low p.high) j n p.stride e w h) l.moves;
      inside = λ j h. above p.low p.high (apart p.low p.high) j n p.stride e w h;
    }
  where
    below : (low high : ℤ) (d j n s : ℕ) → high ≡ low +ℤ pos d → n * s ≡ d → (low +ℤ pos (j * s)) ≤ℤ high → j * s ≤ n * s
    below low high d j n s e w h = omega (arith, ints)

    above : (low high : ℤ) (d j n s : ℕ) → high ≡ low +ℤ pos d → n * s ≡ d → j ≤ n → (low +ℤ pos (j * s)) ≤ℤ high
    above low high d j n s e w h = let k : j * s ≤ n * s = mul-le j s n s h (omega arith) in omega (arith, ints)

pub run_residues-fits : (m : ℕ) (p : Progression) → 0 < m → m ≤ 2 ^ 64 → IsLongRun p → Fits (Image (Steps p) (λ n. pos (residue m n))) (run_residues m p)
run_residues-fits m p h k l =
    let g = long p l in
    let n = apart p.low p.high / p.stride in
    Fits-same (Left m (residue m p.low) (p.stride % m) n) (Image (Steps p) (λ n. pos (residue m n))) (run_residues m p)
    (λ r q. record {
      from = p.low +ℤ pos (q.steps * p.stride);
      has = from_place p (p.low +ℤ pos (q.steps * p.stride)) q.steps refl (g.inside q.steps q.within);
      is = q.is ∙ ap pos (after_is m p.low p.stride q.steps h);
    })
    (λ r i.
    let q = at_place p i.from i.has in
    record {
      steps = q.0;
      within = g.last q.0 (subst (λ z. z ≤ℤ p.high) q.1 i.has.below);
      is = i.is ∙ ap (λ z. pos (residue m z)) q.1 ∙ ap pos (sym (after_is m p.low p.stride q.0 h));
    })
    (cycle-fits m (residue m p.low) (p.stride % m) n h k g.more)

pub residue_number : (m : ℕ) (n : ℤ) → 0 < m → m ≤ 2 ^ 64 → IsNumber (pos (residue m n))
residue_number m n h k = let b = residue_below m n h in record { least = omega (arith, ints); greatest = omega (arith, ints) }

pub residues-fits : (m : ℕ) (s : Shape) → 0 < m → m ≤ 2 ^ 64 → IsValid s → Fits (Image (Has s) (λ n. pos (residue m n))) (residues m s)
unfolding residues
residues-fits m (Few v) h k l =
    Makes-fits (Image (Among v.items) (λ n. pos (residue m n))) (gathered (map (λ n. pos (residue m n)) v.items)) (mapped-makes (λ n. pos (residue m n)) v.items (λ n i. residue_number m n h k))
residues-fits m (Many p) h k l = run_residues-fits m p h k l

-- numbers from 0 to m - 1 stay as they are
pub record Natural (m : ℕ) (s : Shape) : Type 0 where
  pub above : (n : ℤ) → Has s n → pos 0 ≤ℤ n
  pub below : (n : ℤ) → Has s n → n <ℤ pos m

pub own_residue : (m : ℕ) (n : ℤ) → pos 0 ≤ℤ n → n <ℤ pos m → pos (residue m n) ≡ n
own_residue m (pos k) h l = let a : k < m = omega (arith, ints) in ap pos (mod-eq_of_lt a)
own_residue m (negsuc k) h l = absurd (omega (arith, ints))

images : (m : ℕ) (P : ℤ → Type 0) (n : ℤ) → ((n : ℤ) → P n → pos 0 ≤ℤ n) → ((n : ℤ) → P n → n <ℤ pos m) → Image P (λ n. pos (residue m n)) n → P n
images m P n a b i = subst P (sym (i.is ∙ own_residue m i.from (a i.from i.has) (b i.from i.has))) i.has

back_images : (m : ℕ) (P : ℤ → Type 0) (n : ℤ) → ((n : ℤ) → P n → pos 0 ≤ℤ n) → ((n : ℤ) → P n → n <ℤ pos m) → P n → Image P (λ n. pos (residue m n)) n
back_images m P n a b h = record { from = n; has = h; is = sym (own_residue m n (a n h) (b n h)) }

pub residues-own : (m : ℕ) (s : Shape) → 0 < m → m ≤ 2 ^ 64 → IsValid s → Natural m s → Makes (Has s) (residues m s)
unfolding residues
residues-own m (Few v) h k l n =
    Makes-same (Image (Among v.items) (λ n. pos (residue m n))) (Among v.items) (gathered (map (λ n. pos (residue m n)) v.items))
    (λ z i. images m (Among v.items) z n.above n.below i) (λ z i. back_images m (Among v.items) z n.above n.below i)
    (mapped-makes (λ n. pos (residue m n)) v.items (λ n i. residue_number m n h k))
residues-own m (Many p) h k l n =
    let g = long p l in
    let more = apart p.low p.high / p.stride in
    let lo = Steps-low p l in
    let hi = Steps-high p l in
    let a : pos (residue m p.low) ≡ p.low = own_residue m p.low (n.above p.low lo) (n.below p.low lo) in
    let b = n.below p.high hi in
    let c = n.above p.low lo in
    let o = l.long in
    let i : p.high ≡ p.low +ℤ pos (apart p.low p.high) = apart_is p.low p.high (omega (arith, ints)) in
    let w : more * p.stride ≡ apart p.low p.high = div-mul_cancel p.stride hi.meets in
    let st : p.stride < m = omega (arith, ints) in
    let e : p.stride % m ≡ p.stride = mod-eq_of_lt st in
    let f : residue m p.low + more * (p.stride % m) < m = small p.low p.high (residue m p.low) (apart p.low p.high) (more * (p.stride % m)) m a i (ap (λ x. more * x) e ∙ w) b in
    Makes-same (Left m (residue m p.low) (p.stride % m) more) (Steps p) (run_residues m p)
    (λ r q. images m (Steps p) r n.above n.below (record {
      from = p.low +ℤ pos (q.steps * p.stride);
      has = from_place p (p.low +ℤ pos (q.steps * p.stride)) q.steps refl (g.inside q.steps q.within);
      is = q.is ∙ ap pos (after_is m p.low p.stride q.steps h);
    }))
    (λ r t.
    let q = at_place p r t in
    let x = back_images m (Steps p) r n.above n.below t in
    record {
      steps = q.0;
      within = g.last q.0 (subst (λ z. z ≤ℤ p.high) q.1 t.below);
      is = x.is ∙ ap (λ z. pos (residue m z)) (from_same m (Steps p) r n.above n.below x) ∙ ap (λ z. pos (residue m z)) q.1 ∙ ap pos (sym (after_is m p.low p.stride q.0 h));
    })
    (cycle-makes m (residue m p.low) (p.stride % m) more h k g.more f)
  where
    small : (low high : ℤ) (r d k m : ℕ) → pos r ≡ low → high ≡ low +ℤ pos d → k ≡ d → high <ℤ pos m → r + k < m
    small low high r d k m a i w b = omega (arith, ints)

    from_same : (m : ℕ) (P : ℤ → Type 0) (n : ℤ) → ((n : ℤ) → P n → pos 0 ≤ℤ n) → ((n : ℤ) → P n → n <ℤ pos m) → (x : Image P (λ n. pos (residue m n)) n) → x.from ≡ n
    from_same m P n a b x = sym (x.is ∙ own_residue m x.from (a x.from x.has) (b x.from x.has))
