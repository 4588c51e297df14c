-- Places that come again and again.
use Rattle.std.proofs.Common.{◌≡◌, ℕ, zero, suc, ◌+◌, ◌-◌, ◌*◌, ◌<◌, ◌≤◌, ◌^◌, List, ◌++◌, length, take, drop, refl, sym, ap, ◌∙◌, subst, arith, append-nil, get_or, length-take, length-drop}
use Rattle.std.specs.Prelude.{replicate, min, ◌/◌, ◌%◌}
use Rattle.std.proofs.Math.Nat.{mul-le-mul_left, mul-le-mul_right, le_of_mul-le-mul_right}
use Rattle.std.proofs.lemmas.Nat.{mod-mul-add}
use Rattle.std.proofs.lemmas.List.{drop-drop, drop_at, take_at, take-take, drop-take, take-append-drop, drop-append-le, take-append-le, length-append, replicate-append-replicate}
use Rattle.cell_laws.specs.Elements.{Element, Place, places}
use Rattle.cell_laws.proofs.Places.{length-places}
use Rattle.cell_laws.proofs.Cuts.{places-append}
use Rattle.cell_laws.proofs.Stretches.{width-replicate}
use Rattle.cell_runs.specs.declared.runs.Run.{Run}
use Rattle.cell_runs.specs.Runs.{element_of}
use Rattle.cell_runs.proofs.Portions.{divides}
use Rattle.run_places.specs.declared.spots.Spot.{Spot}
use Rattle.run_places.specs.declared.spots.Front.{Front}
use Rattle.run_places.specs.Spots.{ahead, IsSpot, IsFront}
use Rattle.run_places.specs.Chunks.{times, IsPeriod, IsChunk}
use Rattle.run_places.proofs.Ahead.{run_places, length-run, spot_in}
use Rattle.run_places.proofs.Passing.{in_range, front_is, next_length}

-- the list goes on as it began m items before
abbrev pub Periodic : {A : Type 0} → ℕ → List A → Type 0
Periodic m xs = drop m xs ≡ take (length xs - m) xs

module _ {A : Type 0} where
  pub take-plus : (m k : ℕ) (xs : List A) → take (m + k) xs ≡ take m xs ++ take k (drop m xs)
  take-plus m k xs =
      sym (take-append-drop m (take (m + k) xs)) ∙ ap (λ (l : List A). l ++ drop m (take (m + k) xs)) (take-take m (m + k) xs (omega arith))
      ∙ ap (λ (l : List A). take m xs ++ l) (drop-take m k xs)

  pub length-times : (t : ℕ) (l : List A) → length (times t l) ≡ t * length l
  unfolding times
  length-times zero l = omega arith
  length-times (suc t) l =
      let a = length-append l (times t l) in
      let r = length-times t l in
      let s : suc t * length l ≡ length l + t * length l = omega arith in
      omega arith

  periods : (t m : ℕ) (xs : List A) → Periodic m xs → t * m ≤ length xs → take (t * m) xs ≡ times t (take m xs)
  unfolding times
  periods zero m xs p h = let z : zero * m ≡ zero = omega arith in ap (λ (k : ℕ). take k xs) z
  periods (suc t) m xs p h =
      let s : suc t * m ≡ m + t * m = omega arith in
      ap (λ (k : ℕ). take k xs) s ∙ take-plus m (t * m) xs
      ∙ ap (λ (l : List A). take m xs ++ l)
      (ap (take (t * m)) p ∙ take-take (t * m) (length xs - m) xs (omega arith) ∙ periods t m xs p (omega arith))

module _ {C : Type 0} where
  abbrev copies : ℕ → Element C → List (Place C)
  copies n e = places (replicate n e)

  length-copies : (n : ℕ) (e : Element C) → length (copies n e) ≡ n * e.bits
  length-copies n e = length-places (replicate n e) ∙ width-replicate n e

  copies-both : (n m : ℕ) (e : Element C) → copies (n + m) e ≡ copies n e ++ copies m e
  copies-both n m e = ap places (sym (replicate-append-replicate n m e)) ∙ places-append (replicate n e) (replicate m e)

  periodic : (n j s : ℕ) (e : Element C) → s ≤ n * e.bits → Periodic (j * e.bits) (drop s (copies (n + j) e))
  periodic n j s e h =
      let la = length-copies n e in
      let lx = length-copies (n + j) e in
      let c : n + j ≡ j + n = omega arith in
      let i : s + j * e.bits ≡ j * e.bits + s = omega arith in
      let m : (n + j) * e.bits ≡ n * e.bits + j * e.bits = omega arith in
      let front : drop s (copies (n + j) e) ≡ drop s (copies n e) ++ copies j e =
      ap (drop s) (copies-both n j e) ∙ drop-append-le s (copies n e) (copies j e) (omega arith) in
      let turned : copies (n + j) e ≡ copies j e ++ copies n e = ap (λ (k : ℕ). copies k e) c ∙ copies-both j n e in
      let left : drop (j * e.bits) (drop s (copies (n + j) e)) ≡ drop s (copies n e) =
      drop-drop (j * e.bits) s (copies (n + j) e) ∙ ap (λ (k : ℕ). drop k (copies (n + j) e)) i ∙ sym (drop-drop s (j * e.bits) (copies (n + j) e))
      ∙ ap (λ (l : List (Place C)). drop s (drop (j * e.bits) l)) turned ∙ ap (drop s) (drop_at (copies j e) (copies n e) (j * e.bits) (length-copies j e)) in
      let w : length (drop s (copies n e)) ≡ length (drop s (copies (n + j) e)) - j * e.bits = simp length-drop (omega arith) in
      left
      ∙ sym (ap (take (length (drop s (copies (n + j) e)) - j * e.bits)) front
      ∙ take_at (drop s (copies n e)) (copies j e) (length (drop s (copies (n + j) e)) - j * e.bits) w)

  -- from a bit of a run on, its places come again after a multiple of its elements' bits
  run_periodic : (r : Run C) (skip wide : ℕ) → 0 < r.bits → wide % r.bits ≡ 0 → skip + wide ≤ r.bits * r.count → Periodic wide (drop skip (run_places r))
  run_periodic r skip wide b z h =
      let j = wide / r.bits in
      let d = divides wide r.bits b in
      let s = d.sum in
      let w : j * r.bits ≡ wide = omega arith in
      let turn : r.bits * r.count ≡ r.count * r.bits = omega arith in
      let fits : j ≤ r.count = le_of_mul-le-mul_right {m = j} {n = r.count} {k = r.bits} (omega arith) b in
      let n = r.count - j in
      let both : n + j ≡ r.count = omega arith in
      let sum : (n + j) * r.bits ≡ n * r.bits + j * r.bits = omega arith in
      let parts : n * r.bits + j * r.bits ≡ r.count * r.bits = sym sum ∙ ap (λ (k : ℕ). k * r.bits) both in
      let p = periodic n j skip (element_of r) (omega arith) in
      subst (λ (k : ℕ). Periodic wide (drop skip (copies k (element_of r)))) both
      (subst (λ (k : ℕ). Periodic k (drop skip (copies (n + j) (element_of r)))) w p)

  run_repeats : (r : Run C) (skip wide t : ℕ) → 0 < r.bits → wide % r.bits ≡ 0 → skip + t * wide ≤ r.bits * r.count →
      take (t * wide) (drop skip (run_places r)) ≡ times t (take wide (drop skip (run_places r)))
  unfolding times
  run_repeats r skip wide zero b z h = let n : zero * wide ≡ zero = omega arith in ap (λ (k : ℕ). take k (drop skip (run_places r))) n
  run_repeats r skip wide (suc t) b z h =
      let s : suc t * wide ≡ wide + t * wide = omega arith in
      let l = length-run r in
      let p = run_periodic r skip wide b z (omega arith) in
      let w : suc t * wide ≤ length (drop skip (run_places r)) = simp length-drop (omega arith) in
      periods (suc t) wide (drop skip (run_places r)) p w

pub whole_times : (rest wide n : ℕ) → n ≤ rest / wide → n * wide ≤ rest
whole_times rest wide n h = let m = mul-le-mul_left wide h in let d : wide * (rest / wide) ≤ rest = grind arith in omega arith

one_of : (t wide : ℕ) → (t ≡ 0 → ⊥) → wide ≤ t * wide
one_of zero wide h = absurd (h refl)
one_of (suc t) wide h = let s : suc t * wide ≡ wide + t * wide = omega arith in omega arith

pub least_chunk : (size t left : ℕ) → 0 < t → size * t ≤ left → size ≤ left
least_chunk size t left p h = let m : size * 1 ≤ size * t = mul-le-mul_left size p in let one : size * 1 ≡ size = omega arith in omega arith

pub period_found : (whole bits n : ℕ) → 0 < n → n ≤ whole → n * bits % whole ≡ 0 → IsPeriod whole bits n
period_found whole bits n p h z = record { some = p; few = h; multiple = z }

pub period_whole : (whole bits n : ℕ) → 0 < whole → whole ≤ n → n ≤ whole → IsPeriod whole bits n
period_whole whole bits n p h l =
    let e : whole ≡ n = omega arith in
    let m : bits * whole + 0 ≡ whole * bits = omega arith in
    subst (IsPeriod whole bits) e (record { some = p; few = omega arith; multiple = sym (ap (λ (k : ℕ). k % whole) m) ∙ mod-mul-add bits whole 0 p })

pub period_small : (whole bits n : ℕ) → n ≤ whole → whole * bits < 2 ^ 64 → n * bits < 2 ^ 64
period_small whole bits n h s = let m = mul-le-mul_right bits h in omega arith

pub few_small : (a b : ℕ) → a ≤ 64 → b ≤ 64 → a * b < 2 ^ 64
few_small a b h l = let m = mul-le-mul_right b h in omega arith

pub chunk_wide : (size bits : ℕ) → 0 < size → 0 < bits → 0 < size * bits
chunk_wide zero bits p q = absurd (omega arith)
chunk_wide (suc n) bits p q = let m : suc n * bits ≡ bits + n * bits = omega arith in omega arith

pub chunk_enough : (bits left m : ℕ) → 0 < left → left * bits ≤ m → bits ≤ m
chunk_enough bits zero m p h = absurd (omega arith)
chunk_enough bits (suc n) m p h = let s : suc n * bits ≡ bits + n * bits = omega arith in omega arith

pub chunk_fits : (left size rest wide t : ℕ) → t ≡ min (left / size) (rest / wide) → t * wide ≤ rest
chunk_fits left size rest wide t e = whole_times rest wide t (omega arith)

module _ {C : Type 0} where
  pub chunk_one : (rs : List (Run C)) (s next : Spot) (bits left : ℕ) → 0 < left → left * bits ≤ length (ahead rs s) → ahead rs next ≡ drop bits (ahead rs s) → IsSpot rs next →
      IsChunk rs s bits left (record { size = 1; repeats = 1; next = next })
  unfolding times
  chunk_one rs s next bits zero h l d q = absurd (omega arith)
  chunk_one rs s next bits (suc n) h l d q =
      let m : suc n * bits ≡ bits + n * bits = omega arith in
      let one : 1 * bits ≡ bits = omega arith in
      record {
        some = omega arith;
        again = omega arith;
        most = omega arith;
        enough = omega arith;
        same = sym (take-append-drop bits (ahead rs s)) ∙ ap (λ (l : List (Place C)). take bits (ahead rs s) ++ l) (sym d)
            ∙ ap (λ (k : ℕ). take k (ahead rs s) ++ ahead rs next) (sym one) ∙ ap (λ (l : List (Place C)). l ++ ahead rs next) (sym (append-nil (take (1 * bits) (ahead rs s))));
        next = q;
      }

  pub chunk_inside : (rs : List (Run C)) (s : Spot) (bits left : ℕ) → 0 < bits → 0 < left → left * bits ≤ length (ahead rs s) → s.index < length rs
  chunk_inside rs s bits left p q h = let w = chunk_wide left bits q p in in_range rs s (omega arith)

  pub chunk_many : (rs : List (Run C)) (s : Spot) (bits left size wide rest t : ℕ) (r : Run C) (f : Front) → s.index < length rs → r ≡ get_or rs s.index r → 0 < r.bits → IsSpot rs s → 0 < bits →
      IsPeriod r.bits bits size → wide ≡ size * bits → rest ≡ r.bits * r.count - s.skip → t ≡ min (left / size) (rest / wide) → (t ≡ 0 → ⊥) → IsFront rs s (t * wide) f →
      IsChunk rs s bits left (record { size = size; repeats = t; next = f.next })
  chunk_many rs s bits left size wide rest t r f h e b q p i v u m z x =
      let inside = spot_in rs s r h e q in
      let one = front_is rs s (t * wide) f x r h e in
      let fits = chunk_fits left size rest wide t m in
      let most = whole_times left size t (omega arith) in
      let turn : t * size ≡ size * t = omega arith in
      let least = one_of t wide z in
      let count = x.count in
      let bits_one : x.run.bits * x.run.count ≡ r.bits * r.count = ap (λ (y : Run C). y.bits * y.count) one in
      let c : f.count ≡ t * wide = omega arith in
      let front = drop s.skip (run_places r) in
      let l = length-run r in
      let n : length front ≡ r.bits * r.count - s.skip = simp length-drop (omega arith) in
      let split : ahead rs s ≡ take (t * wide) front ++ ahead rs f.next =
      x.split ∙ ap (λ (k : ℕ). take k (drop s.skip (run_places x.run)) ++ ahead rs f.next) c
      ∙ ap (λ (y : Run C). take (t * wide) (drop s.skip (run_places y)) ++ ahead rs f.next) one in
      let zero_rest : wide % r.bits ≡ 0 = ap (λ (k : ℕ). k % r.bits) v ∙ i.multiple in
      let again = run_repeats r s.skip wide t b zero_rest (omega arith) in
      let w : length (take (t * wide) front) ≡ t * wide = simp length-take (omega arith) in
      let first : take wide (ahead rs s) ≡ take wide front =
      ap (take wide) split ∙ take-append-le wide (take (t * wide) front) (ahead rs f.next) (omega arith) ∙ take-take wide (t * wide) front least in
      let long = next_length rs s (t * wide) f x in
      record {
        some = i.some;
        again = positive t z;
        most = omega arith;
        enough = omega arith;
        same = split ∙ ap (λ (y : List (Place C)). y ++ ahead rs f.next) (again ∙ ap (times t) (sym first ∙ ap (λ (k : ℕ). take k (ahead rs s)) v));
        next = x.next;
      }
    where
      positive : (t : ℕ) → (t ≡ 0 → ⊥) → 0 < t
      positive zero h = absurd (h refl)
      positive (suc t) h = omega arith
