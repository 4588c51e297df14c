-- Parts of a run that come again and again.
use Rattle.std.proofs.Common.{◌≡◌, ℕ, zero, suc, ◌+◌, ◌-◌, ◌*◌, ◌<◌, ◌≤◌, List, [], ◌∷◌, ◌++◌, length, drop, refl, sym, ap, ◌∙◌, subst, arith, inl, inr, append-nil, get_or}
use Rattle.std.specs.Prelude.{replicate, min, ◌/◌, ◌==◌, nat_le}
use Rattle.std.proofs.Math.Nat.{mul-le-mul_right, le_of_mul-le-mul_right, mul_comm, mul_assoc}
use Rattle.std.proofs.lemmas.List.{replicate-append-replicate}
use Rattle.std.proofs.lemmas.Bool.{cases_Bool, leb-false}
use Rattle.cell_laws.specs.Elements.{Element, width}
use Rattle.cell_laws.specs.Cells.{Ops}
use Rattle.cell_laws.specs.Access.{take_bits, drop_bits, copied}
use Rattle.cell_laws.proofs.Parts.{AllBits, take_then, take_zero, drop_first, drop_second, width-drop}
use Rattle.cell_laws.proofs.Stretches.{width-replicate}
use Rattle.cell_runs.specs.declared.runs.Run.{Run}
use Rattle.cell_runs.specs.Runs.{element_of, elements, AllSome}
use Rattle.cell_runs.proofs.Portions.{divides}
use Rattle.cell_runs.proofs.Taking.{at_run, elements-first, bits_at}
use Rattle.run_places.specs.declared.spots.Spot.{Spot}
use Rattle.run_places.specs.Spots.{HasBit}
use Rattle.run_places.specs.Chunks.{IsPeriod}
use Rattle.run_places.proofs.Repeating.{whole_times}
use Rattle.run_slots.specs.Walks.{IsAt}
use Rattle.run_slots.specs.Weakens.{ComeAgain}
use Rattle.run_slots.proofs.Walking.{dropped_at}

pub pred_times : (size wide : ℕ) → 0 < size → (size - 1) * wide + wide ≡ size * wide
pred_times zero wide p = absurd (omega arith)
pred_times (suc n) wide p =
    let i : suc n - 1 ≡ n = omega arith in
    let m : n * wide + wide ≡ suc n * wide = omega arith in
    ap (λ (k : ℕ). k * wide + wide) i ∙ m

-- a step that is small beside what is left of a run
pub wide_fits : (bits wide rest : ℕ) → bits ≤ 64 → wide ≤ rest / 64 → bits * wide ≤ rest
wide_fits bits wide rest h l =
    let m : bits * wide ≤ 64 * wide = mul-le-mul_right wide h in
    let w = whole_times rest 64 wide l in
    let t : wide * 64 ≡ 64 * wide = mul_comm wide 64 in
    omega arith

module _ {C H : Type 0} (o : Ops C H) where
  bits_dropped : (es : List (Element C)) (n : ℕ) → AllBits es → AllBits (drop_bits o es n)
  unfolding drop_bits
  bits_dropped [] n b = tt
  bits_dropped (e ∷ es) n b =
      elim (cases_Bool (n == 0)) [
        | inl z ↦ rw z b
        | inr z ↦ elim (cases_Bool (nat_le e.bits n)) [
          | inl l ↦ rw (z, l) (bits_dropped es (n - e.bits) b.1)
          | inr l ↦ let g = leb-false e.bits n l in rw (z, l) (above e.bits n g, b.1)
        ]
      ]
    where
      above : (k n : ℕ) → n < k → 0 < k - n
      above k n h = omega arith

  -- what stands behind has no part in it
  copied_front : (xs ys : List (Element C)) (a k : ℕ) → AllBits xs → a + k ≤ width xs → copied o (xs ++ ys) a k ≡ copied o xs a k
  unfolding copied
  copied_front xs ys a k b h =
      let w = width-drop o xs a (omega arith) in
      let z : k - width (drop_bits o xs a) ≡ 0 = omega arith in
      ap (λ (l : List (Element C)). take_bits o l k) (drop_first o xs ys a b (omega arith))
      ∙ take_then o (drop_bits o xs a) ys k (bits_dropped xs a b)
      ∙ ap (λ (n : ℕ). take_bits o (drop_bits o xs a) k ++ take_bits o ys n) z
      ∙ ap (λ (l : List (Element C)). take_bits o (drop_bits o xs a) k ++ l) (take_zero o ys) ∙ append-nil (take_bits o (drop_bits o xs a) k)

  all_bits : (n : ℕ) (e : Element C) → 0 < e.bits → AllBits (replicate n e)
  all_bits zero e p = tt
  all_bits (suc n) e p = (p, all_bits n e p)

  copied_behind : (q n : ℕ) (e : Element C) (a k : ℕ) → 0 < e.bits → copied o (replicate (q + n) e) (q * e.bits + a) k ≡ copied o (replicate n e) a k
  unfolding copied
  copied_behind q n e a k p =
      let w = width-replicate q e in
      let i : q * e.bits + a - width (replicate q e) ≡ a = omega arith in
      ap (λ (l : List (Element C)). take_bits o (drop_bits o l (q * e.bits + a)) k) (sym (replicate-append-replicate q n e))
      ∙ ap (λ (l : List (Element C)). take_bits o l k) (drop_second o (replicate q e) (replicate n e) (q * e.bits + a) (all_bits q e p) (omega arith) ∙ ap (drop_bits o (replicate n e)) i)

  -- equal elements further on look the same
  copied_again : (q c : ℕ) (e : Element C) (a k : ℕ) → 0 < e.bits → q * e.bits + a + k ≤ c * e.bits → copied o (replicate c e) (q * e.bits + a) k ≡ copied o (replicate c e) a k
  copied_again q c e a k p h =
      let fits : q ≤ c = le_of_mul-le-mul_right {m = q} {n = c} {k = e.bits} (omega arith) p in
      let n = c - q in
      let both : q + n ≡ c = omega arith in
      let turned : n + q ≡ c = omega arith in
      let parts : q * e.bits + n * e.bits ≡ c * e.bits = added q n c e.bits both in
      let w = width-replicate n e in
      ap (λ (m : ℕ). copied o (replicate m e) (q * e.bits + a) k) (sym both) ∙ copied_behind q n e a k p
      ∙ sym (ap (λ (m : ℕ). copied o (replicate m e) a k) (sym turned) ∙ ap (λ (l : List (Element C)). copied o l a k) (sym (replicate-append-replicate n q e))
      ∙ copied_front (replicate n e) (replicate q e) a k (all_bits n e p) (omega arith))
    where
      added : (a b c k : ℕ) → a + b ≡ c → a * k + b * k ≡ c * k
      added a b c k h = let m : (a + b) * k ≡ a * k + b * k = omega arith in sym m ∙ ap (λ (x : ℕ). x * k) h

  -- a part of a run that stands at a spot
  copied_in : (rs : List (Run C)) (at n k : ℕ) (s : Spot) (r : Run C) → AllSome rs → IsAt rs at s → s.index < length rs → r ≡ get_or rs s.index r → s.skip + n + k ≤ r.bits * r.count →
      copied o (elements rs) (at + n) k ≡ copied o (replicate r.count (element_of r)) (s.skip + n) k
  unfolding copied
  copied_in rs at n k s r some a h e l =
      let xs = replicate r.count (element_of r) in
      let w : width xs ≡ r.count * r.bits = width-replicate r.count (element_of r) in
      let t : r.count * r.bits ≡ r.bits * r.count = omega arith in
      let d : elements (drop s.index rs) ≡ xs ++ elements (drop (s.index + 1) rs) = ap elements (at_run rs s.index r h e) ∙ elements-first r (drop (s.index + 1) rs) in
      ap (λ (x : List (Element C)). take_bits o x k) (dropped_at o rs at n s some a ∙ ap (λ (x : List (Element C)). drop_bits o x (s.skip + n)) d)
      ∙ copied_front xs (elements (drop (s.index + 1) rs)) (s.skip + n) k (all_bits r.count (element_of r) (bits_at rs s.index r h e some)) (omega arith)

  pub again_one : (m : List (Element C)) (at wide reach left : ℕ) → 0 < left → ComeAgain o m at wide reach left 1 1
  again_one m at wide reach left h = record {
    some = omega arith;
    again = omega arith;
    most = omega arith;
    same = λ j d n l i.
        let z : j ≡ 0 = omega arith in
        let w : 0 * (1 * wide) ≡ 0 = omega arith in
        let e : j * (1 * wide) ≡ 0 = ap (λ (x : ℕ). x * (1 * wide)) z ∙ w in
        let f : j * (1 * wide) + d ≡ d = omega arith in
        ap (λ (x : ℕ). copied o m (at + x) n) f;
  }

  pub again_along : (m : List (Element C)) (at bt wide reach left size repeats : ℕ) → at ≡ bt → ComeAgain o m at wide reach left size repeats → ComeAgain o m bt wide reach left size repeats
  again_along m at bt wide reach left size repeats e c = subst (λ (n : ℕ). ComeAgain o m n wide reach left size repeats) e c

  pub again_many : (rs : List (Run C)) (at wide reach left size rest over t : ℕ) (s : Spot) (r : Run C) → AllSome rs → IsAt rs at s → s.index < length rs → r ≡ get_or rs s.index r → IsPeriod r.bits wide size →
      rest ≡ r.bits * r.count - s.skip → wide ≤ reach → over ≡ reach - wide → over ≤ rest → t ≡ min (left / size) ((rest - over) / (size * wide)) → (t ≡ 0 → ⊥) → ComeAgain o (elements rs) at wide reach left size t
  again_many rs at wide reach left size rest over t s r some a h e p v far u k m z =
      let b = bits_at rs s.index r h e some in
      let total = size * wide in
      let fits = whole_times (rest - over) total t (omega arith) in
      let most = whole_times left size t (omega arith) in
      let turn : t * size ≡ size * t = mul_comm t size in
      let d = divides total r.bits b in
      let s0 = d.sum in
      let i = p.multiple in
      let q = total / r.bits in
      let whole : q * r.bits ≡ total = omega arith in
      let inside : s.skip < r.bits * r.count = subst (λ (x : List (Run C)). HasBit x s.skip) (at_run rs s.index r h e) a.spot in
      let back : r.count * r.bits ≡ r.bits * r.count = omega arith in
      let last = pred_times size wide p.some in
      record {
        some = p.some;
        again = positive t z;
        most = omega arith;
        same = λ j x n l g.
            let jq : j * q * r.bits ≡ j * total = mul_assoc j q r.bits ∙ ap (λ (y : ℕ). j * y) whole in
            let up : suc j * total ≤ t * total = mul-le-mul_right total (next j t l) in
            let more : suc j * total ≡ total + j * total = omega arith in
            let move : s.skip + (j * total + x) ≡ j * q * r.bits + (s.skip + x) = omega arith in
            copied_in rs at (j * total + x) n s r some a h e (omega arith)
            ∙ ap (λ (y : ℕ). copied o (replicate r.count (element_of r)) y n) move
            ∙ copied_again (j * q) r.count (element_of r) (s.skip + x) n b (omega arith)
            ∙ sym (copied_in rs at x n s r some a h e (omega arith));
      }
    where
      positive : (t : ℕ) → (t ≡ 0 → ⊥) → 0 < t
      positive zero h = absurd (h refl)
      positive (suc t) h = omega arith

      next : (j t : ℕ) → j < t → suc j ≤ t
      next j t h = h
