-- Parts of one run.
use Rattle.std.proofs.Common.{◌≡◌, ℕ, zero, suc, ◌+◌, ◌-◌, ◌*◌, ◌<◌, ◌≤◌, List, [], ◌∷◌, ◌++◌, refl, sym, ap, ◌∙◌, arith, inl, inr}
use Rattle.std.specs.Prelude.{replicate, ◌/◌, ◌%◌}
use Rattle.std.proofs.lemmas.Bool.{cases_eq, cases_lt, eq-eqb, ne_eqb}
use Rattle.std.proofs.Math.Nat.{mul-le-mul_left}
use Rattle.cell_laws.specs.Elements.{Element}
use Rattle.cell_laws.specs.Cells.{Ops}
use Rattle.cell_laws.specs.Access.{take_bits, drop_bits}
use Rattle.cell_laws.proofs.Parts.{take_zero, take_whole, take_short, drop_none, drop_whole, drop_short}
use Rattle.cell_runs.specs.declared.runs.Run.{Run}
use Rattle.cell_runs.specs.Runs.{element_of, Extends}
use Rattle.cell_runs.specs.Parts.{piece_of}
use Rattle.cell_runs.proofs.Pushing.{extends-both, extends-along}

-- division of a number of bits by an element's
pub record Divides (n b q r : ℕ) : Type 0 where
  pub sum : n ≡ q * b + r
  pub less : r < b

pub divides : (n b : ℕ) → 0 < b → Divides n b (n / b) (n % b)
divides n b p =
    let e : b * (n / b) + n % b ≡ n = grind arith in
    let l : n % b < b = grind arith in
    record { sum = omega arith; less = l }

some_quotient : (q : ℕ) → 1 ≤ suc q
some_quotient q = omega arith

module _ {C H : Type 0} (o : Ops C H) where
  pub piece_none : (e : Element C) (low count : ℕ) → count ≡ 0 → piece_of o e low count ≡ []
  unfolding piece_of
  piece_none e low count z = rw (eq-eqb count 0 z) refl

  pub piece_some : (e : Element C) (low count : ℕ) → (count ≡ 0 → ⊥) → piece_of o e low count ≡ record { bits = count; cell = o.piece e.bits e.cell low count } ∷ []
  unfolding piece_of
  piece_some e low count z = rw (ne_eqb count 0 z) refl

  pub take_replicate : (q c : ℕ) (e : Element C) (n r : ℕ) → Divides n e.bits q r → n ≤ e.bits * c → take_bits o (replicate c e) n ≡ replicate q e ++ piece_of o e 0 r
  take_replicate zero c e n r d h =
      let s = d.sum in
      elim (cases_eq r 0) [
        | inl z ↦
            let i : n ≡ 0 = omega arith in
            ap (take_bits o (replicate c e)) i ∙ take_zero o (replicate c e) ∙ sym (piece_none e 0 r z)
        | inr p ↦ first c s (omega arith) d.less h
      ]
    where
      first : (c : ℕ) → n ≡ 0 * e.bits + r → 0 < r → r < e.bits → n ≤ e.bits * c → take_bits o (replicate c e) n ≡ piece_of o e 0 r
      first zero s p l h = absurd (omega arith)
      first (suc c) s p l h =
          let i : n ≡ r = omega arith in
          ap (take_bits o (replicate (suc c) e)) i ∙ take_short o e (replicate c e) r p l ∙ sym (piece_some e 0 r (λ z. omega arith))
  take_replicate (suc q) zero e n r d h =
      let s = d.sum in
      let l = d.less in
      let m : 1 * e.bits ≤ suc q * e.bits = omega (arith, mul-le-mul_left e.bits (some_quotient q)) in
      absurd (omega arith)
  take_replicate (suc q) (suc c) e n r d h =
      let s = d.sum in
      let l = d.less in
      let m : suc q * e.bits ≡ e.bits + q * e.bits = omega arith in
      let k : e.bits * suc c ≡ e.bits + e.bits * c = omega arith in
      let i : n ≡ e.bits + (n - e.bits) = omega arith in
      take_whole o e (replicate c e) n (n - e.bits) (omega arith) i
      ∙ ap (λ (x : List (Element C)). e ∷ x) (take_replicate q c e (n - e.bits) r (record { sum = omega arith; less = l }) (omega arith))

  drop_all_of : (q c : ℕ) (e : Element C) (n : ℕ) → 0 < e.bits → n ≡ q * e.bits → q ≤ c → drop_bits o (replicate c e) n ≡ replicate (c - q) e
  drop_all_of zero c e n p s h =
      let i : n ≡ 0 = omega arith in
      let j : c ≡ c - 0 = omega arith in
      ap (drop_bits o (replicate c e)) i ∙ drop_none o (replicate c e) ∙ ap (λ (x : ℕ). replicate x e) j
  drop_all_of (suc q) zero e n p s h = absurd (omega arith)
  drop_all_of (suc q) (suc c) e n p s h =
      let m : suc q * e.bits ≡ e.bits + q * e.bits = omega arith in
      let i : n ≡ e.bits + (n - e.bits) = omega arith in
      let j : c - q ≡ suc c - suc q = omega arith in
      drop_whole o e (replicate c e) n (n - e.bits) p i ∙ drop_all_of q c e (n - e.bits) p (omega arith) (omega arith) ∙ ap (λ (x : ℕ). replicate x e) j

  drop_cut : (q c : ℕ) (e : Element C) (n r : ℕ) → Divides n e.bits q r → 0 < r → q < c → drop_bits o (replicate c e) n ≡ piece_of o e r (e.bits - r) ++ replicate (c - q - 1) e
  drop_cut q zero e n r d p h = absurd (omega arith)
  drop_cut zero (suc c) e n r d p h =
      let s = d.sum in
      let l = d.less in
      let i : n ≡ r = omega arith in
      let j : c ≡ suc c - 0 - 1 = omega arith in
      ap (drop_bits o (replicate (suc c) e)) i ∙ drop_short o e (replicate c e) r p l
      ∙ ap (λ (x : List (Element C)). x ++ replicate c e) (sym (piece_some e r (e.bits - r) (λ z. omega arith)))
      ∙ ap (λ (x : ℕ). piece_of o e r (e.bits - r) ++ replicate x e) j
  drop_cut (suc q) (suc c) e n r d p h =
      let s = d.sum in
      let l = d.less in
      let m : suc q * e.bits ≡ e.bits + q * e.bits = omega arith in
      let i : n ≡ e.bits + (n - e.bits) = omega arith in
      let j : c - q - 1 ≡ suc c - suc q - 1 = omega arith in
      drop_whole o e (replicate c e) n (n - e.bits) (omega arith) i ∙ drop_cut q c e (n - e.bits) r (record { sum = omega arith; less = l }) p (omega arith)
      ∙ ap (λ (x : ℕ). piece_of o e r (e.bits - r) ++ replicate x e) j

  quotient_less : (q r b n c : ℕ) → n ≡ q * b + r → n < b * c → c ≤ q → ⊥
  quotient_less q r b n c s h l =
      let m : c * b ≤ q * b = omega (arith, mul-le-mul_left b l) in
      let k : b * c ≡ c * b = omega arith in
      omega arith

  pub quotient_in : (b n c : ℕ) → 0 < b → n < b * c → n / b < c
  quotient_in b n c p h =
      let d = divides n b p in
      elim (cases_lt (n / b) c) [
        | inl l ↦ l
        | inr l ↦ absurd (quotient_less (n / b) (n % b) b n c d.sum h l)
      ]

  -- what the code adds, step by step

  pub took : (r : Run C) (n : ℕ) (old mid new : List (Run C)) → 0 < r.bits → n ≤ r.bits * r.count → Extends old mid (replicate (n / r.bits) (element_of r)) →
      Extends mid new (piece_of o (element_of r) 0 (n % r.bits)) → Extends old new (take_bits o (replicate r.count (element_of r)) n)
  took r n old mid new p h a b =
      extends-along old new _ _ (sym (take_replicate (n / r.bits) r.count (element_of r) n (n % r.bits) (divides n r.bits p) h))
      (extends-both old mid new (replicate (n / r.bits) (element_of r)) (piece_of o (element_of r) 0 (n % r.bits)) a b)

  pub dropped_whole : (r : Run C) (n : ℕ) (old new : List (Run C)) → 0 < r.bits → n < r.bits * r.count → n % r.bits ≡ 0 → Extends old new (replicate (r.count - n / r.bits) (element_of r)) →
      Extends old new (drop_bits o (replicate r.count (element_of r)) n)
  dropped_whole r n old new p h z a =
      let d = divides n r.bits p in
      let s = d.sum in
      let l = quotient_in r.bits n r.count p h in
      extends-along old new _ _ (sym (drop_all_of (n / r.bits) r.count (element_of r) n p (omega arith) (omega arith))) a

  pub dropped_cut : (r : Run C) (n : ℕ) (old mid new : List (Run C)) → 0 < r.bits → n < r.bits * r.count → (n % r.bits ≡ 0 → ⊥) →
      Extends old mid (piece_of o (element_of r) (n % r.bits) (r.bits - n % r.bits)) → Extends mid new (replicate (r.count - n / r.bits - 1) (element_of r)) →
      Extends old new (drop_bits o (replicate r.count (element_of r)) n)
  dropped_cut r n old mid new p h z a b =
      extends-along old new _ _ (sym (drop_cut (n / r.bits) r.count (element_of r) n (n % r.bits) (divides n r.bits p) (omega arith) (quotient_in r.bits n r.count p h)))
      (extends-both old mid new (piece_of o (element_of r) (n % r.bits) (r.bits - n % r.bits)) (replicate (r.count - n / r.bits - 1) (element_of r)) a b)

  pub pieced : (e : Element C) (low count : ℕ) (cell : C) (old new : List (Run C)) → (count ≡ 0 → ⊥) → cell ≡ o.piece e.bits e.cell low count →
      Extends old new (record { bits = count; cell = cell } ∷ []) → Extends old new (piece_of o e low count)
  pieced e low count cell old new z p a =
      extends-along old new _ _ (ap (λ (x : C). record { bits = count; cell = x } ∷ []) p ∙ sym (piece_some e low count z)) a
