-- Lists in which a part was overwritten.
use Rattle.std.proofs.Common.{◌≡◌, ℕ, zero, suc, ◌+◌, ◌-◌, ◌*◌, ◌<◌, ◌≤◌, List, [], ◌∷◌, ◌++◌, length, take, drop, refl, sym, ap, ◌∙◌, subst, arith, inl, inr}
use Rattle.std.proofs.Common.{length-append}
use Rattle.std.proofs.lemmas.List.{take-take, drop-drop, drop-take, length-take-le, length-drop, take-append-le, drop-append-le}
use Rattle.std.proofs.Math.Seq.{drop-append-add, drop-append_seam, take-append_seam}
use Rattle.offmap_laws.specs.Slots.{MayBeStored, AllMayBeStored}

module _ {K : Type 0} (ks cs : List K) (at k : ℕ) (n : length cs ≡ k) (h : at + k ≤ length ks) where
  abbrev pub overwritten : List K
  overwritten = take at ks ++ (cs ++ drop (at + k) ks)

  front : length (take at ks) ≡ at
  front = length-take-le at ks (omega arith)

  pub before : (x len : ℕ) → x + len ≤ at → take len (drop x overwritten) ≡ take len (drop x ks)
  before x len l =
      let f = front in
      let rest = cs ++ drop (at + k) ks in
      let i : x + (at - x) ≡ at = omega arith in
      let e : drop x (take at ks) ≡ take (at - x) (drop x ks) = ap (λ (y : ℕ). drop x (take y ks)) (sym i) ∙ drop-take x (at - x) ks in
      let d = length-drop x (take at ks) in
      let w : len ≤ length (drop x (take at ks)) = omega arith in
      ap (take len) (drop-append-le x (take at ks) rest (omega arith))
      ∙ take-append-le len (drop x (take at ks)) rest w
      ∙ ap (take len) e ∙ take-take len (at - x) (drop x ks) (omega arith)

  after_front : (y : ℕ) → drop (at + y) overwritten ≡ drop y (cs ++ drop (at + k) ks)
  after_front y =
      ap (λ (x : ℕ). drop (x + y) overwritten) (sym front) ∙ drop-append-add (take at ks) (cs ++ drop (at + k) ks) y

  pub there : take k (drop at overwritten) ≡ cs
  there =
      let z : at + 0 ≡ at = omega arith in
      ap (λ (x : ℕ). take k (drop x overwritten)) (sym z) ∙ ap (take k) (after_front 0)
      ∙ ap (λ (x : ℕ). take x (cs ++ drop (at + k) ks)) (sym n) ∙ take-append_seam cs (drop (at + k) ks)

  pub behind : (x : ℕ) → at + k ≤ x → drop x overwritten ≡ drop x ks
  behind x l =
      let y = x - (at + k) in
      let i : at + (k + y) ≡ x = omega arith in
      let j : at + k + y ≡ x = omega arith in
      ap (λ (z : ℕ). drop z overwritten) (sym i) ∙ after_front (k + y)
      ∙ ap (λ (z : ℕ). drop (z + y) (cs ++ drop (at + k) ks)) (sym n) ∙ drop-append-add cs (drop (at + k) ks) y
      ∙ drop-drop y (at + k) ks ∙ ap (λ (z : ℕ). drop z ks) j

  pub long : length overwritten ≡ length ks
  long =
      let f = front in
      let a : length overwritten ≡ length (take at ks) + length (cs ++ drop (at + k) ks) = length-append (take at ks) (cs ++ drop (at + k) ks) in
      let b : length (cs ++ drop (at + k) ks) ≡ length cs + length (drop (at + k) ks) = length-append cs (drop (at + k) ks) in
      let d = length-drop (at + k) ks in
      omega arith

  -- of slots with a gap between them one was overwritten
  module _ {C : Type 0} (Allows : ℕ → C → List K → Type 0) (gap : ℕ) (c : C) (a : Allows k c cs) where
    pub none_stored : (i b : ℕ) → at + k ≤ b → AllMayBeStored Allows k gap c ks overwritten i b
    none_stored zero b l = (inl (ap (take k) (behind b l)), behind (b + k) (omega arith))
    none_stored (suc i) b l = (inl (ap (take k) (behind b l)), ap (take gap) (behind (b + k) (omega arith)), none_stored i (b + (k + gap)) (omega arith))

    here : (b : ℕ) → b ≡ at → MayBeStored Allows k gap c ks overwritten b
    here b e = inr (subst (Allows k c) (sym (ap (λ (x : ℕ). take k (drop x overwritten)) e ∙ there)) a)

    pub one_stored : (i q b : ℕ) → q ≤ i → at ≡ b + q * (k + gap) → AllMayBeStored Allows k gap c ks overwritten i b
    one_stored zero zero b l e = let z : b ≡ at = omega arith in (here b z, behind (b + k) (omega arith))
    one_stored zero (suc q) b l e = absurd (omega arith)
    one_stored (suc i) zero b l e =
        let z : b ≡ at = omega arith in
        (here b z, ap (take gap) (behind (b + k) (omega arith)), none_stored i (b + (k + gap)) (omega arith))
    one_stored (suc i) (suc q) b l e =
        let s : suc q * (k + gap) ≡ k + gap + q * (k + gap) = omega arith in
        (inl (before b k (omega arith)), before (b + k) gap (omega arith), one_stored i q (b + (k + gap)) (omega arith) (omega arith))

-- nothing was stored
module _ {C K : Type 0} (Allows : ℕ → C → List K → Type 0) (k gap : ℕ) (c : C) (ks : List K) where
  pub all_old : (i b : ℕ) → AllMayBeStored Allows k gap c ks ks i b
  all_old zero b = (inl refl, refl)
  all_old (suc i) b = (inl refl, refl, all_old i (b + (k + gap)))
