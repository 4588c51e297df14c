-- What the parts of a described list of bits are described by.
use Rattle.std.proofs.Common.{◌≡◌, ℕ, zero, suc, ◌+◌, ◌≤◌, Bool, true, false, List, [], ◌∷◌, ◌++◌, length, take, drop, refl, sym, ap, ◌∙◌, subst, arith, replicate}
use Rattle.std.proofs.lemmas.List.{take-append-drop, drop-drop, drop-take, take-take}
use Rattle.cell_laws.specs.Elements.{Element, width, AllFine}
use Rattle.cell_laws.specs.Cells.{Ops}
use Rattle.cell_laws.specs.Laws.{FineLaws, OrderLaws, JoinLaws, MeaningLaws, PartLaws, AccessLaws}
use Rattle.cell_laws.specs.Join.{joined, joined_cell}
use Rattle.cell_laws.specs.Meaning.{Describes}
use Rattle.cell_laws.specs.Access.{take_bits, drop_bits, copied, pasted, put, repeated, stored, glued, loaded, IsSize}
use Rattle.cell_laws.proofs.Parts.{width-take, fine_take, describes-append, pasted_part}
use Rattle.cell_laws.proofs.Accesses.{width-put, fine_put, put_describes, repeated_one, repeated_whole}
use Rattle.cell_laws.proofs.Joins.{joined_above, joined_cell_laws}
use Rattle.offmap_laws.specs.Parts.{ArePasted, AllTimes}
use Rattle.offmap_laws.proofs.Contents.{joined_there, cell_within}

module _ {C K : Type 0} (Allows : ℕ → C → List K → Type 0) where
  pub describes_split : (xs ys : List (Element C)) (ks : List K) → Describes Allows (xs ++ ys) ks → Describes Allows xs (take (width xs) ks) × Describes Allows ys (drop (width xs) ks)
  unfolding width
  describes_split [] ys ks d = (refl, d)
  describes_split (x ∷ xs) ys ks d =
      let r = describes_split xs ys (drop x.bits ks) d.1 in
      let t : take x.bits (take (x.bits + width xs) ks) ≡ take x.bits ks = take-take x.bits (x.bits + width xs) ks (omega arith) in
      let u : drop x.bits (take (x.bits + width xs) ks) ≡ take (width xs) (drop x.bits ks) = drop-take x.bits (width xs) ks in
      let v : drop (width xs) (drop x.bits ks) ≡ drop (x.bits + width xs) ks = drop-drop (width xs) x.bits ks in
      ((subst (λ (l : List K). Allows x.bits x.cell l) (sym t) d.0, subst (λ (l : List K). Describes Allows xs l) (sym u) r.0), subst (λ (l : List K). Describes Allows ys l) v r.1)

module _ {C H K : Type 0} (o : Ops C H) (Allows : ℕ → C → List K → Type 0) where
  pub pasted_only : (m part : List (Element C)) (at : ℕ) (js : List K) → at + width part ≤ width m → Describes Allows (pasted o m at part) js →
      ArePasted (Describes Allows) (take_bits o m at) part (drop_bits o m (at + width part)) at (width part) js
  unfolding pasted
  pasted_only m part at js h d =
      let w : width (take_bits o m at) ≡ at = width-take o m at (omega arith) in
      let a = describes_split Allows (take_bits o m at) (part ++ drop_bits o m (at + width part)) js d in
      let b = describes_split Allows part (drop_bits o m (at + width part)) (drop at js) (subst (λ (n : ℕ). Describes Allows (part ++ drop_bits o m (at + width part)) (drop n js)) w a.1) in
      record {
        before = subst (λ (n : ℕ). Describes Allows (take_bits o m at) (take n js)) w a.0;
        inside = b.0;
        behind = subst (λ (l : List K). Describes Allows (drop_bits o m (at + width part)) l) (drop-drop (width part) at js) b.1;
      }

  pub stored_only : (m : List (Element C)) (at k : ℕ) (c : C) (js : List K) → at + k ≤ width m → Describes Allows (stored o m at k c) js →
      ArePasted (Describes Allows) (take_bits o m at) (put o k c) (drop_bits o m (at + k)) at k js
  unfolding stored
  stored_only m at k c js h d =
      let w = width-put o k c in
      subst (λ (n : ℕ). ArePasted (Describes Allows) (take_bits o m at) (put o k c) (drop_bits o m (at + n)) at n js) w (pasted_only m (put o k c) at js (omega arith) d)

  pub repeated_only : (k n : ℕ) (c : C) (ks : List K) → Describes Allows (repeated o k n c) ks → AllTimes (Describes Allows (put o k c)) k n ks
  unfolding repeated
  repeated_only k zero c ks d = d
  repeated_only k (suc n) c ks d =
      let w = width-put o k c in
      let r = describes_split Allows (put o k c) (repeated o k n c) ks d in
      (subst (λ (i : ℕ). Describes Allows (put o k c) (take i ks)) w r.0, repeated_only k n c (drop k ks) (subst (λ (i : ℕ). Describes Allows (repeated o k n c) (drop i ks)) w r.1))

module _ {C H K : Type 0} (o : Ops C H) (Fine : ℕ → C → Type 0) (Allows Gives : ℕ → C → List K → Type 0) (pl : PartLaws o Fine) (al : AccessLaws o Fine Allows Gives)
    (wide : (k : ℕ) (c : C) (ks : List K) → Allows k c ks → length ks ≡ k) where
  pub repeated_describes : (k n : ℕ) (c : C) (ks : List K) → IsSize k → AllTimes (Allows k c) k n ks → Describes Allows (repeated o k n c) ks
  unfolding repeated
  repeated_describes k zero c ks s a = a
  repeated_describes k (suc n) c ks s a =
      let l = wide k c (take k ks) a.0 in
      let w = width-put o k c in
      let p = put_describes o Fine Allows Gives pl al k c (take k ks) s l a.0 in
      let r = describes-append Allows (put o k c) (repeated o k n c) (take k ks) (drop k ks) (omega arith) p (repeated_describes k n c (drop k ks) s a.1) in
      subst (λ (x : List K). Describes Allows (put o k c ++ repeated o k n c) x) (take-append-drop k ks) r

module _ {C H : Type 0} (o : Ops C H) (Fine : ℕ → C → Type 0) (nl : FineLaws o Fine) (pl : PartLaws o Fine) where
  put_one : (k : ℕ) (c : C) → o.blank (o.fit k c) ≡ false → put o k c ≡ record { bits = k; cell = o.fit k c } ∷ []
  put_one k c b = sym (repeated_one o k c) ∙ repeated_whole o k 1 c b

  glued_one : (e : Element C) → glued o (e ∷ []) ≡ e.cell
  unfolding glued
  glued_one e = refl

  pub stored_loaded : (m : List (Element C)) (at k : ℕ) (c : C) → IsSize k → AllFine Fine m → at + k ≤ width m → o.blank (o.fit k c) ≡ false → loaded o (stored o m at k c) at k ≡ o.fit k c
  unfolding loaded stored
  stored_loaded m at k c s f h b =
      let w = width-put o k c in
      let p : copied o (pasted o m at (put o k c)) at k ≡ put o k c =
      subst (λ (n : ℕ). copied o (pasted o m at (put o k c)) at n ≡ put o k c) w (pasted_part o Fine nl m at (put o k c) (fine_take o Fine pl m at f) (fine_put o Fine pl k c s) (omega arith)) in
      ap (glued o) (p ∙ put_one k c b) ∙ glued_one (record { bits = k; cell = o.fit k c })

module _ {C H K : Type 0} (o : Ops C H) (Fine : ℕ → C → Type 0) (Tint : H → K → Type 0) (Bare : K → Type 0) (Sure : Bool → K → Type 0) (Allows : ℕ → C → List K → Type 0)
    (nl : FineLaws o Fine) (ol : OrderLaws o Fine) (jl : JoinLaws o Fine) (ml : MeaningLaws o Fine Tint Bare Sure Allows) where
  pub joined_only : (xs ys vs ws : List (Element C)) (k : ℕ) (x y : C) (ks : List K) → AllFine Fine xs → AllFine Fine ys → width xs ≡ width ys → Fine k x → Fine k y →
      Describes Allows (joined o (joined_cell o) (xs ++ record { bits = k; cell = x } ∷ vs) (ys ++ record { bits = k; cell = y } ∷ ws)) ks → Allows k (o.join x y) (take k (drop (width xs) ks))
  joined_only xs ys vs ws k x y ks fx fy w f g d =
      let cl = joined_cell_laws o Fine nl ol jl in
      let front = joined o (joined_cell o) xs ys in
      let e = joined_there o Fine nl (joined_cell o) xs ys vs ws k x y fx fy w (nl.some_bits k x f) in
      let b = joined_above o Fine (joined_cell o) nl ol jl cl xs ys (record { first = fx; second = fy }) w in
      let a = describes_split Allows front (record { bits = k; cell = joined_cell o k x y } ∷ joined o (joined_cell o) vs ws) ks (subst (λ (m : List (Element C)). Describes Allows m ks) e d) in
      let r : Allows k (joined_cell o k x y) (take k (drop (width xs) ks)) = subst (λ (n : ℕ). Allows k (joined_cell o k x y) (take k (drop n ks))) (b.wide ∙ sym w) a.1.0 in
      ml.allows_leq k (joined_cell o k x y) (o.join x y) (take k (drop (width xs) ks)) (cl.merge_fine k x y f g) (jl.join_fine k x y f g) (cell_within o Fine ol jl k x y f g) r
