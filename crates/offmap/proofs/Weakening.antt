-- Weak stores, offset by offset.
use Rattle.std.proofs.Common.{◌≡◌, ℕ, zero, suc, ◌+◌, ◌<◌, ◌≤◌, List, [], ◌∷◌, length, drop, sym, ap, ◌∙◌, arith, append-nil, get_or}
use Rattle.std.proofs.lemmas.List.{drop_more, drop_all}
use Rattle.cell_laws.specs.Elements.{Element, width, AllFine}
use Rattle.cell_laws.specs.Cells.{Ops}
use Rattle.cell_laws.specs.Laws.{FineLaws, OrderLaws, JoinLaws, PartLaws}
use Rattle.cell_laws.specs.Join.{joined, joined_cell}
use Rattle.cell_laws.specs.Access.{take_bits, copied, stored, weakened, IsSize, AllWithin}
use Rattle.cell_laws.proofs.Joins.{joined_above, joined_cell_laws}
use Rattle.cell_laws.proofs.Parts.{take_front, drop_none}
use Rattle.cell_laws.proofs.Accesses.{width-stored, fine_stored}

-- the offsets before an index were stored to
pub record WeakensOn {C H : Type 0} (o : Ops C H) (m : List (Element C)) (ats : List ℕ) (k : ℕ) (c : C) (i : ℕ) (now : List (Element C)) : Type 0 where
  pub same : weakened o now (drop i ats) k c ≡ weakened o m ats k c
  pub wide : width now ≡ width m

module _ {C H : Type 0} (o : Ops C H) (Fine : ℕ → C → Type 0) (n : FineLaws o Fine) (l : OrderLaws o Fine) (j : JoinLaws o Fine) (q : PartLaws o Fine) where
  copied_whole : (m : List (Element C)) → AllFine Fine m → copied o m 0 (width m) ≡ m
  unfolding copied
  copied_whole m f =
      ap (λ (x : List (Element C)). take_bits o x (width m)) (drop_none o m)
      ∙ ap (λ (x : List (Element C)). take_bits o x (width m)) (sym (append-nil m)) ∙ take_front o Fine n m [] f

  pub weak_begin : (m now : List (Element C)) (ats : List ℕ) (k : ℕ) (c : C) (bits : ℕ) → bits ≡ width m → AllFine Fine m → now ≡ copied o m 0 bits → WeakensOn o m ats k c 0 now
  weak_begin m now ats k c bits w f e =
      let g : now ≡ m = e ∙ ap (copied o m 0) w ∙ copied_whole m f in
      record { same = ap (λ (x : List (Element C)). weakened o x ats k c) g; wide = ap width g }

  within : (k w : ℕ) (ats : List ℕ) (i x : ℕ) → i < length ats → x ≡ get_or ats i 0 → AllWithin k w ats → x + k ≤ w
  within k w [] i x h e a = absurd (omega arith)
  within k w (at ∷ ats) zero x h e a = let b = a.0 in omega arith
  within k w (at ∷ ats) (suc i) x h e a = within k w ats i x (omega arith) e a.1

  pub weak_inside : (m now : List (Element C)) (ats : List ℕ) (k : ℕ) (c : C) (i x : ℕ) → i < length ats → x ≡ get_or ats i 0 → AllWithin k (width m) ats → WeakensOn o m ats k c i now → x + k ≤ width now
  weak_inside m now ats k c i x h e a p = let g = within k (width m) ats i x h e a in let w = p.wide in omega arith

  pub weak_even : (now st : List (Element C)) (k : ℕ) (c : C) (x : ℕ) → x + k ≤ width now → st ≡ stored o now x k c → width now ≡ width st
  weak_even now st k c x h e = sym (ap width e ∙ width-stored o now x k c h)

  pub weak_step : (m now st new : List (Element C)) (ats : List ℕ) (k : ℕ) (c : C) (i x : ℕ) → IsSize k → AllFine Fine now → i < length ats → x ≡ get_or ats i 0 → AllWithin k (width m) ats →
      st ≡ stored o now x k c → new ≡ joined o (joined_cell o) now st → WeakensOn o m ats k c i now → WeakensOn o m ats k c (i + 1) new
  unfolding weakened
  weak_step m now st new ats k c i x s f h e a d g p =
      let b = weak_inside m now ats k c i x h e a p in
      let w = p.wide in
      let r : new ≡ joined o (joined_cell o) now (stored o now x k c) = g ∙ ap (joined o (joined_cell o) now) d in
      let v = width-stored o now x k c b in
      let u = joined_above o Fine (joined_cell o) n l j (joined_cell_laws o Fine n l j) now (stored o now x k c) (record { first = f; second = fine_stored o Fine q now x k c s f }) (sym v) in
      let t = u.wide in
      let z = ap width r in
      let y : drop i ats ≡ x ∷ drop (i + 1) ats = drop_more ats i 0 h ∙ ap (λ (n : ℕ). n ∷ drop (i + 1) ats) (sym e) in
      record {
        same = ap (λ (q : List (Element C)). weakened o q (drop (i + 1) ats) k c) r ∙ sym (ap (λ (q : List ℕ). weakened o now q k c) y) ∙ p.same;
        wide = omega arith;
      }

  pub weak_end : (m now : List (Element C)) (ats : List ℕ) (k : ℕ) (c : C) (i : ℕ) → length ats ≤ i → WeakensOn o m ats k c i now → now ≡ weakened o m ats k c
  unfolding weakened
  weak_end m now ats k c i h p = sym (ap (λ (q : List ℕ). weakened o now q k c) (drop_all i ats h)) ∙ p.same
