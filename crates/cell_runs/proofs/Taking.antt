-- The first bits of lists of runs, and the runs behind these.
use Rattle.std.proofs.Common.{◌≡◌, ℕ, zero, suc, ◌+◌, ◌-◌, ◌*◌, ◌<◌, ◌≤◌, ◌^◌, List, [], ◌∷◌, ◌++◌, length, take, drop, refl, sym, ap, ◌∙◌, subst, arith, append-nil, append_assoc, get_or, length-drop}
use Rattle.std.specs.Prelude.{replicate, min}
use Rattle.std.proofs.lemmas.List.{drop_more, drop_all, take_all}
use Rattle.cell_laws.specs.Elements.{Element, width, AllFine}
use Rattle.cell_laws.specs.Cells.{Ops}
use Rattle.cell_laws.specs.Access.{take_bits, drop_bits, copied}
use Rattle.cell_laws.specs.Laws.{PartLaws}
use Rattle.cell_laws.proofs.Cuts.{width-append}
use Rattle.cell_laws.proofs.Stretches.{width-replicate}
use Rattle.cell_laws.proofs.Parts.{AllBits, AllBits-append, take_zero, take_end, take_both, take_then, drop_end, drop_first, drop_second, width-drop, fine_drop}
use Rattle.cell_runs.specs.declared.runs.Run.{Run}
use Rattle.cell_runs.specs.Runs.{element_of, elements, AllSome, Extends}
use Rattle.cell_runs.specs.Parts.{HasInside, Takes, Locates}
use Rattle.cell_runs.proofs.Pushing.{extends-both, extends-along, extends-none}

pub width-none : (C : Type 0) → width (elements {C = C} []) ≡ 0
unfolding elements width
width-none C = refl

pub elements-none : (C : Type 0) → elements {C = C} [] ≡ []
unfolding elements
elements-none C = refl

module _ {C : Type 0} where
  pub at_run : (rs : List (Run C)) (i : ℕ) (r : Run C) → i < length rs → r ≡ get_or rs i r → drop i rs ≡ r ∷ drop (i + 1) rs
  at_run rs i r h e = drop_more rs i r h ∙ ap (λ (x : Run C). x ∷ drop (i + 1) rs) (sym e)

  pub elements-first : (r : Run C) (rs : List (Run C)) → elements (r ∷ rs) ≡ replicate r.count (element_of r) ++ elements rs
  unfolding elements
  elements-first r rs = refl

  pub width-first : (r : Run C) (rs : List (Run C)) → width (elements (r ∷ rs)) ≡ r.bits * r.count + width (elements rs)
  width-first r rs =
      let a = ap width (elements-first r rs) ∙ width-append (replicate r.count (element_of r)) (elements rs) in
      let b : width (replicate r.count (element_of r)) ≡ r.count * r.bits = width-replicate r.count (element_of r) in
      omega arith

  pub some_drop : (n : ℕ) (rs : List (Run C)) → AllSome rs → AllSome (drop n rs)
  some_drop zero rs s = s
  some_drop (suc n) [] s = tt
  some_drop (suc n) (r ∷ rs) s = some_drop n rs s.2

  pub some_at : (rs : List (Run C)) (i : ℕ) (r : Run C) → i < length rs → r ≡ get_or rs i r → AllSome rs → (0 < r.bits) × (0 < r.count)
  some_at rs i r h e s = let a = subst AllSome (at_run rs i r h e) (some_drop i rs s) in (a.0, a.1)

  pub bits_at : (rs : List (Run C)) (i : ℕ) (r : Run C) → i < length rs → r ≡ get_or rs i r → AllSome rs → 0 < r.bits
  bits_at rs i r h e s = (some_at rs i r h e s).0

  all_bits_run : (n : ℕ) (e : Element C) → 0 < e.bits → AllBits (replicate n e)
  all_bits_run zero e p = tt
  all_bits_run (suc n) e p = (p, all_bits_run n e p)

  pub bits_of : (rs : List (Run C)) → AllSome rs → AllBits (elements rs)
  unfolding elements
  bits_of [] s = tt
  bits_of (r ∷ rs) s = AllBits-append (replicate r.count (element_of r)) (elements rs) (all_bits_run r.count (element_of r) s.0) (bits_of rs s.2)

  pub width-at : (rs : List (Run C)) (i : ℕ) (r : Run C) → i < length rs → r ≡ get_or rs i r → width (elements (drop i rs)) ≡ r.bits * r.count + width (elements (drop (i + 1) rs))
  width-at rs i r h e = ap (λ (x : List (Run C)). width (elements x)) (at_run rs i r h e) ∙ width-first r (drop (i + 1) rs)

  pub width-drop-le : (n : ℕ) (rs : List (Run C)) → width (elements (drop n rs)) ≤ width (elements rs)
  width-drop-le zero rs = omega arith
  width-drop-le (suc n) [] = omega arith
  width-drop-le (suc n) (r ∷ rs) = let a = width-first r rs in let b = width-drop-le n rs in omega arith

  pub small_at : (rs : List (Run C)) (i : ℕ) (r : Run C) → i < length rs → r ≡ get_or rs i r → width (elements rs) < 2 ^ 64 → r.bits * r.count < 2 ^ 64
  small_at rs i r h e s = let a = width-at rs i r h e in let b = width-drop-le i rs in omega arith

  -- the runs behind an index, as a slice
  pub tail_is : (rs : List (Run C)) (n : ℕ) → take (length rs - n) (drop n rs) ≡ drop n rs
  tail_is rs n = take_all (length rs - n) (drop n rs) (simp length-drop (omega arith))

  pub none_past : (rs : List (Run C)) (i : ℕ) → length rs ≤ i → drop i rs ≡ []
  none_past rs i h = drop_all i rs h

module _ {C : Type 0} (Fine : ℕ → C → Type 0) where
  fine_after : (xs ys : List (Element C)) → AllFine Fine (xs ++ ys) → AllFine Fine ys
  fine_after [] ys f = f
  fine_after (x ∷ xs) ys f = fine_after xs ys f.1

  pub fine_drop_runs : (n : ℕ) (rs : List (Run C)) → AllFine Fine (elements rs) → AllFine Fine (elements (drop n rs))
  unfolding elements
  fine_drop_runs zero rs f = f
  fine_drop_runs (suc n) [] f = f
  fine_drop_runs (suc n) (r ∷ rs) f = fine_drop_runs n rs (fine_after (replicate r.count (element_of r)) (elements rs) f)

  fine_run : (c : ℕ) (e : Element C) (ys : List (Element C)) → 0 < c → AllFine Fine (replicate c e ++ ys) → Fine e.bits e.cell
  fine_run zero e ys p f = absurd (omega arith)
  fine_run (suc c) e ys p f = f.0

  pub fine_at : (rs : List (Run C)) (i : ℕ) (r : Run C) → i < length rs → r ≡ get_or rs i r → AllSome rs → AllFine Fine (elements rs) → Fine r.bits r.cell
  fine_at rs i r h e s f =
      let a : AllFine Fine (elements (r ∷ drop (i + 1) rs)) = subst (λ (x : List (Run C)). AllFine Fine (elements x)) (at_run rs i r h e) (fine_drop_runs i rs f) in
      let b : AllFine Fine (replicate r.count (element_of r) ++ elements (drop (i + 1) rs)) = subst (AllFine Fine) (elements-first r (drop (i + 1) rs)) a in
      fine_run r.count (element_of r) (elements (drop (i + 1) rs)) (some_at rs i r h e s).1 b

-- the runs before an index were taken, and so many bits are still to be taken from it on
pub record TakesOn {C H : Type 0} (o : Ops C H) (rs : List (Run C)) (n i left : ℕ) (old out : List (Run C)) : Type 0 where
  pub more : List (Element C)
  pub extends : Extends old out more
  pub whole : more ++ take_bits o (elements (drop i rs)) left ≡ take_bits o (elements rs) n
  pub same : left - width (elements (drop i rs)) ≡ n - width (elements rs)

module _ {C H : Type 0} (o : Ops C H) where
  pub takes_begin : (rs : List (Run C)) (n : ℕ) (old : List (Run C)) → TakesOn o rs n 0 n old old
  takes_begin rs n old = record { more = []; extends = extends-none old; whole = refl; same = refl }

  pub takes_step : (rs : List (Run C)) (n i left taken : ℕ) (old out new : List (Run C)) (r : Run C) → AllSome rs → i < length rs → r ≡ get_or rs i r → taken ≡ min left (r.bits * r.count) →
      TakesOn o rs n i left old out → Extends out new (take_bits o (replicate r.count (element_of r)) taken) → TakesOn o rs n (i + 1) (left - taken) old new
  takes_step rs n i left taken old out new r s h e m t x =
      let xs = replicate r.count (element_of r) in
      let ys = elements (drop (i + 1) rs) in
      let w : width xs ≡ r.count * r.bits = width-replicate r.count (element_of r) in
      let b = bits_at rs i r h e s in
      let d : elements (drop i rs) ≡ xs ++ ys = ap elements (at_run rs i r h e) ∙ elements-first r (drop (i + 1) rs) in
      let f = take_both o xs ys left taken (all_bits_run r.count (element_of r) b) (omega arith) in
      let v = width-at rs i r h e in
      let q = t.same in
      record {
        more = t.more ++ take_bits o xs taken;
        extends = extends-both old out new t.more (take_bits o xs taken) t.extends x;
        whole = append_assoc t.more (take_bits o xs taken) (take_bits o ys (left - taken)) ∙ ap (λ (l : List (Element C)). t.more ++ l) (sym (ap (λ (l : List (Element C)). take_bits o l left) d ∙ f)) ∙ t.whole;
        same = omega arith;
      }

  pub takes_all : (rs : List (Run C)) (n i left : ℕ) (old out : List (Run C)) → length rs ≤ i → TakesOn o rs n i left old out → Takes o rs n left old out
  takes_all rs n i left old out h t =
      let d = none_past rs i h in
      let z : take_bits o (elements (drop i rs)) left ≡ [] = ap (λ (x : List (Run C)). take_bits o (elements x) left) d ∙ ap (λ (l : List (Element C)). take_bits o l left) (elements-none C) ∙ take_end o left in
      let w : width (elements (drop i rs)) ≡ 0 = ap (λ (x : List (Run C)). width (elements x)) d ∙ width-none C in
      let q = t.same in
      record {
        taken = extends-along old out _ _ (sym (append-nil t.more) ∙ ap (λ (l : List (Element C)). t.more ++ l) (sym z) ∙ t.whole) t.extends;
        left = omega arith;
      }

  pub takes_enough : (rs : List (Run C)) (n i left : ℕ) (old out : List (Run C)) → left ≡ 0 → TakesOn o rs n i left old out → Takes o rs n 0 old out
  takes_enough rs n i left old out h t =
      let z : take_bits o (elements (drop i rs)) left ≡ [] = ap (take_bits o (elements (drop i rs))) h ∙ take_zero o (elements (drop i rs)) in
      let q = t.same in
      record {
        taken = extends-along old out _ _ (sym (append-nil t.more) ∙ ap (λ (l : List (Element C)). t.more ++ l) (sym z) ∙ t.whole) t.extends;
        left = omega arith;
      }

-- what was sought stands behind the runs before an index
pub record Seeks {C H : Type 0} (o : Ops C H) (rs : List (Run C)) (n i left : ℕ) : Type 0 where
  pub rest : drop_bits o (elements rs) n ≡ drop_bits o (elements (drop i rs)) left
  pub inside : left ≤ width (elements (drop i rs))

module _ {C H : Type 0} (o : Ops C H) where
  pub seek_begin : (rs : List (Run C)) (n : ℕ) → n ≤ width (elements rs) → Seeks o rs n 0 n
  seek_begin rs n h = record { rest = refl; inside = h }

  pub seek_step : (rs : List (Run C)) (n i left : ℕ) (r : Run C) → AllSome rs → i < length rs → r ≡ get_or rs i r → r.bits * r.count ≤ left → Seeks o rs n i left → Seeks o rs n (i + 1) (left - r.bits * r.count)
  seek_step rs n i left r s h e g k =
      let xs = replicate r.count (element_of r) in
      let ys = elements (drop (i + 1) rs) in
      let w : width xs ≡ r.count * r.bits = width-replicate r.count (element_of r) in
      let b = bits_at rs i r h e s in
      let d : elements (drop i rs) ≡ xs ++ ys = ap elements (at_run rs i r h e) ∙ elements-first r (drop (i + 1) rs) in
      let v = width-at rs i r h e in
      let q = k.inside in
      let j : left - width xs ≡ left - r.bits * r.count = omega arith in
      record {
        rest = k.rest ∙ ap (λ (l : List (Element C)). drop_bits o l left) d ∙ drop_second o xs ys left (all_bits_run r.count (element_of r) b) (omega arith) ∙ ap (drop_bits o ys) j;
        inside = omega arith;
      }

  pub seek_found : (rs : List (Run C)) (n i left : ℕ) (r : Run C) → i < length rs → r ≡ get_or rs i r → left < r.bits * r.count → Seeks o rs n i left → Locates o rs n i left
  seek_found rs n i left r h e l k =
      record { rest = k.rest; inside = subst (λ (x : List (Run C)). HasInside o x left) (sym (at_run rs i r h e)) l }

  pub seek_end : (rs : List (Run C)) (n i left : ℕ) → length rs ≤ i → Seeks o rs n i left → Locates o rs n i left
  seek_end rs n i left h k =
      let d = none_past rs i h in
      let w : width (elements (drop i rs)) ≡ 0 = ap (λ (x : List (Run C)). width (elements x)) d ∙ width-none C in
      let q = k.inside in
      let z : left ≡ 0 = omega arith in
      record { rest = k.rest; inside = subst (λ (x : List (Run C)). HasInside o x left) (sym d) z }

-- the runs before an index were copied
pub record CopiesOn {C : Type 0} (rs : List (Run C)) (i : ℕ) (old out : List (Run C)) : Type 0 where
  pub more : List (Element C)
  pub extends : Extends old out more
  pub whole : more ++ elements (drop i rs) ≡ elements rs

module _ {C : Type 0} where
  pub copies_begin : (rs old : List (Run C)) → CopiesOn rs 0 old old
  copies_begin rs old = record { more = []; extends = extends-none old; whole = refl }

  pub copies_step : (rs : List (Run C)) (i : ℕ) (old out new : List (Run C)) (r : Run C) → i < length rs → r ≡ get_or rs i r → CopiesOn rs i old out → Extends out new (replicate r.count (element_of r)) →
      CopiesOn rs (i + 1) old new
  copies_step rs i old out new r h e t x =
      let xs = replicate r.count (element_of r) in
      let ys = elements (drop (i + 1) rs) in
      let d : elements (drop i rs) ≡ xs ++ ys = ap elements (at_run rs i r h e) ∙ elements-first r (drop (i + 1) rs) in
      record {
        more = t.more ++ xs;
        extends = extends-both old out new t.more xs t.extends x;
        whole = append_assoc t.more xs ys ∙ ap (λ (l : List (Element C)). t.more ++ l) (sym d) ∙ t.whole;
      }

  pub copies_all : (rs : List (Run C)) (i : ℕ) (old out : List (Run C)) → length rs ≤ i → CopiesOn rs i old out → Extends old out (elements rs)
  copies_all rs i old out h t =
      let z : elements (drop i rs) ≡ [] = ap elements (none_past rs i h) ∙ elements-none C in
      extends-along old out _ _ (sym (append-nil t.more) ∙ ap (λ (l : List (Element C)). t.more ++ l) (sym z) ∙ t.whole) t.extends

-- ---- what stands at a place that was located

module _ {C H : Type 0} (o : Ops C H) where
  pub located_end : (rs : List (Run C)) (n index skip : ℕ) → Locates o rs n index skip → length rs ≤ index → drop_bits o (elements rs) n ≡ []
  located_end rs n index skip l h =
      l.rest ∙ ap (λ (x : List (Run C)). drop_bits o (elements x) skip) (none_past rs index h) ∙ ap (λ (x : List (Element C)). drop_bits o x skip) (elements-none C) ∙ drop_end o skip

  pub located_inside : (rs : List (Run C)) (n index skip : ℕ) (r : Run C) → Locates o rs n index skip → index < length rs → r ≡ get_or rs index r → skip < r.bits * r.count
  located_inside rs n index skip r l h e = subst (λ (x : List (Run C)). HasInside o x skip) (at_run rs index r h e) l.inside

  pub located_is : (rs : List (Run C)) (n index skip : ℕ) (r : Run C) → AllSome rs → Locates o rs n index skip → index < length rs → r ≡ get_or rs index r →
      drop_bits o (elements rs) n ≡ drop_bits o (replicate r.count (element_of r)) skip ++ elements (drop (index + 1) rs)
  located_is rs n index skip r s l h e =
      let xs = replicate r.count (element_of r) in
      let ys = elements (drop (index + 1) rs) in
      let w : width xs ≡ r.count * r.bits = width-replicate r.count (element_of r) in
      let i = located_inside rs n index skip r l h e in
      let d : elements (drop index rs) ≡ xs ++ ys = ap elements (at_run rs index r h e) ∙ elements-first r (drop (index + 1) rs) in
      l.rest ∙ ap (λ (x : List (Element C)). drop_bits o x skip) d ∙ drop_first o xs ys skip (all_bits_run r.count (element_of r) (bits_at rs index r h e s)) (omega arith)

  pub rest_copied : (rs tail : List (Run C)) (n index skip : ℕ) (r : Run C) (old mid new : List (Run C)) → tail ≡ drop (index + 1) rs → AllSome rs → Locates o rs n index skip → index < length rs →
      r ≡ get_or rs index r → Extends old mid (drop_bits o (replicate r.count (element_of r)) skip) → Extends mid new (elements tail) → Extends old new (drop_bits o (elements rs) n)
  rest_copied rs tail n index skip r old mid new t s l h e a b =
      let xs = drop_bits o (replicate r.count (element_of r)) skip in
      extends-along old new _ _ (ap (λ (x : List (Run C)). xs ++ elements x) t ∙ sym (located_is rs n index skip r s l h e))
      (extends-both old mid new xs (elements tail) a b)

  pub along : (none front same : List (Run C)) (xs : List (Element C)) → same ≡ front → Extends none front xs → Extends none same xs
  along none front same xs e x = subst (λ (y : List (Run C)). Extends none y xs) (sym e) x

  -- what was put in front, by itself
  pub front_is : (none front : List (Run C)) (xs : List (Element C)) → none ≡ [] → Extends none front xs → elements front ≡ xs
  front_is none front xs z x = x.elements ∙ ap (λ (l : List (Run C)). elements l ++ xs) z ∙ ap (λ (l : List (Element C)). l ++ xs) (elements-none C)

  pub front_some : (none front : List (Run C)) (xs : List (Element C)) → none ≡ [] → Extends none front xs → AllSome front
  front_some none front xs z x = x.some (subst AllSome (sym z) tt)

  pub front_small : (rs none front : List (Run C)) (n index skip : ℕ) (r : Run C) → none ≡ [] → Locates o rs n index skip → index < length rs → r ≡ get_or rs index r → width (elements rs) < 2 ^ 64 →
      Extends none front (drop_bits o (replicate r.count (element_of r)) skip) → width (elements front) < 2 ^ 64
  front_small rs none front n index skip r z l h e s x =
      let i = located_inside rs n index skip r l h e in
      let w : width (replicate r.count (element_of r)) ≡ r.count * r.bits = width-replicate r.count (element_of r) in
      let d = width-drop o (replicate r.count (element_of r)) skip (omega arith) in
      let f = ap width (front_is none front (drop_bits o (replicate r.count (element_of r)) skip) z x) in
      let g = small_at rs index r h e s in
      omega arith

  pub part_copied : (rs tail : List (Run C)) (at n index skip more end : ℕ) (r : Run C) (none front old mid new : List (Run C)) → tail ≡ drop (index + 1) rs → none ≡ [] → AllSome rs → Locates o rs at index skip → index < length rs → r ≡ get_or rs index r →
      Extends none front (drop_bits o (replicate r.count (element_of r)) skip) → Takes o front n more old mid → Takes o tail more end mid new →
      Extends old new (copied o (elements rs) at n)
  unfolding copied
  part_copied rs tail at n index skip more end r none front old mid new u z s l h e x a b =
      let f = front_is none front (drop_bits o (replicate r.count (element_of r)) skip) z x in
      let ys = elements tail in
      let t = take_then o (elements front) ys n (bits_of front (front_some none front (drop_bits o (replicate r.count (element_of r)) skip) z x)) in
      let d : drop_bits o (elements rs) at ≡ elements front ++ ys =
      located_is rs at index skip r s l h e ∙ ap (λ (v : List (Run C)). drop_bits o (replicate r.count (element_of r)) skip ++ elements v) (sym u) ∙ ap (λ (v : List (Element C)). v ++ ys) (sym f) in
      let m : n - width (elements front) ≡ more = sym a.left in
      extends-along old new _ _
      (sym (ap (λ (v : List (Element C)). take_bits o v n) d ∙ t ∙ ap (λ (k : ℕ). take_bits o (elements front) n ++ take_bits o ys k) m))
      (extends-both old mid new (take_bits o (elements front) n) (take_bits o ys more) a.taken b.taken)

  pub part_end : (rs : List (Run C)) (at n index skip : ℕ) (old : List (Run C)) → Locates o rs at index skip → length rs ≤ index → Extends old old (copied o (elements rs) at n)
  unfolding copied
  part_end rs at n index skip old l h =
      extends-along old old _ _ (sym (ap (λ (x : List (Element C)). take_bits o x n) (located_end rs at index skip l h) ∙ take_end o n)) (extends-none old)

module _ {C H : Type 0} (o : Ops C H) (Fine : ℕ → C → Type 0) (q : PartLaws o Fine) where
  fine_replicate : (n : ℕ) (e : Element C) → Fine e.bits e.cell → AllFine Fine (replicate n e)
  fine_replicate zero e f = tt
  fine_replicate (suc n) e f = (f, fine_replicate n e f)

  pub front_fine : (none front : List (Run C)) (r : Run C) (skip : ℕ) → none ≡ [] → Fine r.bits r.cell → Extends none front (drop_bits o (replicate r.count (element_of r)) skip) → AllFine Fine (elements front)
  front_fine none front r skip z f x =
      subst (AllFine Fine) (sym (front_is o none front (drop_bits o (replicate r.count (element_of r)) skip) z x))
      (fine_drop o Fine q (replicate r.count (element_of r)) skip (fine_replicate r.count (element_of r) f))
