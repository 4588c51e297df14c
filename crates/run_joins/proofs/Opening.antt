-- Stretches that are being read.
use Rattle.std.proofs.Common.{◌≡◌, ℕ, zero, suc, ◌+◌, ◌<◌, ◌≤◌, ◌^◌, true, false, List, [], ◌∷◌, ◌++◌, length, drop, refl, sym, ap, ◌∙◌, subst, arith, inl, inr, ◌⊎◌, append-nil, append_assoc, get_or}
use Rattle.std.specs.Prelude.{nat_le}
use Rattle.std.proofs.lemmas.List.{drop_all}
use Rattle.std.proofs.lemmas.Bool.{cases_lt, le-leb, lt-leb, cases_eq}
use Rattle.cell_runs.specs.declared.runs.Run.{Run}
use Rattle.run_joins.specs.declared.cursor.Cursor.{Cursor}
use Rattle.cell_laws.specs.Elements.{Element, width, AllFine}
use Rattle.cell_laws.specs.Cells.{Ops}
use Rattle.cell_laws.specs.Join.{is_some_wide, join_stretch, joined_from, joined}
use Rattle.cell_runs.specs.Runs.{elements, AllSome, Extends}
use Rattle.run_joins.specs.Joining.{rest, IsCursor, AreEven, Steps, Moves, Open}
use Rattle.cell_laws.proofs.Cuts.{width-append}
use Rattle.cell_laws.proofs.Steps.{join_left, join_right, join_close, join_none}
use Rattle.cell_laws.proofs.Stretches.{nothing_wide, other_wide, both_wide}
use Rattle.cell_runs.proofs.Pushing.{extends-both, extends-along, extends-none}
use Rattle.cell_runs.proofs.Taking.{bits_at, elements-none, fine_drop_runs}
use Rattle.cell_laws.proofs.Joins.{AllFine-append}
use Rattle.run_joins.proofs.Running.{rest_run, is_cursor, cursor_next}

zero_length : (C : Type 0) (n : ℕ) → length (elements {C = C} []) ≤ n
unfolding elements
zero_length C n = omega arith

no_width : (C : Type 0) → width {C = C} [] ≡ 0
unfolding width
no_width C = refl

module _ {C : Type 0} where
  some_run : (rs : List (Run C)) (i : ℕ) → i < length rs → (r : Run C) × (r ≡ get_or rs i r)
  some_run [] i h = absurd (omega arith)
  some_run (r ∷ rs) zero h = (r, refl)
  some_run (r ∷ rs) (suc i) h = some_run rs i (omega arith)

  pub past : (rs : List (Run C)) (at : Cursor) → length rs ≤ at.index → rest rs at ≡ []
  unfolding rest
  past rs at l = ap (λ (x : List (Run C)). drop at.used (elements x)) (drop_all at.index rs l) ∙ drop_all at.used (elements []) (zero_length C at.used)

  pub index_in : (rs : List (Run C)) (at : Cursor) → 0 < width (rest rs at) → at.index < length rs
  index_in rs at h =
      elim (cases_lt at.index (length rs)) [
        | inl l ↦ l
        | inr l ↦
            let n : width (rest rs at) ≡ 0 = ap width (past rs at l) ∙ no_width C in
            absurd (omega arith)
      ]

  pub rest_wide : (rs : List (Run C)) (at : Cursor) (r : Run C) → at.index < length rs → r ≡ get_or rs at.index r → IsCursor rs at → AllSome rs → 0 < width (rest rs at)
  unfolding width
  rest_wide rs at r h e q s =
      let u = is_cursor rs at.index at.used r h e q in
      let v = ap width (rest_run rs at 1 r h e (omega arith)) in
      let b = bits_at rs at.index r h e s in
      omega arith

  pub rest_some : (rs : List (Run C)) (at : Cursor) → at.index < length rs → IsCursor rs at → AllSome rs → 0 < width (rest rs at)
  rest_some rs at h q s = let r = some_run rs at.index h in rest_wide rs at r.0 h r.1 q s

  pub second_index : (a b : List (Run C)) (i j : Cursor) → AreEven a i b j → i.index < length a → AllSome a → j.index < length b
  second_index a b i j e h s = let w = rest_some a i h e.left s in let v = e.even in index_in b j (omega arith)

  pub all_read : (rs : List (Run C)) (at : Cursor) → AllSome rs → IsCursor rs at → width (rest rs at) ≡ 0 → rest rs at ≡ []
  all_read rs at s q w =
      elim (cases_lt at.index (length rs)) [
        | inl l ↦ let v = rest_some rs at l q s in absurd (omega arith)
        | inr l ↦ past rs at l
      ]

module _ {C H : Type 0} (o : Ops C H) (merge : ℕ → C → C → C) where
  pub open_begin : (a b : List (Run C)) (i j : Cursor) → AreEven a i b j → 0 < width (rest a i) → Open o merge a i i b j j [] [] 0 0
  unfolding elements width
  open_begin a b i j e h =
      let v = e.even in
      record {
        same = refl;
        left = e.left;
        right = e.right;
        wide_left = refl;
        wide_right = refl;
        none_left = λ z. refl;
        even = omega arith;
        begun = omega arith;
        small = e.small;
        some = h;
        less = λ z. absurd (omega arith);
        first = λ z. refl;
      }

  closed_not : (a b : List (Run C)) (i0 i j0 j : Cursor) (p q : List (Run C)) (wp wq : ℕ) → Open o merge a i0 i b j0 j p q wp wq → ((wp ≡ wq → ⊥) ⊎ (wp ≡ 0)) → is_some_wide (elements p) (elements q) ≡ false
  closed_not a b i0 i j0 j p q wp wq h (inl n) =
      let x = h.wide_left in let y = h.wide_right in other_wide (elements p) (elements q) (λ e. n (omega arith))
  closed_not a b i0 i j0 j p q wp wq h (inr z) = nothing_wide (elements p) (elements q) (h.none_left z)

  pub left_index : (a b : List (Run C)) (i0 i j0 j : Cursor) (p q : List (Run C)) (wp wq : ℕ) → Open o merge a i0 i b j0 j p q wp wq → ((wp ≡ wq → ⊥) ⊎ (wp ≡ 0)) → wp ≤ wq → i.index < length a
  left_index a b i0 i j0 j p q wp wq h (inl n) l = let e = h.even in let d : wp < wq = elim (cases_lt wp wq) [ inl x ↦ x | inr x ↦ absurd (n (omega arith)) ] in index_in a i (omega arith)
  left_index a b i0 i j0 j p q wp wq h (inr z) l = let e = h.begun in let s = h.some in index_in a i (omega arith)

  pub right_index : (a b : List (Run C)) (i0 i j0 j : Cursor) (p q : List (Run C)) (wp wq : ℕ) → Open o merge a i0 i b j0 j p q wp wq → wq < wp → j.index < length b
  right_index a b i0 i j0 j p q wp wq h l = let e = h.even in index_in b j (omega arith)

  pub open_left : (a b : List (Run C)) (i0 i k j0 j : Cursor) (p q r : List (Run C)) (wp wq n : ℕ) → Open o merge a i0 i b j0 j p q wp wq → ((wp ≡ wq → ⊥) ⊎ (wp ≡ 0)) → wp ≤ wq →
      Moves a i k p r n → Open o merge a i0 k b j0 j r q (wp + n) wq
  unfolding width
  open_left a b i0 i k j0 j p q r wp wq n h c l m =
      let z = closed_not a b i0 i j0 j p q wp wq h c in
      let x = h.wide_left in
      let y = h.wide_right in
      let le : nat_le (width (elements p)) (width (elements q)) ≡ true = le-leb (width (elements p)) (width (elements q)) (omega arith) in
      let f = m.from in
      let w : width (rest a i) ≡ m.moved.bits + width (rest a k) = ap width f in
      let into = m.into.elements in
      let g : width (elements r) ≡ width (elements p) + (m.moved.bits + 0) = ap width into ∙ width-append (elements p) (m.moved ∷ []) in
      let s = m.some in
      let t = m.bits in
      let e = h.even in
      let v = h.begun in
      let lf : length (rest a i) ≡ suc (length (rest a k)) = ap length f in
      record {
        same = ap (λ (s : List (Element C)). joined_from o merge s (elements q) (rest a k) (rest b j)) into
            ∙ sym (join_left o merge (elements p) (elements q) m.moved (rest a k) (rest b j) z le)
            ∙ ap (λ (s : List (Element C)). joined_from o merge (elements p) (elements q) s (rest b j)) (sym f) ∙ h.same;
        left = m.still;
        right = h.right;
        wide_left = omega arith;
        wide_right = y;
        none_left = λ u. absurd (omega arith);
        even = omega arith;
        begun = omega arith;
        small = h.small;
        some = h.some;
        less = λ u. elim (cases_eq wp 0) [
          | inl none ↦ let d : length (rest a i) ≡ length (rest a i0) = ap (λ (x : Cursor). length (rest a x)) (h.first none) in omega arith
          | inr some ↦ let d : length (rest a i) < length (rest a i0) = h.less (omega arith) in omega arith
        ];
        first = λ u. absurd (omega arith);
      }

  pub open_right : (a b : List (Run C)) (i0 i j0 j k : Cursor) (p q r : List (Run C)) (wp wq n : ℕ) → Open o merge a i0 i b j0 j p q wp wq → ((wp ≡ wq → ⊥) ⊎ (wp ≡ 0)) → wq < wp →
      Moves b j k q r n → Open o merge a i0 i b j0 k p r wp (wq + n)
  unfolding width
  open_right a b i0 i j0 j k p q r wp wq n h c l m =
      let z = closed_not a b i0 i j0 j p q wp wq h c in
      let x = h.wide_left in
      let y = h.wide_right in
      let le : nat_le (width (elements p)) (width (elements q)) ≡ false = lt-leb (width (elements p)) (width (elements q)) (omega arith) in
      let f = m.from in
      let w : width (rest b j) ≡ m.moved.bits + width (rest b k) = ap width f in
      let into = m.into.elements in
      let g : width (elements r) ≡ width (elements q) + (m.moved.bits + 0) = ap width into ∙ width-append (elements q) (m.moved ∷ []) in
      let t = m.bits in
      let e = h.even in
      record {
        same = ap (λ (s : List (Element C)). joined_from o merge (elements p) s (rest a i) (rest b k)) into
            ∙ sym (join_right o merge (elements p) (elements q) m.moved (rest a i) (rest b k) z le)
            ∙ ap (λ (s : List (Element C)). joined_from o merge (elements p) (elements q) (rest a i) s) (sym f) ∙ h.same;
        left = h.left;
        right = m.still;
        wide_left = x;
        wide_right = omega arith;
        none_left = h.none_left;
        even = omega arith;
        begun = h.begun;
        small = h.small;
        some = h.some;
        less = h.less;
        first = h.first;
      }

  pub closed : (a b : List (Run C)) (i0 i j0 j : Cursor) (p q made old new : List (Run C)) (wp wq : ℕ) → Open o merge a i0 i b j0 j p q wp wq → (wp ≡ wq) × (0 < wp) →
      elements made ≡ join_stretch o merge (elements p) (elements q) → Extends old new (elements made) → Steps o merge a i0 i b j0 j old new
  closed a b i0 i j0 j p q made old new wp wq h c s t =
      let x = h.wide_left in
      let y = h.wide_right in
      let e = c.0 in
      let z = c.1 in
      let v = h.even in
      let u = h.begun in
      let m = h.small in
      let w = both_wide (elements p) (elements q) (omega arith) (omega arith) in
      let g : joined_from o merge [] [] (rest a i0) (rest b j0) ≡ elements made ++ joined_from o merge [] [] (rest a i) (rest b j) =
      sym h.same ∙ join_close o merge (elements p) (elements q) (rest a i) (rest b j) w ∙ ap (λ (l : List (Element C)). l ++ joined_from o merge [] [] (rest a i) (rest b j)) (sym s) in
      record {
        more = elements made;
        extends = t;
        same = sym g;
        still = record { left = h.left; right = h.right; even = omega arith; small = omega arith };
        less = h.less c.1;
      }

  pub joined_end : (a b : List (Run C)) (i j : Cursor) (out : List (Element C)) (r : List (Element C)) → AllSome b → AreEven a i b j → length a ≤ i.index →
      out ++ joined_from o merge [] [] (rest a i) (rest b j) ≡ r → out ≡ r
  joined_end a b i j out r s e h q =
      let x = past a i h in
      let v = e.even in
      let w : width (rest a i) ≡ 0 = ap width x ∙ no_width C in
      let y = all_read b j s e.right (omega arith) in
      let g : joined_from o merge [] [] (rest a i) (rest b j) ≡ [] = ap (λ (l : List (Element C)). joined_from o merge [] [] l (rest b j)) x ∙ ap (λ (l : List (Element C)). joined_from o merge [] [] [] l) y ∙ join_none o merge in
      sym (append-nil out) ∙ ap (λ (l : List (Element C)). out ++ l) (sym g) ∙ q

  pub begin : (a b : List (Run C)) (out : List (Element C)) → AllSome a → AllSome b → width (elements a) ≡ width (elements b) → width (elements a) < 2 ^ 64 → out ≡ [] →
      (out ++ joined_from o merge [] [] (rest a (record { index = 0; used = 0 })) (rest b (record { index = 0; used = 0 })) ≡ joined_from o merge [] [] (elements a) (elements b))
      × AreEven a (record { index = 0; used = 0 }) b (record { index = 0; used = 0 })
  unfolding rest
  begin a b out s t w m e = (
    ap (λ (l : List (Element C)). l ++ joined_from o merge [] [] (elements a) (elements b)) e,
    record { left = cursor_next a 0 s; right = cursor_next b 0 t; even = w; small = m },
  )

  pub joined_is : (a b r : List (Element C)) → r ≡ joined_from o merge [] [] a b → r ≡ joined o merge a b
  unfolding joined
  joined_is a b r e = e

  pub fits_left : (a b : List (Run C)) (i0 i k j0 j : Cursor) (p q r : List (Run C)) (wp wq n : ℕ) → Open o merge a i0 i b j0 j p q wp wq → Moves a i k p r n → wp + n < 2 ^ 64
  unfolding width
  fits_left a b i0 i k j0 j p q r wp wq n h m =
      let f : width (rest a i) ≡ m.moved.bits + width (rest a k) = ap width m.from in
      let t = m.bits in let u = h.begun in let s = h.small in omega arith

  pub fits_right : (a b : List (Run C)) (i0 i j0 j k : Cursor) (p q r : List (Run C)) (wp wq n : ℕ) → Open o merge a i0 i b j0 j p q wp wq → Moves b j k q r n → wq + n < 2 ^ 64
  unfolding width
  fits_right a b i0 i j0 j k p q r wp wq n h m =
      let f : width (rest b j) ≡ m.moved.bits + width (rest b k) = ap width m.from in
      let t = m.bits in let u = h.begun in let e = h.even in let s = h.small in omega arith

  pub opened : (a b : List (Run C)) (i j : Cursor) (p q : List (Run C)) → AreEven a i b j → 0 < width (rest a i) → p ≡ [] → q ≡ [] → Open o merge a i i b j j p q 0 0
  opened a b i j p q e h u v =
      subst (λ (x : List (Run C)). Open o merge a i i b j j x q 0 0) (sym u) (subst (λ (x : List (Run C)). Open o merge a i i b j j [] x 0 0) (sym v) (open_begin a b i j e h))

module _ {C : Type 0} where
  pub no_elements : (p : List (Run C)) → p ≡ [] → elements p ≡ []
  unfolding elements
  no_elements p e = ap elements e

module _ {C H : Type 0} (o : Ops C H) (merge : ℕ → C → C → C) where
  pub made_is : (p q ps qs made : List (Run C)) → ps ≡ p → qs ≡ q → elements made ≡ join_stretch o merge (elements ps) (elements qs) → elements made ≡ join_stretch o merge (elements p) (elements q)
  made_is p q ps qs made e f g = g ∙ ap (λ (x : List (Run C)). join_stretch o merge (elements x) (elements qs)) e ∙ ap (λ (x : List (Run C)). join_stretch o merge (elements p) (elements x)) f

-- what is joined so far, and what is left
pub record JoinsOn {C H : Type 0} (o : Ops C H) (merge : ℕ → C → C → C) (a : List (Run C)) (i : Cursor) (b : List (Run C)) (j : Cursor) (old out : List (Run C)) : Type 0 where
  pub more : List (Element C)
  pub extends : Extends old out more
  pub same : more ++ joined_from o merge [] [] (rest a i) (rest b j) ≡ joined_from o merge [] [] (elements a) (elements b)
  pub even : AreEven a i b j

module _ {C H : Type 0} (o : Ops C H) (merge : ℕ → C → C → C) where
  pub join_begin : (a b old : List (Run C)) → AllSome a → AllSome b → width (elements a) ≡ width (elements b) → width (elements a) < 2 ^ 64 →
      JoinsOn o merge a (record { index = 0; used = 0 }) b (record { index = 0; used = 0 }) old old
  unfolding rest
  join_begin a b old s t w m =
      record { more = []; extends = extends-none old; same = refl; even = record { left = cursor_next a 0 s; right = cursor_next b 0 t; even = w; small = m } }

  pub join_step : (a b : List (Run C)) (i k j l : Cursor) (old mid new : List (Run C)) → JoinsOn o merge a i b j old mid → Steps o merge a i k b j l mid new → JoinsOn o merge a k b l old new
  join_step a b i k j l old mid new g s = record {
    more = g.more ++ s.more;
    extends = extends-both old mid new g.more s.more g.extends s.extends;
    same = append_assoc g.more s.more (joined_from o merge [] [] (rest a k) (rest b l)) ∙ ap (λ (x : List (Element C)). g.more ++ x) s.same ∙ g.same;
    even = s.still;
  }

  pub join_done : (a b : List (Run C)) (i j : Cursor) (old out : List (Run C)) → AllSome b → length a ≤ i.index → JoinsOn o merge a i b j old out → Extends old out (joined o merge (elements a) (elements b))
  unfolding joined
  join_done a b i j old out s h g = extends-along old out _ _ (joined_end o merge a b i j g.more _ s g.even h g.same) g.extends

-- runs of a stretch that is being read
pub record IsPart {C : Type 0} (Fine : ℕ → C → Type 0) (rs : List (Run C)) : Type 0 where
  pub some : AllSome rs
  pub fine : AllFine Fine (elements rs)

module _ {C : Type 0} (Fine : ℕ → C → Type 0) where
  pub no_part : (rs : List (Run C)) → rs ≡ [] → IsPart Fine rs
  no_part rs e = subst (IsPart Fine) (sym e) (record { some = tt; fine = subst (AllFine Fine) (sym (elements-none C)) tt })

  fine_after : (n : ℕ) (es : List (Element C)) → AllFine Fine es → AllFine Fine (drop n es)
  fine_after zero es f = f
  fine_after (suc n) [] f = tt
  fine_after (suc n) (e ∷ es) f = fine_after n es f.1

  fine_rest : (rs : List (Run C)) (at : Cursor) → AllFine Fine (elements rs) → AllFine Fine (rest rs at)
  unfolding rest
  fine_rest rs at f = fine_after at.used (elements (drop at.index rs)) (fine_drop_runs Fine at.index rs f)

  fine_first : (es fs : List (Element C)) (e : Element C) → es ≡ e ∷ fs → AllFine Fine es → Fine e.bits e.cell
  fine_first [] fs e h f = cc
  fine_first (x ∷ es) fs e h f = let g : x ≡ e = cc in subst (λ (y : Element C). Fine y.bits y.cell) g f.0

  pub part_more : (rs : List (Run C)) (i k : Cursor) (old new : List (Run C)) (n : ℕ) → AllFine Fine (elements rs) → IsPart Fine old → Moves rs i k old new n → IsPart Fine new
  part_more rs i k old new n f p m =
      let e = fine_first (rest rs i) (rest rs k) m.moved m.from (fine_rest rs i f) in
      record { some = m.into.some p.some; fine = subst (AllFine Fine) (sym m.into.elements) (AllFine-append Fine (elements old) (m.moved ∷ []) p.fine (e, tt)) }

  pub part_same : (rs slice : List (Run C)) → slice ≡ rs → IsPart Fine rs → IsPart Fine slice
  part_same rs slice e p = subst (IsPart Fine) (sym e) p

module _ {C H : Type 0} (o : Ops C H) (merge : ℕ → C → C → C) where
  pub stretch_even : (a b : List (Run C)) (i0 i j0 j : Cursor) (p q ps qs : List (Run C)) (wp wq : ℕ) → Open o merge a i0 i b j0 j p q wp wq → (wp ≡ wq) × (0 < wp) → ps ≡ p → qs ≡ q →
      (width (elements ps) ≡ width (elements qs)) × (width (elements ps) < 2 ^ 64)
  stretch_even a b i0 i j0 j p q ps qs wp wq h c d e =
      let x = h.wide_left in
      let y = h.wide_right in
      let z = c.0 in
      let u = h.begun in
      let s = h.small in
      let v : width (elements ps) ≡ width (elements p) = ap (λ (r : List (Run C)). width (elements r)) d in
      let w : width (elements qs) ≡ width (elements q) = ap (λ (r : List (Run C)). width (elements r)) e in
      (omega arith, omega arith)
