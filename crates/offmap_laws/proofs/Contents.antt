-- Single contents, deaths, and elements at the same bits.
use Rattle.std.proofs.Common.{◌≡◌, ℕ, zero, suc, ◌<◌, Bool, true, List, [], ◌∷◌, ◌++◌, length, take, drop, map, refl, sym, ap, ◌∙◌, subst, arith, inl, inr, append-nil}
use Rattle.std.specs.List.{list_all}
use Rattle.std.proofs.lemmas.List.{take_at, drop_at, take_all, take-append-drop, take-map, drop-map}
use Rattle.std.proofs.lemmas.Bool.{and_parts, and_from, cases_Bool}
use Rattle.cell_laws.specs.Elements.{Element, width, AllFine, spread}
use Rattle.cell_laws.specs.Cells.{Ops}
use Rattle.cell_laws.specs.Laws.{FineLaws, OrderLaws, JoinLaws, AccessLaws}
use Rattle.cell_laws.specs.Order.{is_in}
use Rattle.cell_laws.specs.Join.{joined, joined_cell}
use Rattle.cell_laws.specs.Meaning.{Describes}
use Rattle.cell_laws.specs.Access.{filled}
use Rattle.cell_laws.proofs.Parts.{describes-append}
use Rattle.cell_laws.proofs.Splits.{AllBits, joined_at}
use Rattle.run_orders.specs.Singles.{all_single}
use Rattle.run_orders.specs.Deaths.{left_all, LeftLaws}
use Rattle.run_orders.proofs.Leaving.{filled_blank, filled_whole, width-filled}
use Rattle.offmap_laws.specs.Contents.{AllAlike, SingleLaws, DeathLaws}

-- ---- single contents

module _ {K : Type 0} (Alike : K → K → Type 0) where
  alike_both : (n : ℕ) (js ks : List K) → AllAlike Alike (take n js) (take n ks) → AllAlike Alike (drop n js) (drop n ks) → AllAlike Alike js ks
  alike_both zero js ks a b = b
  alike_both (suc n) [] [] a b = tt
  alike_both (suc n) [] (k ∷ ks) a b = absurd a
  alike_both (suc n) (j ∷ js) [] a b = absurd a
  alike_both (suc n) (j ∷ js) (k ∷ ks) a b = (a.0, alike_both n js ks a.1 b)

  alike_front : (is js ds es : List K) → length is ≡ length js → AllAlike Alike (is ++ ds) (js ++ es) → AllAlike Alike is js
  alike_front [] [] ds es w a = tt
  alike_front [] (j ∷ js) ds es w a = absurd (omega arith)
  alike_front (i ∷ is) [] ds es w a = absurd (omega arith)
  alike_front (i ∷ is) (j ∷ js) ds es w a = (a.0, alike_front is js ds es (omega arith) a.1)

  alike_rest : (is ds es : List K) → AllAlike Alike (is ++ ds) (is ++ es) → AllAlike Alike ds es
  alike_rest [] ds es a = a
  alike_rest (i ∷ is) ds es a = alike_rest is ds es a.1

module _ {C K : Type 0} (Fine : ℕ → C → Type 0) (Allows : ℕ → C → List K → Type 0) (Alike : K → K → Type 0) (single : ℕ → C → Bool)
    (one : (k : ℕ) (c : C) (js ks : List K) → Fine k c → single k c ≡ true → Allows k c js → Allows k c ks → AllAlike Alike js ks) where
  pub single_describes : (m : List (Element C)) (js ks : List K) → AllFine Fine m → all_single single m ≡ true → Describes Allows m js → Describes Allows m ks → AllAlike Alike js ks
  unfolding all_single
  single_describes [] js ks f h a b = subst (λ (x : List K). AllAlike Alike x ks) (sym a) (subst (AllAlike Alike []) (sym b) tt)
  single_describes (e ∷ es) js ks f h a b =
      let p = and_parts (single e.bits e.cell) (list_all (λ (x : Element C). single x.bits x.cell) es) h in
      alike_both Alike e.bits js ks (one e.bits e.cell (take e.bits js) (take e.bits ks) f.0 p.0 a.0 b.0) (single_describes es (drop e.bits js) (drop e.bits ks) f.1 p.1 a.1 b.1)

module _ {C K : Type 0} (Fine : ℕ → C → Type 0) (Allows : ℕ → C → List K → Type 0) (Alike : K → K → Type 0) (single : ℕ → C → Bool) (l : SingleLaws Fine Allows Alike single) where
  -- an element's content, and the others'
  joined_content : (e : Element C) (es : List (Element C)) (js ks : List K) → Allows e.bits e.cell js → Describes Allows es ks → Describes Allows (e ∷ es) (js ++ ks)
  joined_content e es js ks a d =
      let w = l.wide e.bits e.cell js a in (
        subst (Allows e.bits e.cell) (sym (take_at js ks e.bits w)) a,
        subst (Describes Allows es) (sym (drop_at js ks e.bits w)) d,
      )

  some_content : (m : List (Element C)) → AllFine Fine m → (ks : List K) × Describes Allows m ks
  some_content [] f = ([], refl)
  some_content (e ∷ es) f =
      let a = l.some e.bits e.cell f.0 in
      let b = some_content es f.1 in
      (a.0 ++ b.0, joined_content e es a.0 b.0 a.1 b.1)

  pub one_is_single : (m : List (Element C)) → AllFine Fine m → ((js ks : List K) → Describes Allows m js → Describes Allows m ks → AllAlike Alike js ks) → all_single single m ≡ true
  unfolding all_single
  one_is_single [] f h = refl
  one_is_single (e ∷ es) f h =
      let a = l.some e.bits e.cell f.0 in
      let b = some_content es f.1 in
      let first : single e.bits e.cell ≡ true =
      l.one_single e.bits e.cell f.0 (λ js ks u v. alike_front Alike js ks b.0 b.0 (l.wide e.bits e.cell js u ∙ sym (l.wide e.bits e.cell ks v))
      (h (js ++ b.0) (ks ++ b.0) (joined_content e es js b.0 u b.1) (joined_content e es ks b.0 v b.1))) in
      let rest = one_is_single es f.1 (λ js ks u v. alike_rest Alike a.0 js ks (h (a.0 ++ js) (a.0 ++ ks) (joined_content e es a.0 js a.1 u) (joined_content e es a.0 ks a.1 v))) in
      and_from _ _ first rest

-- ---- deaths

module _ {C H K : Type 0} (o : Ops C H) (Fine : ℕ → C → Type 0) (Allows Gives : ℕ → C → List K → Type 0) (a : AccessLaws o Fine Allows Gives) (wither : K → K) (left : C → C)
    (wide : (k : ℕ) (c : C) (ks : List K) → Allows k c ks → length ks ≡ k) (l : LeftLaws o Fine left) (d : DeathLaws Fine Allows wither left) where
  filled_allows : (k : ℕ) (c : C) (ks : List K) → (o.blank c ≡ true → Fine 1 c) → Allows k c ks → Describes Allows (filled o k c) ks
  filled_allows k c ks f h =
      elim (cases_Bool (o.blank c)) [
        | inl b ↦ subst (λ (x : List (Element C)). Describes Allows x ks) (sym (filled_blank o k c b)) (a.blank_allows k c ks (f b) b h)
        | inr b ↦
            let w = wide k c ks h in
            let t : take k ks ≡ ks = take_all k ks (omega arith) in
            let n : drop k ks ≡ [] = ap (drop k) (sym (append-nil ks)) ∙ drop_at ks [] k w in
            subst (λ (x : List (Element C)). Describes Allows x ks) (sym (filled_whole o k c b)) (subst (Allows k c) (sym t) h, n)
      ]

  pub left_describes : (m : List (Element C)) (ks : List K) → AllFine Fine m → Describes Allows m ks → Describes Allows (left_all o left m) (map wither ks)
  unfolding left_all
  left_describes [] ks f h = ap (map wither) h
  left_describes (e ∷ es) ks f h =
      let one = d.left_allows e.bits e.cell (take e.bits ks) f.0 h.0 in
      let p = filled_allows e.bits (left e.cell) (map wither (take e.bits ks)) (l.left_blank e.bits e.cell f.0) one in
      let r = left_describes es (drop e.bits ks) f.1 h.1 in
      let w = wide e.bits (left e.cell) (map wither (take e.bits ks)) one in
      let both = describes-append Allows (filled o e.bits (left e.cell)) (left_all o left es) (map wither (take e.bits ks)) (map wither (drop e.bits ks)) (w ∙ sym (width-filled o e.bits (left e.cell))) p r in
      let g : map wither (take e.bits ks) ++ map wither (drop e.bits ks) ≡ map wither ks =
      ap (λ (x : List K). x ++ map wither (drop e.bits ks)) (sym (take-map wither e.bits ks)) ∙ ap (λ (x : List K). take e.bits (map wither ks) ++ x) (sym (drop-map wither e.bits ks)) ∙ take-append-drop e.bits (map wither ks) in
      subst (Describes Allows (filled o e.bits (left e.cell) ++ left_all o left es)) g both

-- ---- one element at the same bits

module _ {C H : Type 0} (o : Ops C H) (Fine : ℕ → C → Type 0) (n : FineLaws o Fine) where
  bits_of : (es : List (Element C)) → AllFine Fine es → AllBits es
  bits_of [] f = tt
  bits_of (e ∷ es) f = (n.some_bits e.bits e.cell f.0, bits_of es f.1)

  pub joined_there : (merge : ℕ → C → C → C) (xs ys vs ws : List (Element C)) (k : ℕ) (x y : C) → AllFine Fine xs → AllFine Fine ys → width xs ≡ width ys → 0 < k →
      joined o merge (xs ++ record { bits = k; cell = x } ∷ vs) (ys ++ record { bits = k; cell = y } ∷ ws) ≡ joined o merge xs ys ++ record { bits = k; cell = merge k x y } ∷ joined o merge vs ws
  joined_there merge xs ys vs ws k x y f g w p = joined_at o merge xs ys vs ws k x y (bits_of xs f) (bits_of ys g) w p

module _ {C H : Type 0} (o : Ops C H) (Fine : ℕ → C → Type 0) (l : OrderLaws o Fine) (j : JoinLaws o Fine) where
  -- the join's cell is the second, or the join of the two
  pub cell_within : (k : ℕ) (x y : C) → Fine k x → Fine k y → o.leq (joined_cell o k x y) (o.join x y) ≡ true
  unfolding joined_cell
  cell_within k x y f g =
      elim (cases_Bool (is_in o k y (spread k x 0 k))) [
        | inl a ↦ rw a (j.join_right k x y f g)
        | inr a ↦ rw a (l.leq_refl k (o.join x y) (j.join_fine k x y f g))
      ]
