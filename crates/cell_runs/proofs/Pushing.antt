-- Runs that are added behind others.
use Rattle.std.proofs.Common.{◌≡◌, ℕ, zero, suc, ◌+◌, ◌<◌, List, [], ◌∷◌, ◌++◌, length, refl, sym, ap, ◌∙◌, subst, arith, append-nil, append_assoc, get_or, set}
use Rattle.std.specs.Prelude.{replicate}
use Rattle.std.proofs.lemmas.List.{replicate-append-replicate, get_or_default}
use Rattle.cell_laws.specs.Elements.{Element}
use Rattle.cell_runs.specs.declared.runs.Run.{Run}
use Rattle.cell_runs.specs.Runs.{element_of, elements, AllSome, IsApart, IsApartFrom, AreApart, StaysApart, Grows, Extends}

module _ {C : Type 0} where
  pub elements-append : (rs ss : List (Run C)) → elements (rs ++ ss) ≡ elements rs ++ elements ss
  unfolding elements
  elements-append [] ss = refl
  elements-append (r ∷ rs) ss = ap (λ (l : List (Element C)). replicate r.count (element_of r) ++ l) (elements-append rs ss) ∙ sym (append_assoc (replicate r.count (element_of r)) (elements rs) (elements ss))

  pub elements-one : (r : Run C) → elements (r ∷ []) ≡ replicate r.count (element_of r)
  unfolding elements
  elements-one r = append-nil (replicate r.count (element_of r))

  abbrev more_of : Run C → ℕ → Run C
  more_of r m = record { bits = r.bits; count = r.count + m; cell = r.cell }

  -- a run that grows at the end
  elements-grow : (rs : List (Run C)) (r : Run C) (n m : ℕ) → length rs ≡ suc n → r ≡ get_or rs n r → elements (set rs n (more_of r m)) ≡ elements rs ++ replicate m (element_of r)
  unfolding elements
  elements-grow [] r n m l e = absurd (omega arith)
  elements-grow (s ∷ []) r zero m l e =
      let g : replicate (r.count + m) (element_of r) ≡ replicate r.count (element_of r) ++ replicate m (element_of r) = sym (replicate-append-replicate r.count m (element_of r)) in
      rw (append-nil, append-nil, g) (ap (λ (x : Run C). replicate x.count (element_of x) ++ replicate m (element_of r)) e)
  elements-grow (s ∷ t ∷ rs) r zero m l e = absurd (omega arith)
  elements-grow (s ∷ []) r (suc n) m l e = absurd (omega arith)
  elements-grow (s ∷ t ∷ rs) r (suc n) m l e =
      ap (λ (x : List (Element C)). replicate s.count (element_of s) ++ x) (elements-grow (t ∷ rs) r n m (omega arith) e)
      ∙ sym (append_assoc (replicate s.count (element_of s)) (elements (t ∷ rs)) (replicate m (element_of r)))

  some-grow : (rs : List (Run C)) (r : Run C) (n m : ℕ) → length rs ≡ suc n → r ≡ get_or rs n r → AllSome rs → AllSome (set rs n (more_of r m))
  some-grow [] r n m l e s = absurd (omega arith)
  some-grow (t ∷ []) r zero m l e s =
      let b : r.bits ≡ t.bits = ap (λ (x : Run C). x.bits) e in
      let c : r.count ≡ t.count = ap (λ (x : Run C). x.count) e in
      let p = s.0 in let q = s.1 in
      (omega arith, omega arith, tt)
  some-grow (t ∷ u ∷ rs) r zero m l e s = absurd (omega arith)
  some-grow (t ∷ []) r (suc n) m l e s = absurd (omega arith)
  some-grow (t ∷ u ∷ rs) r (suc n) m l e s = (s.0, s.1, some-grow (u ∷ rs) r n m (omega arith) e s.2)

  apart-first : (s : Run C) (rs : List (Run C)) (r : Run C) (n m : ℕ) → length rs ≡ suc n → r ≡ get_or rs n r → IsApartFrom s rs → IsApartFrom s (set rs n (more_of r m))
  apart-first s [] r n m l e a = absurd (omega arith)
  apart-first s (t ∷ rs) r zero m l e a =
      let b : r.bits ≡ t.bits = ap (λ (x : Run C). x.bits) e in
      let c : r.count ≡ t.count = ap (λ (x : Run C). x.count) e in
      let d : r.cell ≡ t.cell = ap (λ (x : Run C). x.cell) e in
      λ f g. let h = a (f ∙ b) (g ∙ d) in omega arith
  apart-first s (t ∷ rs) r (suc n) m l e a = a

  apart-grow : (rs : List (Run C)) (r : Run C) (n m : ℕ) → length rs ≡ suc n → r ≡ get_or rs n r → AreApart rs → AreApart (set rs n (more_of r m))
  apart-grow [] r n m l e a = absurd (omega arith)
  apart-grow (t ∷ []) r zero m l e a = (tt, tt)
  apart-grow (t ∷ u ∷ rs) r zero m l e a = absurd (omega arith)
  apart-grow (t ∷ []) r (suc n) m l e a = absurd (omega arith)
  apart-grow (t ∷ u ∷ rs) r (suc n) m l e a = (apart-first t (u ∷ rs) r n m (omega arith) e a.0, apart-grow (u ∷ rs) r n m (omega arith) e a.1)

  some-push : (rs : List (Run C)) (r : Run C) → 0 < r.bits → 0 < r.count → AllSome rs → AllSome (rs ++ r ∷ [])
  some-push [] r b c s = (b, c, tt)
  some-push (t ∷ rs) r b c s = (s.0, s.1, some-push rs r b c s.2)

  apart-push : (rs : List (Run C)) (r : Run C) → StaysApart rs r → AreApart rs → AreApart (rs ++ r ∷ [])
  apart-push [] r h a = (tt, tt)
  apart-push (t ∷ []) r h a = (h, (tt, tt))
  apart-push (t ∷ u ∷ rs) r h a = (a.0, apart-push (u ∷ rs) r h a.1)

  pub stays : (rs : List (Run C)) (last r : Run C) (n : ℕ) → length rs ≡ suc n → last ≡ get_or rs n last → IsApart last r → StaysApart rs r
  stays [] last r n l e a = absurd (omega arith)
  stays (t ∷ []) last r zero l e a = subst (λ (x : Run C). IsApart x r) e a
  stays (t ∷ u ∷ rs) last r zero l e a = absurd (omega arith)
  stays (t ∷ []) last r (suc n) l e a = absurd (omega arith)
  stays (t ∷ u ∷ rs) last r (suc n) l e a = stays (u ∷ rs) last r n (omega arith) e a

  pub none_apart : (rs : List (Run C)) (r : Run C) → length rs ≡ 0 → StaysApart rs r
  none_apart [] r e = tt
  none_apart (t ∷ rs) r e = absurd (omega arith)

  pub grown : (rs ss : List (Run C)) (r s : Run C) (n : ℕ) → ss ≡ rs → Grows ss s → length rs ≡ suc n → r ≡ get_or rs n r →
      Extends rs (set rs n (record { bits = r.bits; count = r.count + s.count; cell = r.cell })) (replicate s.count (element_of s))
  grown rs ss r s n i g l e =
      let at : g.at ≡ n = let m = g.one_more in let k = ap length i in omega arith in
      let last : g.last ≡ r =
      g.is ∙ get_or_default ss g.at g.last r (omega arith) ∙ ap (λ (x : List (Run C)). get_or x g.at r) i ∙ ap (λ (x : ℕ). get_or rs x r) at ∙ sym e in
      let bits : r.bits ≡ s.bits = ap (λ (x : Run C). x.bits) (sym last) ∙ g.bits in
      let cell : r.cell ≡ s.cell = ap (λ (x : Run C). x.cell) (sym last) ∙ g.cell in
      record {
        elements = elements-grow rs r n s.count l e
            ∙ ap (λ (x : ℕ). elements rs ++ replicate s.count (record { bits = x; cell = r.cell })) bits
            ∙ ap (λ (x : C). elements rs ++ replicate s.count (record { bits = s.bits; cell = x })) cell;
        some = some-grow rs r n s.count l e;
        apart = apart-grow rs r n s.count l e;
      }

  pub pushed : (rs ss new : List (Run C)) (r : Run C) → ss ≡ rs → 0 < r.bits → 0 < r.count → StaysApart ss r → new ≡ rs ++ r ∷ [] → Extends rs new (replicate r.count (element_of r))
  pushed rs ss new r i b c h e =
      let h2 : StaysApart rs r = subst (λ (x : List (Run C)). StaysApart x r) i h in
      record {
        elements = ap elements e ∙ elements-append rs (r ∷ []) ∙ ap (λ (l : List (Element C)). elements rs ++ l) (elements-one r);
        some = λ s. subst AllSome (sym e) (some-push rs r b c s);
        apart = λ a. subst AreApart (sym e) (apart-push rs r h2 a);
      }

  -- elements that were added in two steps
  pub extends-both : (old mid new : List (Run C)) (xs ys : List (Element C)) → Extends old mid xs → Extends mid new ys → Extends old new (xs ++ ys)
  extends-both old mid new xs ys a b = record {
    elements = b.elements ∙ ap (λ (l : List (Element C)). l ++ ys) a.elements ∙ append_assoc (elements old) xs ys;
    some = λ s. b.some (a.some s);
    apart = λ s. b.apart (a.apart s);
  }

  pub extends-none : (old : List (Run C)) → Extends old old []
  extends-none old = record { elements = sym (append-nil (elements old)); some = λ s. s; apart = λ s. s }

  pub extends-along : (old new : List (Run C)) (xs ys : List (Element C)) → xs ≡ ys → Extends old new xs → Extends old new ys
  extends-along old new xs ys e a = subst (λ (l : List (Element C)). Extends old new l) e a
