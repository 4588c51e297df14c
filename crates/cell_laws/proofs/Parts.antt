-- Parts of maps: what they are in bits, and what they describe.
use Rattle.std.proofs.Common.{◌≡◌, ℕ, zero, suc, ◌+◌, ◌-◌, ◌<◌, ◌≤◌, List, [], ◌∷◌, ◌++◌, length, take, drop, refl, sym, ap, ◌∙◌, subst, arith, inl, inr, length-take, length-drop, append-nil, append_assoc}
use Rattle.std.specs.Prelude.{◌==◌, nat_le, min}
use Rattle.std.proofs.lemmas.List.{drop-drop, take-append-le, drop-append-le, take-take, drop-take, drop_all}
use Rattle.std.proofs.lemmas.Bool.{cases_lt, cases_eq, cases_Bool, eqb-true, eqb-false, leb-true, leb-false, ne_eqb, le-leb, lt-leb}
use Rattle.cell_laws.specs.Elements.{Element, width, AllFine}
use Rattle.cell_laws.specs.Cells.{Ops}
use Rattle.cell_laws.specs.Laws.{FineLaws, PartLaws, AccessLaws}
use Rattle.cell_laws.specs.Meaning.{Describes}
use Rattle.cell_laws.specs.Access.{take_bits, drop_bits, copied, pasted}
use Rattle.cell_laws.proofs.Cuts.{width-append}
use Rattle.cell_laws.proofs.Joins.{AllFine-append}

module _ {C H : Type 0} (o : Ops C H) where
  pub width-take : (es : List (Element C)) (n : ℕ) → n ≤ width es → width (take_bits o es n) ≡ n
  unfolding width take_bits
  width-take [] n h = omega arith
  width-take (e ∷ es) n h =
      elim (cases_Bool (n == 0)) [
        | inl z ↦ let i = eqb-true n 0 z in rw z (omega arith)
        | inr z ↦ elim (cases_Bool (nat_le e.bits n)) [
          | inl b ↦ let g = leb-true e.bits n b in let r = width-take es (n - e.bits) (omega arith) in rw (z, b) (omega arith)
          | inr b ↦ rw (z, b) (omega arith)
        ]
      ]

  pub width-drop : (es : List (Element C)) (n : ℕ) → n ≤ width es → width (drop_bits o es n) ≡ width es - n
  unfolding width drop_bits
  width-drop [] n h = omega arith
  width-drop (e ∷ es) n h =
      elim (cases_Bool (n == 0)) [
        | inl z ↦ let i = eqb-true n 0 z in rw z (omega arith)
        | inr z ↦ elim (cases_Bool (nat_le e.bits n)) [
          | inl b ↦ let g = leb-true e.bits n b in let r = width-drop es (n - e.bits) (omega arith) in rw (z, b) (omega arith)
          | inr b ↦ let g = leb-false e.bits n b in rw (z, b) (omega arith)
        ]
      ]

  pub width-copied : (m : List (Element C)) (at n : ℕ) → at + n ≤ width m → width (copied o m at n) ≡ n
  unfolding copied
  width-copied m at n h = let d = width-drop m at (omega arith) in width-take (drop_bits o m at) n (omega arith)

  pub width-pasted : (m : List (Element C)) (at : ℕ) (part : List (Element C)) → at + width part ≤ width m → width (pasted o m at part) ≡ width m
  unfolding pasted
  width-pasted m at part h =
      let a = width-append (take_bits o m at) (part ++ drop_bits o m (at + width part)) in
      let b = width-append part (drop_bits o m (at + width part)) in
      let t = width-take m at (omega arith) in
      let d = width-drop m (at + width part) h in
      omega arith

  -- at a cut the parts are the lists themselves

  take_none : (es : List (Element C)) → take_bits o es 0 ≡ []
  unfolding take_bits
  take_none [] = refl
  take_none (e ∷ es) = refl

  pub drop_none : (es : List (Element C)) → drop_bits o es 0 ≡ es
  unfolding drop_bits
  drop_none [] = refl
  drop_none (e ∷ es) = refl

  pub take_whole : (e : Element C) (es : List (Element C)) (n m : ℕ) → 0 < e.bits → n ≡ e.bits + m → take_bits o (e ∷ es) n ≡ e ∷ take_bits o es m
  unfolding take_bits
  take_whole e es n m p h =
      let i : n - e.bits ≡ m = omega arith in
      rw (ne_eqb n 0 (λ z. omega arith), le-leb e.bits n (omega arith), i) refl

  pub drop_whole : (e : Element C) (es : List (Element C)) (n m : ℕ) → 0 < e.bits → n ≡ e.bits + m → drop_bits o (e ∷ es) n ≡ drop_bits o es m
  unfolding drop_bits
  drop_whole e es n m p h =
      let i : n - e.bits ≡ m = omega arith in
      rw (ne_eqb n 0 (λ z. omega arith), le-leb e.bits n (omega arith), i) refl

module _ {C H : Type 0} (o : Ops C H) (Fine : ℕ → C → Type 0) (n : FineLaws o Fine) where
  pub take_front : (xs ys : List (Element C)) → AllFine Fine xs → take_bits o (xs ++ ys) (width xs) ≡ xs
  unfolding width
  take_front [] ys f = take_none o ys
  take_front (x ∷ xs) ys f =
      take_whole o x (xs ++ ys) (x.bits + width xs) (width xs) (n.some_bits x.bits x.cell f.0) refl ∙ ap (λ (l : List (Element C)). x ∷ l) (take_front xs ys f.1)

  pub drop_front : (xs ys : List (Element C)) → AllFine Fine xs → drop_bits o (xs ++ ys) (width xs) ≡ ys
  unfolding width
  drop_front [] ys f = drop_none o ys
  drop_front (x ∷ xs) ys f = drop_whole o x (xs ++ ys) (x.bits + width xs) (width xs) (n.some_bits x.bits x.cell f.0) refl ∙ drop_front xs ys f.1

-- ---- fine cells stay fine

module _ {C H : Type 0} (o : Ops C H) (Fine : ℕ → C → Type 0) (a : PartLaws o Fine) where
  pub fine_take : (es : List (Element C)) (n : ℕ) → AllFine Fine es → AllFine Fine (take_bits o es n)
  unfolding take_bits
  fine_take [] n f = tt
  fine_take (e ∷ es) n f =
      elim (cases_Bool (n == 0)) [
        | inl z ↦ rw z tt
        | inr z ↦ elim (cases_Bool (nat_le e.bits n)) [
          | inl b ↦ rw (z, b) (f.0, fine_take es (n - e.bits) f.1)
          | inr b ↦
              let y = eqb-false n 0 z in
              let g = leb-false e.bits n b in
              rw (z, b) (a.piece_fine e.bits e.cell 0 n f.0 (omega arith) (omega arith) (omega arith), tt)
        ]
      ]

  pub fine_drop : (es : List (Element C)) (n : ℕ) → AllFine Fine es → AllFine Fine (drop_bits o es n)
  unfolding drop_bits
  fine_drop [] n f = tt
  fine_drop (e ∷ es) n f =
      elim (cases_Bool (n == 0)) [
        | inl z ↦ rw z f
        | inr z ↦ elim (cases_Bool (nat_le e.bits n)) [
          | inl b ↦ rw (z, b) (fine_drop es (n - e.bits) f.1)
          | inr b ↦
              let y = eqb-false n 0 z in
              let g = leb-false e.bits n b in
              rw (z, b) (a.piece_fine e.bits e.cell n (e.bits - n) f.0 (omega arith) (omega arith) (omega arith), f.1)
        ]
      ]

  pub fine_copied : (m : List (Element C)) (at n : ℕ) → AllFine Fine m → AllFine Fine (copied o m at n)
  unfolding copied
  fine_copied m at n f = fine_take (drop_bits o m at) n (fine_drop m at f)

  pub fine_pasted : (m : List (Element C)) (at : ℕ) (part : List (Element C)) → AllFine Fine m → AllFine Fine part → AllFine Fine (pasted o m at part)
  unfolding pasted
  fine_pasted m at part f g =
      AllFine-append Fine (take_bits o m at) (part ++ drop_bits o m (at + width part)) (fine_take m at f)
      (AllFine-append Fine part (drop_bits o m (at + width part)) g (fine_drop m (at + width part) f))

-- ---- bit for bit

module _ {C H : Type 0} (o : Ops C H) (Fine : ℕ → C → Type 0) (n : FineLaws o Fine) where
  -- what was pasted stands there
  pub pasted_part : (m : List (Element C)) (at : ℕ) (part : List (Element C)) → AllFine Fine (take_bits o m at) → AllFine Fine part → at ≤ width m → copied o (pasted o m at part) at (width part) ≡ part
  unfolding copied pasted
  pasted_part m at part f g h =
      let w = width-take o m at h in
      let d : drop_bits o (take_bits o m at ++ (part ++ drop_bits o m (at + width part))) at ≡ part ++ drop_bits o m (at + width part) =
      ap (drop_bits o (take_bits o m at ++ (part ++ drop_bits o m (at + width part)))) (sym w) ∙ drop_front o Fine n (take_bits o m at) (part ++ drop_bits o m (at + width part)) f in
      ap (λ (l : List (Element C)). take_bits o l (width part)) d ∙ take_front o Fine n part (drop_bits o m (at + width part)) g

  -- and the bits before and behind are as they were
  pub pasted_front : (m : List (Element C)) (at : ℕ) (part : List (Element C)) → AllFine Fine (take_bits o m at) → at ≤ width m → take_bits o (pasted o m at part) at ≡ take_bits o m at
  unfolding pasted
  pasted_front m at part f h =
      let w = width-take o m at h in
      ap (take_bits o (take_bits o m at ++ (part ++ drop_bits o m (at + width part)))) (sym w) ∙ take_front o Fine n (take_bits o m at) (part ++ drop_bits o m (at + width part)) f

  pub pasted_rest : (m : List (Element C)) (at : ℕ) (part : List (Element C)) → AllFine Fine (take_bits o m at) → AllFine Fine part → at ≤ width m →
      drop_bits o (pasted o m at part) (at + width part) ≡ drop_bits o m (at + width part)
  unfolding pasted
  pasted_rest m at part f g h =
      let w = width-take o m at h in
      let v : at + width part ≡ width (take_bits o m at ++ part) = sym (width-append (take_bits o m at) part ∙ ap (λ (x : ℕ). x + width part) w) in
      let e : take_bits o m at ++ (part ++ drop_bits o m (at + width part)) ≡ (take_bits o m at ++ part) ++ drop_bits o m (at + width part) =
      sym (append_assoc (take_bits o m at) part (drop_bits o m (at + width part))) in
      ap (λ (l : List (Element C)). drop_bits o l (at + width part)) e
      ∙ ap (drop_bits o ((take_bits o m at ++ part) ++ drop_bits o m (at + width part))) v
      ∙ drop_front o Fine n (take_bits o m at ++ part) (drop_bits o m (at + width part)) (AllFine-append Fine (take_bits o m at) part f g)

-- ---- what parts describe

module _ {C K : Type 0} (Allows : ℕ → C → List K → Type 0) where
  pub describes-append : (xs ys : List (Element C)) (js ks : List K) → length js ≡ width xs → Describes Allows xs js → Describes Allows ys ks → Describes Allows (xs ++ ys) (js ++ ks)
  unfolding width
  describes-append [] ys js ks w a b = subst (λ (x : List K). Describes Allows ys (x ++ ks)) (sym a) b
  describes-append (x ∷ xs) ys js ks w a b =
      let t : take x.bits (js ++ ks) ≡ take x.bits js = take-append-le x.bits js ks (omega arith) in
      let d : drop x.bits (js ++ ks) ≡ drop x.bits js ++ ks = drop-append-le x.bits js ks (omega arith) in
      let n : length (drop x.bits js) ≡ width xs = simp length-drop (omega arith) in
      let r : Describes Allows (xs ++ ys) (drop x.bits js ++ ks) = describes-append xs ys (drop x.bits js) ks n a.1 b in
      (subst (λ (l : List K). Allows x.bits x.cell l) (sym t) a.0, subst (λ (l : List K). Describes Allows (xs ++ ys) l) (sym d) r)

module _ {C H K : Type 0} (o : Ops C H) (Fine : ℕ → C → Type 0) (Allows Gives : ℕ → C → List K → Type 0) (q : PartLaws o Fine) (l : AccessLaws o Fine Allows Gives) where
  pub take_describes : (es : List (Element C)) (n : ℕ) (ks : List K) → AllFine Fine es → Describes Allows es ks → Describes Allows (take_bits o es n) (take n ks)
  unfolding take_bits
  take_describes [] zero ks f d = refl
  take_describes [] (suc n) ks f d = subst (λ (x : List K). take (suc n) x ≡ []) (sym d) refl
  take_describes (e ∷ es) n ks f d =
      elim (cases_Bool (n == 0)) [
        | inl z ↦ let i = eqb-true n 0 z in rw (z, i) refl
        | inr z ↦ elim (cases_Bool (nat_le e.bits n)) [
          | inl b ↦
              let g = leb-true e.bits n b in
              let r = take_describes es (n - e.bits) (drop e.bits ks) f.1 d.1 in
              let t : take e.bits (take n ks) ≡ take e.bits ks = take-take e.bits n ks g in
              let i : e.bits + (n - e.bits) ≡ n = omega arith in
              let q : drop e.bits (take n ks) ≡ take (n - e.bits) (drop e.bits ks) = ap (λ (x : ℕ). drop e.bits (take x ks)) (sym i) ∙ drop-take e.bits (n - e.bits) ks in
              rw (z, b) (subst (λ (x : List K). Allows e.bits e.cell x) (sym t) d.0, subst (λ (x : List K). Describes Allows (take_bits o es (n - e.bits)) x) (sym q) r)
          | inr b ↦
              let g = leb-false e.bits n b in
              let y = eqb-false n 0 z in
              let p = l.piece_allows e.bits e.cell 0 n (take e.bits ks) f.0 (omega arith) (omega arith) (omega arith) d.0 in
              let t : take n (take n ks) ≡ take n (take e.bits ks) = take-take n n ks (omega arith) ∙ sym (take-take n e.bits ks (omega arith)) in
              let q : drop n (take n ks) ≡ [] = drop_all n (take n ks) (simp length-take (omega arith)) in
              rw (z, b) (subst (λ (x : List K). Allows n (o.piece e.bits e.cell 0 n) x) (sym t) p, q)
        ]
      ]

  pub drop_describes : (es : List (Element C)) (n : ℕ) (ks : List K) → AllFine Fine es → Describes Allows es ks → Describes Allows (drop_bits o es n) (drop n ks)
  unfolding drop_bits
  drop_describes [] zero ks f d = d
  drop_describes [] (suc n) ks f d = subst (λ (x : List K). drop (suc n) x ≡ []) (sym d) refl
  drop_describes (e ∷ es) n ks f d =
      elim (cases_Bool (n == 0)) [
        | inl z ↦ let i = eqb-true n 0 z in rw (z, i) d
        | inr z ↦ elim (cases_Bool (nat_le e.bits n)) [
          | inl b ↦
              let g = leb-true e.bits n b in
              let r = drop_describes es (n - e.bits) (drop e.bits ks) f.1 d.1 in
              let i : e.bits + (n - e.bits) ≡ n = omega arith in
              let q : drop (n - e.bits) (drop e.bits ks) ≡ drop n ks = drop-drop (n - e.bits) e.bits ks ∙ ap (λ (x : ℕ). drop x ks) i in
              rw (z, b) (subst (λ (x : List K). Describes Allows (drop_bits o es (n - e.bits)) x) q r)
          | inr b ↦
              let g = leb-false e.bits n b in
              let y = eqb-false n 0 z in
              let p = l.piece_allows e.bits e.cell n (e.bits - n) (take e.bits ks) f.0 (omega arith) (omega arith) (omega arith) d.0 in
              let i : n + (e.bits - n) ≡ e.bits = omega arith in
              let u : drop n (take e.bits ks) ≡ take (e.bits - n) (drop n ks) = ap (λ (x : ℕ). drop n (take x ks)) (sym i) ∙ drop-take n (e.bits - n) ks in
              let v : take (e.bits - n) (drop n (take e.bits ks)) ≡ take (e.bits - n) (drop n ks) = ap (take (e.bits - n)) u ∙ take-take (e.bits - n) (e.bits - n) (drop n ks) (omega arith) in
              let w : drop (e.bits - n) (drop n ks) ≡ drop e.bits ks = drop-drop (e.bits - n) n ks ∙ ap (λ (x : ℕ). drop x ks) i in
              rw (z, b) (subst (λ (x : List K). Allows (e.bits - n) (o.piece e.bits e.cell n (e.bits - n)) x) v p, subst (λ (x : List K). Describes Allows es x) (sym w) d.1)
        ]
      ]

  pub copied_describes : (m : List (Element C)) (at n : ℕ) (ks : List K) → AllFine Fine m → Describes Allows m ks → Describes Allows (copied o m at n) (take n (drop at ks))
  unfolding copied
  copied_describes m at n ks f d =
      take_describes (drop_bits o m at) n (drop at ks) (fine_drop o Fine q m at f) (drop_describes m at ks f d)

  -- the pasted bits have the content of the part, and the others are as they were
  pub pasted_describes : (m : List (Element C)) (at : ℕ) (part : List (Element C)) (ks cs : List K) → AllFine Fine m → at + width part ≤ width m → length ks ≡ width m → length cs ≡ width part →
      Describes Allows m ks → Describes Allows part cs → Describes Allows (pasted o m at part) (take at ks ++ (cs ++ drop (at + width part) ks))
  unfolding pasted
  pasted_describes m at part ks cs f h w n d c =
      let r : Describes Allows (drop_bits o m (at + width part)) (drop (at + width part) ks) = drop_describes m (at + width part) ks f d in
      let e = describes-append Allows part (drop_bits o m (at + width part)) cs (drop (at + width part) ks) n c r in
      let g : length (take at ks) ≡ width (take_bits o m at) = simp length-take (let v = width-take o m at (omega arith) in omega arith) in
      describes-append Allows (take_bits o m at) (part ++ drop_bits o m (at + width part)) (take at ks) (cs ++ drop (at + width part) ks) g (take_describes m at ks f d) e

-- ---- parts of lists that follow each other

module _ {C : Type 0} where
  abbrev pub AllBits : List (Element C) → Type 0
  AllBits [] = Unit {0}
  AllBits (e ∷ es) = (0 < e.bits) × AllBits es

  pub AllBits-append : (xs ys : List (Element C)) → AllBits xs → AllBits ys → AllBits (xs ++ ys)
  AllBits-append [] ys a b = b
  AllBits-append (x ∷ xs) ys a b = (a.0, AllBits-append xs ys a.1 b)

module _ {C H : Type 0} (o : Ops C H) where
  pub take_zero : (es : List (Element C)) → take_bits o es 0 ≡ []
  take_zero es = take_none o es

  pub take_short : (e : Element C) (es : List (Element C)) (n : ℕ) → 0 < n → n < e.bits → take_bits o (e ∷ es) n ≡ record { bits = n; cell = o.piece e.bits e.cell 0 n } ∷ []
  unfolding take_bits
  take_short e es n p h = rw (ne_eqb n 0 (λ z. omega arith), lt-leb e.bits n h) refl

  pub drop_short : (e : Element C) (es : List (Element C)) (n : ℕ) → 0 < n → n < e.bits → drop_bits o (e ∷ es) n ≡ record { bits = e.bits - n; cell = o.piece e.bits e.cell n (e.bits - n) } ∷ es
  unfolding drop_bits
  drop_short e es n p h = rw (ne_eqb n 0 (λ z. omega arith), lt-leb e.bits n h) refl

  pub drop_end : (n : ℕ) → drop_bits o [] n ≡ []
  unfolding drop_bits
  drop_end n = refl

  pub take_end : (n : ℕ) → take_bits o [] n ≡ []
  unfolding take_bits
  take_end n = refl

  -- the first n bits of two lists, m of them in the first one
  pub take_both : (xs ys : List (Element C)) (n m : ℕ) → AllBits xs → m ≡ min n (width xs) → take_bits o (xs ++ ys) n ≡ take_bits o xs m ++ take_bits o ys (n - m)
  unfolding width
  take_both [] ys n m b e =
      let i : n - m ≡ n = omega arith in
      ap (take_bits o ys) (sym i) ∙ ap (λ (l : List (Element C)). l ++ take_bits o ys (n - m)) (sym (take_end m))
  take_both (x ∷ xs) ys n m b e =
      let p = b.0 in
      elim (cases_eq n 0) [
        | inl z ↦
            let i : m ≡ 0 = omega arith in
            let j : n - m ≡ 0 = omega arith in
            ap (take_bits o (x ∷ (xs ++ ys))) z ∙ take_none o (x ∷ (xs ++ ys))
            ∙ sym (ap (λ (k : ℕ). take_bits o (x ∷ xs) k ++ take_bits o ys (n - m)) i ∙ ap (λ (l : List (Element C)). l ++ take_bits o ys (n - m)) (take_none o (x ∷ xs))
            ∙ ap (take_bits o ys) j ∙ take_none o ys)
        | inr s ↦ elim (cases_lt n x.bits) [
          | inl l ↦
              let i : m ≡ n = omega arith in
              let j : n - m ≡ 0 = omega arith in
              take_short x (xs ++ ys) n (omega arith) l
              ∙ sym (ap (λ (k : ℕ). take_bits o (x ∷ xs) k ++ take_bits o ys (n - m)) i ∙ ap (λ (l : List (Element C)). l ++ take_bits o ys (n - m)) (take_short x xs n (omega arith) l)
              ∙ ap (λ (k : ℕ). (record { bits = n; cell = o.piece x.bits x.cell 0 n } ∷ []) ++ take_bits o ys k) j
              ∙ ap (λ (l : List (Element C)). (record { bits = n; cell = o.piece x.bits x.cell 0 n } ∷ []) ++ l) (take_none o ys))
          | inr g ↦
              let i : n ≡ x.bits + (n - x.bits) = omega arith in
              let j : m ≡ x.bits + (m - x.bits) = omega arith in
              let k : n - x.bits - (m - x.bits) ≡ n - m = omega arith in
              take_whole o x (xs ++ ys) n (n - x.bits) p i
              ∙ ap (λ (l : List (Element C)). x ∷ l) (take_both xs ys (n - x.bits) (m - x.bits) b.1 (omega arith) ∙ ap (λ (h : ℕ). take_bits o xs (m - x.bits) ++ take_bits o ys h) k)
              ∙ ap (λ (l : List (Element C)). l ++ take_bits o ys (n - m)) (sym (take_whole o x xs m (m - x.bits) p j))
        ]
      ]

  -- bits of the second list
  pub drop_second : (xs ys : List (Element C)) (n : ℕ) → AllBits xs → width xs ≤ n → drop_bits o (xs ++ ys) n ≡ drop_bits o ys (n - width xs)
  unfolding width
  drop_second [] ys n b h = ap (drop_bits o ys) (omega arith)
  drop_second (x ∷ xs) ys n b h =
      let i : n ≡ x.bits + (n - x.bits) = omega arith in
      let k : n - x.bits - width xs ≡ n - (x.bits + width xs) = omega arith in
      drop_whole o x (xs ++ ys) n (n - x.bits) b.0 i ∙ drop_second xs ys (n - x.bits) b.1 (omega arith) ∙ ap (drop_bits o ys) k

  -- bits of the first list, and all of the second
  pub drop_first : (xs ys : List (Element C)) (n : ℕ) → AllBits xs → n ≤ width xs → drop_bits o (xs ++ ys) n ≡ drop_bits o xs n ++ ys
  unfolding width
  drop_first [] ys n b h =
      let z : n ≡ 0 = omega arith in
      ap (drop_bits o ys) z ∙ drop_none o ys ∙ ap (λ (l : List (Element C)). l ++ ys) (sym (drop_end n))
  drop_first (x ∷ xs) ys n b h =
      let p = b.0 in
      elim (cases_eq n 0) [
        | inl z ↦ ap (drop_bits o (x ∷ (xs ++ ys))) z ∙ drop_none o (x ∷ (xs ++ ys)) ∙ ap (λ (l : List (Element C)). l ++ ys) (sym (ap (drop_bits o (x ∷ xs)) z ∙ drop_none o (x ∷ xs)))
        | inr s ↦ elim (cases_lt n x.bits) [
          | inl l ↦ drop_short x (xs ++ ys) n (omega arith) l ∙ ap (λ (l : List (Element C)). l ++ ys) (sym (drop_short x xs n (omega arith) l))
          | inr g ↦
              let i : n ≡ x.bits + (n - x.bits) = omega arith in
              drop_whole o x (xs ++ ys) n (n - x.bits) p i ∙ drop_first xs ys (n - x.bits) b.1 (omega arith)
              ∙ ap (λ (l : List (Element C)). l ++ ys) (sym (drop_whole o x xs n (n - x.bits) p i))
        ]
      ]

  -- what the first list has not is taken of the second
  pub take_then : (xs ys : List (Element C)) (n : ℕ) → AllBits xs → take_bits o (xs ++ ys) n ≡ take_bits o xs n ++ take_bits o ys (n - width xs)
  take_then xs ys n b =
      let m = min n (width xs) in
      let i : n - m ≡ n - width xs = omega arith in
      let a = take_both xs ys n m b refl in
      let c = take_both xs [] n m b refl in
      let d : take_bits o xs n ≡ take_bits o xs m =
      ap (λ (l : List (Element C)). take_bits o l n) (sym (append-nil xs)) ∙ c ∙ ap (λ (l : List (Element C)). take_bits o xs m ++ l) (take_end (n - m)) ∙ append-nil (take_bits o xs m) in
      a ∙ ap (λ (l : List (Element C)). l ++ take_bits o ys (n - m)) (sym d) ∙ ap (λ (k : ℕ). take_bits o xs n ++ take_bits o ys k) i
