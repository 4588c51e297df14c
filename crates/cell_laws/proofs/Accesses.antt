-- Loads and stores hold what they must.
use Rattle.std.proofs.Common.{◌≡◌, ℕ, zero, suc, ◌+◌, ◌*◌, ◌<◌, ◌≤◌, Bool, true, false, List, [], ◌∷◌, ◌++◌, length, take, drop, refl, sym, ap, ◌∙◌, subst, arith, inl, inr, length-take, length-drop, ◌⊎◌, append-nil}
use Rattle.std.specs.Prelude.{replicate}
use Rattle.std.proofs.lemmas.List.{replicate-append-replicate, take-append-drop, take_all}
use Rattle.std.proofs.lemmas.Bool.{cases_Bool}
use Rattle.cell_laws.specs.Elements.{Element, width, AllFine}
use Rattle.cell_laws.specs.Cells.{Ops}
use Rattle.cell_laws.specs.Laws.{FineLaws, OrderLaws, JoinLaws, MeaningLaws, PartLaws, AccessLaws}
use Rattle.cell_laws.specs.Join.{joined, joined_cell}
use Rattle.cell_laws.specs.Meaning.{Describes}
use Rattle.cell_laws.specs.Access.{filled, put, repeated, copied, pasted, stored, glued, loaded, loaded_all, weakened, IsSize, AllWithin}
use Rattle.cell_laws.proofs.Cuts.{width-append}
use Rattle.cell_laws.proofs.Joins.{AreFine, AllFine-append, joined_above, joined_left, joined_right, joined_cell_laws}
use Rattle.cell_laws.proofs.Parts.{width-copied, width-pasted, fine_copied, fine_pasted, copied_describes, pasted_describes}
use Rattle.cell_laws.proofs.Soundness.{included_describes}

AllWithin-along : (k n w : ℕ) (ats : List ℕ) → w ≡ n → AllWithin k n ats → AllWithin k w ats
AllWithin-along k n w ats e a = subst (λ (x : ℕ). AllWithin k x ats) (sym e) a

abbrev pub Among : List ℕ → ℕ → Type 0
Among [] n = ⊥
Among (x ∷ xs) n = (n ≡ x) ⊎ Among xs n

module _ {C : Type 0} where
  width_singles : (k : ℕ) (c : C) → width (replicate k (record { bits = 1; cell = c })) ≡ k
  unfolding width
  width_singles zero c = refl
  width_singles (suc k) c = let r = width_singles k c in omega arith

  width_one : (k : ℕ) (c : C) → width (record { bits = k; cell = c } ∷ []) ≡ k
  unfolding width
  width_one k c = omega arith

  some_elements : (es : List (Element C)) → 0 < width es → 0 < length es
  unfolding width
  some_elements [] h = absurd (omega arith)
  some_elements (e ∷ es) h = omega arith

module _ {C H : Type 0} (o : Ops C H) where
  width-filled : (k : ℕ) (c : C) → width (filled o k c) ≡ k
  unfolding filled
  width-filled k c =
      elim (cases_Bool (o.blank c)) [
        | inl b ↦ rw b (width_singles k c)
        | inr b ↦ rw b (width_one k c)
      ]

  pub width-put : (k : ℕ) (c : C) → width (put o k c) ≡ k
  unfolding put
  width-put k c = width-filled k (o.fit k c)

  pub width-stored : (m : List (Element C)) (at k : ℕ) (c : C) → at + k ≤ width m → width (stored o m at k c) ≡ width m
  unfolding stored
  width-stored m at k c h = let p = width-put k c in width-pasted o m at (put o k c) (omega arith)

module _ {C H : Type 0} (o : Ops C H) where
  filled_blank : (k : ℕ) (c : C) → o.blank c ≡ true → filled o k c ≡ replicate k (record { bits = 1; cell = c })
  unfolding filled
  filled_blank k c b = rw b refl

  filled_whole : (k : ℕ) (c : C) → o.blank c ≡ false → filled o k c ≡ record { bits = k; cell = c } ∷ []
  unfolding filled
  filled_whole k c b = rw b refl

  -- where it has no value, a cell stands in elements of one bit
  pub repeated_blank : (k n : ℕ) (c : C) → o.blank (o.fit k c) ≡ true → repeated o k n c ≡ replicate (k * n) (record { bits = 1; cell = o.fit k c })
  unfolding repeated put
  repeated_blank k zero c b = let z : k * zero ≡ zero = omega arith in rw z refl
  repeated_blank k (suc n) c b =
      let e : Element C = record { bits = 1; cell = o.fit k c } in
      let z : k + k * n ≡ k * suc n = omega arith in
      ap (λ (l : List (Element C)). filled o k (o.fit k c) ++ l) (repeated_blank k n c b) ∙ ap (λ (l : List (Element C)). l ++ replicate (k * n) e) (filled_blank k (o.fit k c) b)
      ∙ replicate-append-replicate k (k * n) e ∙ ap (λ (m : ℕ). replicate m e) z

  pub repeated_whole : (k n : ℕ) (c : C) → o.blank (o.fit k c) ≡ false → repeated o k n c ≡ replicate n (record { bits = k; cell = o.fit k c })
  unfolding repeated put
  repeated_whole k zero c b = refl
  repeated_whole k (suc n) c b =
      ap (λ (l : List (Element C)). filled o k (o.fit k c) ++ l) (repeated_whole k n c b)
      ∙ ap (λ (l : List (Element C)). l ++ replicate n (record { bits = k; cell = o.fit k c })) (filled_whole k (o.fit k c) b)

  pub repeated_one : (k : ℕ) (c : C) → repeated o k 1 c ≡ put o k c
  unfolding repeated
  repeated_one k c = append-nil (put o k c)

  pub width-repeated : (k n : ℕ) (c : C) → width (repeated o k n c) ≡ k * n
  unfolding repeated width
  width-repeated k zero c = omega arith
  width-repeated k (suc n) c =
      let a = width-append (put o k c) (repeated o k n c) in
      let p = width-put o k c in
      let r = width-repeated k n c in
      let z : k + k * n ≡ k * suc n = omega arith in
      omega arith

module _ {C H : Type 0} (o : Ops C H) (Fine : ℕ → C → Type 0) (q : PartLaws o Fine) where
  fine_singles : (k : ℕ) (c : C) → Fine 1 c → AllFine Fine (replicate k (record { bits = 1; cell = c }))
  fine_singles zero c f = tt
  fine_singles (suc k) c f = (f, fine_singles k c f)

  fine_filled : (k : ℕ) (c : C) → (o.blank c ≡ false → Fine k c) → (o.blank c ≡ true → Fine 1 c) → AllFine Fine (filled o k c)
  unfolding filled
  fine_filled k c f g =
      elim (cases_Bool (o.blank c)) [
        | inl b ↦ rw b (fine_singles k c (g b))
        | inr b ↦ rw b (f b, tt)
      ]

  pub fine_put : (k : ℕ) (c : C) → IsSize k → AllFine Fine (put o k c)
  unfolding put
  fine_put k c s = fine_filled k (o.fit k c) (q.fit_fine k c s.some s.few) (q.fit_blank k c s.some s.few)

  pub fine_repeated : (k n : ℕ) (c : C) → IsSize k → AllFine Fine (repeated o k n c)
  unfolding repeated
  fine_repeated k zero c s = tt
  fine_repeated k (suc n) c s = AllFine-append Fine (put o k c) (repeated o k n c) (fine_put k c s) (fine_repeated k n c s)

  pub fine_stored : (m : List (Element C)) (at k : ℕ) (c : C) → IsSize k → AllFine Fine m → AllFine Fine (stored o m at k c)
  unfolding stored
  fine_stored m at k c s f = fine_pasted o Fine q m at (put o k c) f (fine_put k c s)

module _ {C H K : Type 0} (o : Ops C H) (Fine : ℕ → C → Type 0) (Allows Gives : ℕ → C → List K → Type 0) (q : PartLaws o Fine) (a : AccessLaws o Fine Allows Gives) where
  filled_describes : (k : ℕ) (c : C) (ks : List K) → length ks ≡ k → (o.blank c ≡ true → Fine 1 c) → Allows k c ks → Describes Allows (filled o k c) ks
  unfolding filled
  filled_describes k c ks w g d =
      elim (cases_Bool (o.blank c)) [
        | inl b ↦ rw b (a.blank_allows k c ks (g b) b d)
        | inr b ↦
            let t : take k ks ≡ ks = take_all k ks (omega arith) in
            let n : drop k ks ≡ [] = none_left k ks (omega arith) in
            rw b (subst (Allows k c) (sym t) d, n)
      ]
    where
      none_left : (k : ℕ) (ks : List K) → length ks ≤ k → drop k ks ≡ []
      none_left zero [] h = refl
      none_left zero (x ∷ ks) h = absurd (omega arith)
      none_left (suc k) [] h = refl
      none_left (suc k) (x ∷ ks) h = none_left k ks (omega arith)

  -- what is put somewhere allows what the cell does
  pub put_describes : (k : ℕ) (c : C) (ks : List K) → IsSize k → length ks ≡ k → Allows k c ks → Describes Allows (put o k c) ks
  unfolding put
  put_describes k c ks s w d = filled_describes k (o.fit k c) ks w (q.fit_blank k c s.some s.few) (a.fit_allows k c ks s.some s.few d)

  -- the written bits have the cell's content, and the others are as they were
  pub stored_describes : (m : List (Element C)) (at k : ℕ) (c : C) (ks cs : List K) → IsSize k → AllFine Fine m → at + k ≤ width m → length ks ≡ width m → length cs ≡ k →
      Describes Allows m ks → Allows k c cs → Describes Allows (stored o m at k c) (take at ks ++ (cs ++ drop (at + k) ks))
  unfolding stored
  stored_describes m at k c ks cs s f h w n d e =
      let p = width-put o k c in
      let r = pasted_describes o Fine Allows Gives q a m at (put o k c) ks cs f (omega arith) w (omega arith) d (put_describes k c cs s n e) in
      subst (λ (x : ℕ). Describes Allows (pasted o m at (put o k c)) (take at ks ++ (cs ++ drop (at + x) ks))) p r

  glued_gives : (es : List (Element C)) (ks : List K) → AllFine Fine es → FineLaws o Fine → width es ≤ 64 → 0 < length es → length ks ≡ width es → Describes Allows es ks → Gives (width es) (glued o es) ks
  unfolding glued width
  glued_gives [] ks f l q h w d = absurd (omega arith)
  glued_gives (e ∷ []) ks f l q h w d =
      let t : take e.bits ks ≡ ks = take_all e.bits ks (omega arith) in
      let i : e.bits ≡ e.bits + 0 = omega arith in
      subst (λ (x : ℕ). Gives x e.cell ks) i (a.one_gives e.bits e.cell ks f.0 (rw t at d.0))
  glued_gives (e ∷ g ∷ es) ks f l q h w d =
      let n : length (drop e.bits ks) ≡ width (g ∷ es) = simp length-drop (omega arith) in
      let r = glued_gives (g ∷ es) (drop e.bits ks) f.1 l (omega arith) (omega arith) n d.1 in
      let b = l.some_bits g.bits g.cell f.1.0 in
      let one = a.one_gives e.bits e.cell (take e.bits ks) f.0 d.0 in
      let two = a.glue_gives e.bits (width (g ∷ es)) e.cell (glued o (g ∷ es)) (take e.bits ks) (drop e.bits ks) f.0 (omega arith) (omega arith) one r in
      rw take-append-drop at two

  -- a load gives the content
  pub loaded_gives : (m : List (Element C)) (at k : ℕ) (ks : List K) → FineLaws o Fine → IsSize k → AllFine Fine m → at + k ≤ width m → length ks ≡ width m → Describes Allows m ks →
      Gives k (loaded o m at k) (take k (drop at ks))
  unfolding loaded
  loaded_gives m at k ks l s f h w d =
      let b = copied_describes o Fine Allows Gives q a m at k ks f d in
      let v = width-copied o m at k h in
      let p = s.some in
      let few = s.few in
      let n : length (take k (drop at ks)) ≡ width (copied o m at k) = simp (length-take, length-drop) (omega arith) in
      let i = some_elements (copied o m at k) (omega arith) in
      subst (λ (x : ℕ). Gives x (glued o (copied o m at k)) (take k (drop at ks))) v
      (glued_gives (copied o m at k) (take k (drop at ks)) (fine_copied o Fine q m at k f) l (omega arith) i n b)

  -- and so at each of the offsets
  pub loaded_all_gives : (m : List (Element C)) (ats : List ℕ) (at k : ℕ) (ks : List K) → FineLaws o Fine → IsSize k → AllFine Fine m → AllWithin k (width m) ats → length ks ≡ width m → Describes Allows m ks → Among ats at →
      Gives k (loaded_all o m ats k) (take k (drop at ks))
  unfolding loaded_all
  loaded_all_gives m [] at k ks l s f h w d i = absurd i
  loaded_all_gives m (first ∷ ats) at k ks l s f h w d (inl e) =
      let g = loaded_gives m first k ks l s f h.0 w d in
      let r : Gives k (loaded o m first k) (take k (drop at ks)) = subst (λ (x : ℕ). Gives k (loaded o m first k) (take k (drop x ks))) (sym e) g in
      a.join_gives_left k (loaded o m first k) (loaded_all o m ats k) (take k (drop at ks)) r
  loaded_all_gives m (first ∷ ats) at k ks l s f h w d (inr i) =
      a.join_gives_right k (loaded o m first k) (loaded_all o m ats k) (take k (drop at ks)) (loaded_all_gives m ats at k ks l s f h.1 w d i)

module _ {C H K : Type 0} (o : Ops C H) (Fine : ℕ → C → Type 0) (Tint : H → K → Type 0) (Bare : K → Type 0) (Sure : Bool → K → Type 0) (Allows Gives : ℕ → C → List K → Type 0)
    (nl : FineLaws o Fine) (ol : OrderLaws o Fine) (jl : JoinLaws o Fine) (ml : MeaningLaws o Fine Tint Bare Sure Allows) (pl : PartLaws o Fine) (al : AccessLaws o Fine Allows Gives) where
  pub step_fine : (m : List (Element C)) (at k : ℕ) (c : C) → IsSize k → AllFine Fine m → AreFine Fine m (stored o m at k c)
  step_fine m at k c s f = record { first = f; second = fine_stored o Fine pl m at k c s f }

  pub step_width : (m : List (Element C)) (at k : ℕ) (c : C) → IsSize k → AllFine Fine m → at + k ≤ width m → width (joined o (joined_cell o) m (stored o m at k c)) ≡ width m
  step_width m at k c s f h =
      let w = width-stored o m at k c h in
      let a = joined_above o Fine (joined_cell o) nl ol jl (joined_cell_laws o Fine nl ol jl) m (stored o m at k c) (step_fine m at k c s f) (sym w) in
      a.wide ∙ w

  pub step_above : (m : List (Element C)) (at k : ℕ) (c : C) → IsSize k → AllFine Fine m → at + k ≤ width m → AllFine Fine (joined o (joined_cell o) m (stored o m at k c))
  step_above m at k c s f h =
      (joined_above o Fine (joined_cell o) nl ol jl (joined_cell_laws o Fine nl ol jl) m (stored o m at k c) (step_fine m at k c s f) (sym (width-stored o m at k c h))).fine

  step_old : (m : List (Element C)) (at k : ℕ) (c : C) (ks : List K) → IsSize k → AllFine Fine m → at + k ≤ width m → Describes Allows m ks → Describes Allows (joined o (joined_cell o) m (stored o m at k c)) ks
  step_old m at k c ks s f h d =
      let w = width-stored o m at k c h in
      included_describes o Fine Tint Bare Sure Allows ml m (joined o (joined_cell o) m (stored o m at k c)) ks f (step_above m at k c s f h) (sym (step_width m at k c s f h))
      (joined_left o Fine (joined_cell o) nl ol jl (joined_cell_laws o Fine nl ol jl) m (stored o m at k c) (step_fine m at k c s f) (sym w)) d

  -- the old content stays possible
  pub weakened_old : (m : List (Element C)) (ats : List ℕ) (k : ℕ) (c : C) (ks : List K) → IsSize k → AllFine Fine m → AllWithin k (width m) ats → Describes Allows m ks → Describes Allows (weakened o m ats k c) ks
  unfolding weakened
  weakened_old m [] k c ks s f a d = d
  weakened_old m (at ∷ ats) k c ks s f a d =
      weakened_old (joined o (joined_cell o) m (stored o m at k c)) ats k c ks s (step_above m at k c s f a.0)
      (AllWithin-along k (width m) (width (joined o (joined_cell o) m (stored o m at k c))) ats (step_width m at k c s f a.0) a.1) (step_old m at k c ks s f a.0 d)

  step_new : (m : List (Element C)) (at k : ℕ) (c : C) (ks cs : List K) → IsSize k → AllFine Fine m → at + k ≤ width m → length ks ≡ width m → Describes Allows m ks → Allows k c cs →
      Describes Allows (joined o (joined_cell o) m (stored o m at k c)) (take at ks ++ (cs ++ drop (at + k) ks))
  step_new m at k c ks cs s f h w d a =
      let v = width-stored o m at k c h in
      let g = stored_describes o Fine Allows Gives pl al m at k c ks cs s f h w (ml.allows_length k c cs a) d a in
      included_describes o Fine Tint Bare Sure Allows ml (stored o m at k c) (joined o (joined_cell o) m (stored o m at k c)) (take at ks ++ (cs ++ drop (at + k) ks))
      (fine_stored o Fine pl m at k c s f) (step_above m at k c s f h) (v ∙ sym (step_width m at k c s f h))
      (joined_right o Fine (joined_cell o) nl ol jl (joined_cell_laws o Fine nl ol jl) m (stored o m at k c) (step_fine m at k c s f) (sym v)) g

  -- at each of the offsets the new content is possible
  pub weakened_new : (m : List (Element C)) (ats : List ℕ) (k : ℕ) (c : C) (ks cs : List K) (at : ℕ) → IsSize k → AllFine Fine m → AllWithin k (width m) ats → length ks ≡ width m → Describes Allows m ks → Allows k c cs → Among ats at →
      Describes Allows (weakened o m ats k c) (take at ks ++ (cs ++ drop (at + k) ks))
  unfolding weakened
  weakened_new m [] k c ks cs at s f a w d n i = absurd i
  weakened_new m (first ∷ ats) k c ks cs at s f a w d n (inl e) =
      let g : at + k ≤ width m = subst (λ (x : ℕ). x + k ≤ width m) (sym e) a.0 in
      let r = step_new m at k c ks cs s f g w d n in
      let u : Describes Allows (joined o (joined_cell o) m (stored o m first k c)) (take at ks ++ (cs ++ drop (at + k) ks)) =
      subst (λ (x : ℕ). Describes Allows (joined o (joined_cell o) m (stored o m x k c)) (take at ks ++ (cs ++ drop (at + k) ks))) e r in
      weakened_old (joined o (joined_cell o) m (stored o m first k c)) ats k c (take at ks ++ (cs ++ drop (at + k) ks)) s (step_above m first k c s f a.0)
      (AllWithin-along k (width m) (width (joined o (joined_cell o) m (stored o m first k c))) ats (step_width m first k c s f a.0) a.1) u
  weakened_new m (first ∷ ats) k c ks cs at s f a w d n (inr i) =
      weakened_new (joined o (joined_cell o) m (stored o m first k c)) ats k c ks cs at s (step_above m first k c s f a.0)
      (AllWithin-along k (width m) (width (joined o (joined_cell o) m (stored o m first k c))) ats (step_width m first k c s f a.0) a.1)
      (w ∙ sym (step_width m first k c s f a.0)) (step_old m first k c ks s f a.0 d) n i

  -- the weak store keeps the map's width and its cells fine
  pub weakened_width : (m : List (Element C)) (ats : List ℕ) (k : ℕ) (c : C) → IsSize k → AllFine Fine m → AllWithin k (width m) ats → width (weakened o m ats k c) ≡ width m
  unfolding weakened
  weakened_width m [] k c s f a = refl
  weakened_width m (at ∷ ats) k c s f a =
      weakened_width (joined o (joined_cell o) m (stored o m at k c)) ats k c s (step_above m at k c s f a.0)
      (AllWithin-along k (width m) (width (joined o (joined_cell o) m (stored o m at k c))) ats (step_width m at k c s f a.0) a.1) ∙ step_width m at k c s f a.0

  pub weakened_fine : (m : List (Element C)) (ats : List ℕ) (k : ℕ) (c : C) → IsSize k → AllFine Fine m → AllWithin k (width m) ats → AllFine Fine (weakened o m ats k c)
  unfolding weakened
  weakened_fine m [] k c s f a = f
  weakened_fine m (at ∷ ats) k c s f a =
      weakened_fine (joined o (joined_cell o) m (stored o m at k c)) ats k c s (step_above m at k c s f a.0)
      (AllWithin-along k (width m) (width (joined o (joined_cell o) m (stored o m at k c))) ats (step_width m at k c s f a.0) a.1)
