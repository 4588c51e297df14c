-- The order of maps is reflexive and transitive.
use Rattle.std.proofs.Common.{◌≡◌, ℕ, zero, suc, ◌+◌, ◌-◌, ◌<◌, ◌≤◌, Bool, true, ◌&&◌, ◌||◌, List, [], ◌∷◌, ◌++◌, length, take, drop, refl, sym, ap, ◌∙◌, subst, arith, inl, inr, length-take, length-drop, ◌⊎◌}
use Rattle.std.specs.Prelude.{Option, None, Some, ◌==◌}
use Rattle.std.specs.List.{list_all}
use Rattle.std.proofs.lemmas.List.{drop_at, drop-drop, take-append-drop, take_at}
use Rattle.std.proofs.lemmas.Bool.{cases_lt, and_parts, and_from, or_cases, or_left, or_right, eqb-true, eq-eqb}
use Rattle.cell_laws.specs.Elements.{Element, Place, spread, places, width, bit_at, AllFine, AllFit}
use Rattle.cell_laws.specs.Cells.{Ops}
use Rattle.cell_laws.specs.Order.{is_start, is_admitted, is_bare, and_bit, known, has_bits, is_known, is_in, is_under, included}
use Rattle.cell_laws.specs.Laws.{OrderLaws}
use Rattle.cell_laws.proofs.Places.{place, length-spread, length-places, Steady, Steady-drop, Steady-take, Steady-places, run, drop-spread, drop-past}

-- what starts here is an element of this size that lies in y
pub record Starts {C H : Type 0} (o : Ops C H) (k : ℕ) (y : C) (p : Place C) : Type 0 where
  pub at : p.at ≡ 0
  pub bits : p.bits ≡ k
  pub leq : o.leq p.cell y ≡ true

module _ {C : Type 0} (Fine : ℕ → C → Type 0) where
  pub AllFit-take : (n : ℕ) (ps : List (Place C)) → AllFit Fine ps → AllFit Fine (take n ps)
  AllFit-take zero ps r = tt
  AllFit-take (suc n) [] r = tt
  AllFit-take (suc n) (p ∷ ps) r = (r.0, AllFit-take n ps r.1)

  pub AllFit-drop : (n : ℕ) (ps : List (Place C)) → AllFit Fine ps → AllFit Fine (drop n ps)
  AllFit-drop zero ps r = r
  AllFit-drop (suc n) [] r = tt
  AllFit-drop (suc n) (p ∷ ps) r = AllFit-drop n ps r.1

  pub AllFit-append : (ps qs : List (Place C)) → AllFit Fine ps → AllFit Fine qs → AllFit Fine (ps ++ qs)
  AllFit-append [] qs a b = b
  AllFit-append (p ∷ ps) qs a b = (a.0, AllFit-append ps qs a.1 b)

  pub AllFit-spread : (k : ℕ) (c : C) (i n : ℕ) → i + n ≤ k → Fine k c → AllFit Fine (spread k c i n)
  unfolding spread
  AllFit-spread k c i zero m f = tt
  AllFit-spread k c i (suc n) m f = (record { fine = f; inside = omega arith }, AllFit-spread k c (suc i) n (omega arith) f)

  -- the places of fine elements are fine
  pub AllFit-places : (es : List (Element C)) → AllFine Fine es → AllFit Fine (places es)
  unfolding places
  AllFit-places [] f = tt
  AllFit-places (e ∷ es) f = AllFit-append (spread e.bits e.cell 0 e.bits) (places es) (AllFit-spread e.bits e.cell 0 e.bits (omega arith) f.0) (AllFit-places es f.1)

module _ {C H : Type 0} (o : Ops C H) where
  pub starts : (k : ℕ) (y : C) (p : Place C) (ps : List (Place C)) → is_start o k y (p ∷ ps) ≡ true → Starts o k y p
  unfolding is_start
  starts k y p ps h =
      let a = and_parts (p.at == 0) ((p.bits == k) && o.leq p.cell y) h in
      let b = and_parts (p.bits == k) (o.leq p.cell y) a.1 in
      record { at = eqb-true p.at 0 a.0; bits = eqb-true p.bits k b.0; leq = b.1 }

  pub start : (k : ℕ) (y : C) (p : Place C) (ps : List (Place C)) → Starts o k y p → is_start o k y (p ∷ ps) ≡ true
  unfolding is_start
  start k y p ps s = and_from (p.at == 0) ((p.bits == k) && o.leq p.cell y) (eq-eqb p.at 0 s.at) (and_from (p.bits == k) (o.leq p.cell y) (eq-eqb p.bits k s.bits) s.leq)

  -- the four ways
  abbrev pub Ways : ℕ → C → List (Place C) → Type 0
  Ways k y ps = (is_start o k y ps ≡ true) ⊎ ((is_admitted o k y ps ≡ true) ⊎ ((is_bare o y ps ≡ true) ⊎ (is_known o k y ps ≡ true)))

  pub ways : (k : ℕ) (y : C) (ps : List (Place C)) → is_in o k y ps ≡ true → Ways k y ps
  unfolding is_in
  ways k y ps h =
      elim (or_cases (is_start o k y ps) (is_admitted o k y ps || (is_bare o y ps || is_known o k y ps)) h) [
        | inl a ↦ inl a
        | inr b ↦ elim (or_cases (is_admitted o k y ps) (is_bare o y ps || is_known o k y ps) b) [
          | inl a ↦ inr (inl a)
          | inr c ↦ elim (or_cases (is_bare o y ps) (is_known o k y ps) c) [ inl a ↦ inr (inr (inl a)) | inr d ↦ inr (inr (inr d)) ]
        ]
      ]

  pub in_from : (k : ℕ) (y : C) (ps : List (Place C)) → Ways k y ps → is_in o k y ps ≡ true
  unfolding is_in
  in_from k y ps (inl a) = or_left (is_start o k y ps) (is_admitted o k y ps || (is_bare o y ps || is_known o k y ps)) a
  in_from k y ps (inr (inl a)) =
      or_right (is_start o k y ps) (is_admitted o k y ps || (is_bare o y ps || is_known o k y ps))
      (or_left (is_admitted o k y ps) (is_bare o y ps || is_known o k y ps) a)
  in_from k y ps (inr (inr (inl a))) =
      or_right (is_start o k y ps) (is_admitted o k y ps || (is_bare o y ps || is_known o k y ps))
      (or_right (is_admitted o k y ps) (is_bare o y ps || is_known o k y ps) (or_left (is_bare o y ps) (is_known o k y ps) a))
  in_from k y ps (inr (inr (inr a))) =
      or_right (is_start o k y ps) (is_admitted o k y ps || (is_bare o y ps || is_known o k y ps))
      (or_right (is_admitted o k y ps) (is_bare o y ps || is_known o k y ps) (or_right (is_bare o y ps) (is_known o k y ps) a))

-- what stands at a bit lies below what stands there in another map
pub record Lies {C H : Type 0} (o : Ops C H) (p q : Place C) : Type 0 where
  pub within : o.within (o.hue p.cell) (o.hue q.cell) ≡ true
  pub blank : o.blank q.cell ≡ true → o.blank p.cell ≡ true
  pub bit : (b : Bool) → o.bit q.bits q.at q.cell ≡ Some b → o.bit p.bits p.at p.cell ≡ Some b

module _ {C H : Type 0} (o : Ops C H) where
  abbrev pub Below : List (Place C) → List (Place C) → Type 0
  Below [] [] = Unit {0}
  Below [] (q ∷ qs) = ⊥
  Below (p ∷ ps) [] = ⊥
  Below (p ∷ ps) (q ∷ qs) = Lies o p q × Below ps qs

  pub Below-take : (n : ℕ) (ps qs : List (Place C)) → Below ps qs → Below (take n ps) (take n qs)
  Below-take zero ps qs b = tt
  Below-take (suc n) [] [] b = tt
  Below-take (suc n) [] (q ∷ qs) b = absurd b
  Below-take (suc n) (p ∷ ps) [] b = absurd b
  Below-take (suc n) (p ∷ ps) (q ∷ qs) b = (b.0, Below-take n ps qs b.1)

  pub Below-drop : (n : ℕ) (ps qs : List (Place C)) → Below ps qs → Below (drop n ps) (drop n qs)
  Below-drop zero ps qs b = b
  Below-drop (suc n) [] [] b = tt
  Below-drop (suc n) [] (q ∷ qs) b = absurd b
  Below-drop (suc n) (p ∷ ps) [] b = absurd b
  Below-drop (suc n) (p ∷ ps) (q ∷ qs) b = Below-drop n ps qs b.1

  pub Below-append : (ps qs rs ss : List (Place C)) → Below ps qs → Below rs ss → Below (ps ++ rs) (qs ++ ss)
  Below-append [] [] rs ss a b = b
  Below-append [] (q ∷ qs) rs ss a b = absurd a
  Below-append (p ∷ ps) [] rs ss a b = absurd a
  Below-append (p ∷ ps) (q ∷ qs) rs ss a b = (a.0, Below-append ps qs rs ss a.1 b)

module _ {C H : Type 0} (o : Ops C H) where
  -- an element of the upper map allows what stands at its place
  pub heads : (es : List (Element C)) (ps : List (Place C)) → is_under o ps es ≡ true →
      (n : ℕ) (q : Place C) (qs : List (Place C)) → drop n (places es) ≡ q ∷ qs → q.at ≡ 0 → is_in o q.bits q.cell (take q.bits (drop n ps)) ≡ true
  unfolding places is_under place
  heads [] ps h zero q qs d z = cc
  heads [] ps h (suc n) q qs d z = cc
  heads (e ∷ es) ps h n q qs d z =
      let a = and_parts (is_in o e.bits e.cell (take e.bits ps)) (is_under o (drop e.bits ps) es) h in
      elim (cases_lt n e.bits) [
        | inl lt ↦
            let g = drop-spread e.bits e.cell 0 n e.bits (places es) lt in
            let i : q ≡ record { at = 0 + n; bits = e.bits; cell = e.cell } = cc in
            let at : q.at ≡ 0 + n = ap (λ (x : Place C). x.at) i in
            let none : n ≡ 0 = omega arith in
            let bits : q.bits ≡ e.bits = ap (λ (x : Place C). x.bits) i in
            let cell : q.cell ≡ e.cell = ap (λ (x : Place C). x.cell) i in
            rw (none, bits, cell) a.0
        | inr ge ↦
            let g = drop-past e.bits e.cell n (places es) ge in
            let r = heads es (drop e.bits ps) a.1 (n - e.bits) q qs (sym g ∙ d) z in
            let f = drop-drop (n - e.bits) e.bits ps in
            let m : e.bits + (n - e.bits) ≡ n = omega arith in
            subst (λ (x : List (Place C)). is_in o q.bits q.cell (take q.bits x) ≡ true) (f ∙ ap (λ (x : ℕ). drop x ps) m) r
      ]

module _ {C H : Type 0} (o : Ops C H) (Fine : ℕ → C → Type 0) (l : OrderLaws o Fine) where
  -- ---- each way gives the order at each bit

  same_below : (k i n : ℕ) (x y : C) → i + n ≤ k → Fine k x → Fine k y → o.leq x y ≡ true → Below o (spread k x i n) (spread k y i n)
  unfolding spread
  same_below k i zero x y m f g e = tt
  same_below k i (suc n) x y m f g e = (
    record { within = l.hue_leq k x y f g e; blank = l.blank_leq k x y f g e; bit = λ b. l.bit_leq k i x y b f g (omega arith) e },
    same_below k (suc i) n x y (omega arith) f g e,
  )

  admitted_below : (k i n : ℕ) (y : C) (ps : List (Place C)) → i + n ≤ k → Fine k y → length ps ≡ n → is_admitted o k y ps ≡ true → Below o ps (spread k y i n)
  unfolding spread is_admitted
  admitted_below k i zero y [] m f e h = tt
  admitted_below k i zero y (p ∷ ps) m f e h = absurd (omega arith)
  admitted_below k i (suc n) y [] m f e h = absurd (omega arith)
  admitted_below k i (suc n) y (p ∷ ps) m f e h =
      let a = and_parts (o.admits k y (o.hue p.cell)) (list_all (λ q. o.admits k y (o.hue q.cell)) ps) h in (
        record {
          within = l.admits_hue k y (o.hue p.cell) f a.0;
          blank = λ z. absurd (l.admits_blank k y (o.hue p.cell) f a.0 z);
          bit = λ b z. absurd (l.admits_bit k i y (o.hue p.cell) b f (omega arith) a.0 z);
        },
        admitted_below k (suc i) n y ps (omega arith) f (omega arith) a.1,
      )

  bare_below : (k i n : ℕ) (y : C) (ps : List (Place C)) → i + n ≤ k → Fine k y → AllFit Fine ps → length ps ≡ n → is_bare o y ps ≡ true → Below o ps (spread k y i n)
  unfolding spread is_bare
  bare_below k i zero y [] m f t e h = tt
  bare_below k i zero y (p ∷ ps) m f t e h = absurd (omega arith)
  bare_below k i (suc n) y [] m f t e h = absurd (omega arith)
  bare_below k i (suc n) y (p ∷ ps) m f t e h =
      let a = and_parts (o.blank p.cell && o.within (o.hue p.cell) (o.hue y)) (list_all (λ q. o.blank q.cell && o.within (o.hue q.cell) (o.hue y)) ps) h in
      let b = and_parts (o.blank p.cell) (o.within (o.hue p.cell) (o.hue y)) a.0 in (
        record { within = b.1; blank = λ z. b.0; bit = λ c z. absurd (l.blank_bit p.bits k i p.cell y c t.0.fine f (omega arith) b.0 b.1 z) },
        bare_below k (suc i) n y ps (omega arith) f t.1 (omega arith) a.1,
      )

-- the first bit and the others
pub record Bits {C H : Type 0} (o : Ops C H) (p : Place C) (ps : List (Place C)) (bs : List Bool) : Type 0 where
  pub first : Bool
  pub others : List Bool
  pub is : bs ≡ first ∷ others
  pub here : o.bit p.bits p.at p.cell ≡ Some first
  pub there : known o ps ≡ Some others

module _ {C H : Type 0} (o : Ops C H) where
  bits_of : (p : Place C) (ps : List (Place C)) (bs : List Bool) (a : Option Bool) (b : Option (List Bool)) →
      o.bit p.bits p.at p.cell ≡ a → known o ps ≡ b → and_bit a b ≡ Some bs → Bits o p ps bs
  unfolding and_bit
  bits_of p ps bs None b e f g = cc
  bits_of p ps bs (Some x) None e f g = cc
  bits_of p ps bs (Some x) (Some xs) e f g = record { first = x; others = xs; is = cc; here = e; there = f }

  pub known_bits : (p : Place C) (ps : List (Place C)) (bs : List Bool) → known o (p ∷ ps) ≡ Some bs → Bits o p ps bs
  unfolding known
  known_bits p ps bs h = bits_of p ps bs (o.bit p.bits p.at p.cell) (known o ps) refl refl h

  pub known_from : (p : Place C) (ps : List (Place C)) (b : Bool) (bs : List Bool) → o.bit p.bits p.at p.cell ≡ Some b → known o ps ≡ Some bs → known o (p ∷ ps) ≡ Some (b ∷ bs)
  unfolding known and_bit
  known_from p ps b bs e f = rw (e, f)

  pub known_length : (ps : List (Place C)) (bs : List Bool) → known o ps ≡ Some bs → length bs ≡ length ps
  unfolding known
  known_length [] bs h = let e : [] ≡ bs = cc in ap length (sym e)
  known_length (p ∷ ps) bs h = let k = known_bits p ps bs h in ap length k.is ∙ ap suc (known_length ps k.others k.there)

  pub known_below : (ps qs : List (Place C)) (bs : List Bool) → Below o ps qs → known o qs ≡ Some bs → known o ps ≡ Some bs
  known_below [] [] bs b h = h
  known_below [] (q ∷ qs) bs b h = absurd b
  known_below (p ∷ ps) [] bs b h = absurd b
  known_below (p ∷ ps) (q ∷ qs) bs b h =
      let k = known_bits q qs bs h in
      known_from p ps k.first k.others (b.0.bit k.first k.here) (known_below ps qs k.others b.1 k.there) ∙ ap Some (sym k.is)

module _ {C H : Type 0} (o : Ops C H) (Fine : ℕ → C → Type 0) (l : OrderLaws o Fine) where
  known_is_below : (k i n : ℕ) (y : C) (ps : List (Place C)) (bs : List Bool) → AllFit Fine ps → length ps ≡ n → known o ps ≡ Some bs → (o.blank y ≡ true → ⊥) →
      ((j : ℕ) (b : Bool) → j < n → o.bit k (i + j) y ≡ Some b → bit_at bs j ≡ Some b) → Below o ps (spread k y i n)
  unfolding spread bit_at
  known_is_below k i zero y [] bs t e h z s = tt
  known_is_below k i zero y (p ∷ ps) bs t e h z s = absurd (omega arith)
  known_is_below k i (suc n) y [] bs t e h z s = absurd (omega arith)
  known_is_below k i (suc n) y (p ∷ ps) bs t e h z s =
      let g = known_bits o p ps bs h in
      let here : (b : Bool) → o.bit k i y ≡ Some b → o.bit p.bits p.at p.cell ≡ Some b =
      λ b f. let u : bit_at (g.first ∷ g.others) 0 ≡ Some b = ap (λ (x : List Bool). bit_at x 0) (sym g.is) ∙ s 0 b (omega arith) (ap (λ (x : ℕ). o.bit k x y) (omega arith) ∙ f) in g.here ∙ u in
      let rest : (j : ℕ) (b : Bool) → j < n → o.bit k (suc i + j) y ≡ Some b → bit_at g.others j ≡ Some b =
      λ j b m f. ap (λ (x : List Bool). bit_at x (suc j)) (sym g.is) ∙ s (suc j) b (omega arith) (ap (λ (x : ℕ). o.bit k x y) (omega arith) ∙ f) in (
        record { within = l.bit_hue p.bits p.at p.cell (o.hue y) g.first t.0.fine t.0.inside g.here; blank = λ f. absurd (z f); bit = here },
        known_is_below k (suc i) n y ps g.others t.1 (omega arith) g.there z rest,
      )

  from_bits : (k : ℕ) (y : C) (ps : List (Place C)) (bs : Option (List Bool)) → Fine k y → AllFit Fine ps → length ps ≡ k → known o ps ≡ bs → has_bits o k y bs ≡ true → Below o ps (spread k y 0 k)
  unfolding has_bits
  from_bits k y ps None f t e g h = cc
  from_bits k y ps (Some bs) f t e g h =
      let n : length bs ≡ k = known_length o ps bs g ∙ e in
      known_is_below k 0 k y ps bs t e g (l.has_blank k y bs f n h)
      (λ j b m u. l.has_bit k j y bs b f m n h (ap (λ (x : ℕ). o.bit k x y) (omega arith) ∙ u))

  started_below : (k : ℕ) (y : C) (ps : List (Place C)) → Fine k y → AllFit Fine ps → length ps ≡ k → Steady ps → is_start o k y ps ≡ true → Below o ps (spread k y 0 k)
  unfolding place is_start
  started_below k y [] f t e s h = cc
  started_below k y (p ∷ ps) f t e s h =
      let a = starts o k y p ps h in
      let at : p.at ≡ 0 = a.at in
      let bits : p.bits ≡ k = a.bits in
      let r : p ∷ ps ≡ spread k p.cell 0 k =
      run k p.cell 0 k (p ∷ ps) e (omega arith) s
      (ap (λ (x : ℕ). record { at = x; bits = p.bits; cell = p.cell }) at ∙ ap (λ (x : ℕ). record { at = 0; bits = x; cell = p.cell }) bits) in
      let g : Fine k p.cell = subst (λ (x : ℕ). Fine x p.cell) bits t.0.fine in
      subst (λ (x : List (Place C)). Below o x (spread k y 0 k)) (sym r) (same_below o Fine l k 0 k p.cell y (omega arith) g f a.leq)

  -- what an element allows lies below it, bit by bit
  pub in_below : (k : ℕ) (y : C) (ps : List (Place C)) → Fine k y → AllFit Fine ps → length ps ≡ k → Steady ps → is_in o k y ps ≡ true → Below o ps (spread k y 0 k)
  unfolding is_known
  in_below k y ps f t e s h =
      elim (ways o k y ps h) [
        | inl a ↦ started_below k y ps f t e s a
        | inr (inl a) ↦ admitted_below o Fine l k 0 k y ps (omega arith) f e a
        | inr (inr (inl a)) ↦ bare_below o Fine l k 0 k y ps (omega arith) f t e a
        | inr (inr (inr a)) ↦ from_bits k y ps (known o ps) f t e refl a
      ]

  pub under_below : (es : List (Element C)) (ps : List (Place C)) → AllFine Fine es → AllFit Fine ps → length ps ≡ width es → Steady ps → is_under o ps es ≡ true → Below o ps (places es)
  unfolding places width is_under
  under_below [] [] f r e s h = tt
  under_below [] (p ∷ ps) f r e s h = absurd (omega arith)
  under_below (e ∷ es) ps f r w s h =
      let a = and_parts (is_in o e.bits e.cell (take e.bits ps)) (is_under o (drop e.bits ps) es) h in
      let t : length (take e.bits ps) ≡ e.bits = simp length-take (omega arith) in
      let d : length (drop e.bits ps) ≡ width es = simp length-drop (omega arith) in
      let b = Below-append o (take e.bits ps) (spread e.bits e.cell 0 e.bits) (drop e.bits ps) (places es)
      (in_below e.bits e.cell (take e.bits ps) f.0 (AllFit-take Fine e.bits ps r) t (Steady-take e.bits ps s) a.0)
      (under_below es (drop e.bits ps) f.1 (AllFit-drop Fine e.bits ps r) d (Steady-drop e.bits ps s) a.1) in
      rw take-append-drop at b

  -- ---- a greater cell allows as much

  admitted_leq : (k : ℕ) (x y : C) (ps : List (Place C)) → Fine k x → Fine k y → o.leq x y ≡ true → is_admitted o k x ps ≡ true → is_admitted o k y ps ≡ true
  unfolding is_admitted
  admitted_leq k x y [] f g e h = refl
  admitted_leq k x y (p ∷ ps) f g e h =
      let a = and_parts (o.admits k x (o.hue p.cell)) (list_all (λ q. o.admits k x (o.hue q.cell)) ps) h in
      and_from _ _ (l.admits_leq k x y (o.hue p.cell) f g e a.0) (admitted_leq k x y ps f g e a.1)

  bare_leq : (k : ℕ) (x y : C) (ps : List (Place C)) → Fine k x → Fine k y → o.leq x y ≡ true → is_bare o x ps ≡ true → is_bare o y ps ≡ true
  unfolding is_bare
  bare_leq k x y [] f g e h = refl
  bare_leq k x y (p ∷ ps) f g e h =
      let a = and_parts (o.blank p.cell && o.within (o.hue p.cell) (o.hue x)) (list_all (λ q. o.blank q.cell && o.within (o.hue q.cell) (o.hue x)) ps) h in
      let b = and_parts (o.blank p.cell) (o.within (o.hue p.cell) (o.hue x)) a.0 in
      and_from _ _ (and_from _ _ b.0 (l.within_trans (o.hue p.cell) (o.hue x) (o.hue y) b.1 (l.hue_leq k x y f g e))) (bare_leq k x y ps f g e a.1)

  start_leq : (k : ℕ) (x y : C) (ps : List (Place C)) → Fine k x → Fine k y → AllFit Fine ps → o.leq x y ≡ true → is_start o k x ps ≡ true → is_start o k y ps ≡ true
  unfolding is_start
  start_leq k x y [] f g t e h = h
  start_leq k x y (p ∷ ps) f g t e h =
      let s = starts o k x p ps h in
      let u : Fine k p.cell = subst (λ (x : ℕ). Fine x p.cell) s.bits t.0.fine in
      start o k y p ps (record { at = s.at; bits = s.bits; leq = l.leq_trans k p.cell x y u f g s.leq e })

  has_bits_leq : (k : ℕ) (x y : C) (ps : List (Place C)) (bs : Option (List Bool)) → Fine k x → Fine k y → length ps ≡ k → known o ps ≡ bs → o.leq x y ≡ true →
      has_bits o k x bs ≡ true → has_bits o k y bs ≡ true
  unfolding has_bits
  has_bits_leq k x y ps None f g w i e h = h
  has_bits_leq k x y ps (Some bs) f g w i e h = l.has_leq k x y bs f g (known_length o ps bs i ∙ w) e h

  pub in_leq : (k : ℕ) (x y : C) (ps : List (Place C)) → Fine k x → Fine k y → AllFit Fine ps → length ps ≡ k → o.leq x y ≡ true → is_in o k x ps ≡ true → is_in o k y ps ≡ true
  unfolding is_known
  in_leq k x y ps f g t w e h =
      elim (ways o k x ps h) [
        | inl a ↦ in_from o k y ps (inl (start_leq k x y ps f g t e a))
        | inr (inl a) ↦ in_from o k y ps (inr (inl (admitted_leq k x y ps f g e a)))
        | inr (inr (inl a)) ↦ in_from o k y ps (inr (inr (inl (bare_leq k x y ps f g e a))))
        | inr (inr (inr a)) ↦ in_from o k y ps (inr (inr (inr (has_bits_leq k x y ps (known o ps) f g w refl e a))))
      ]

  -- ---- lower places are allowed as much

  admitted_down : (k : ℕ) (z : C) (ps qs : List (Place C)) → Fine k z → Below o ps qs → is_admitted o k z qs ≡ true → is_admitted o k z ps ≡ true
  unfolding is_admitted
  admitted_down k z [] [] f b h = refl
  admitted_down k z [] (q ∷ qs) f b h = absurd b
  admitted_down k z (p ∷ ps) [] f b h = absurd b
  admitted_down k z (p ∷ ps) (q ∷ qs) f b h =
      let a = and_parts (o.admits k z (o.hue q.cell)) (list_all (λ r. o.admits k z (o.hue r.cell)) qs) h in
      and_from _ _ (l.admits_within k z (o.hue p.cell) (o.hue q.cell) f b.0.within a.0) (admitted_down k z ps qs f b.1 a.1)

  bare_down : (z : C) (ps qs : List (Place C)) → Below o ps qs → is_bare o z qs ≡ true → is_bare o z ps ≡ true
  unfolding is_bare
  bare_down z [] [] b h = refl
  bare_down z [] (q ∷ qs) b h = absurd b
  bare_down z (p ∷ ps) [] b h = absurd b
  bare_down z (p ∷ ps) (q ∷ qs) b h =
      let a = and_parts (o.blank q.cell && o.within (o.hue q.cell) (o.hue z)) (list_all (λ r. o.blank r.cell && o.within (o.hue r.cell) (o.hue z)) qs) h in
      let c = and_parts (o.blank q.cell) (o.within (o.hue q.cell) (o.hue z)) a.0 in
      and_from _ _ (and_from _ _ (b.0.blank c.0) (l.within_trans (o.hue p.cell) (o.hue q.cell) (o.hue z) b.0.within c.1)) (bare_down z ps qs b.1 a.1)

  known_down : (k : ℕ) (z : C) (ps qs : List (Place C)) (bs : Option (List Bool)) → Below o ps qs → known o qs ≡ bs → has_bits o k z bs ≡ true → has_bits o k z (known o ps) ≡ true
  unfolding has_bits
  known_down k z ps qs None b e h = cc
  known_down k z ps qs (Some bs) b e h = rw (known_below o ps qs bs b e) h

  -- ---- transitive

  -- each element of qs allows what stands at its place
  abbrev pub Heads : List (Place C) → List (Place C) → Type 0
  Heads ps qs = (n : ℕ) (q : Place C) (rest : List (Place C)) → drop n qs ≡ q ∷ rest → q.at ≡ 0 → is_in o q.bits q.cell (take q.bits (drop n ps)) ≡ true

  start_down : (k : ℕ) (z : C) (ps qs : List (Place C)) → Fine k z → AllFit Fine ps → AllFit Fine qs → k ≤ length ps → Heads ps qs → is_start o k z (take k qs) ≡ true → is_in o k z (take k ps) ≡ true
  unfolding is_start
  start_down zero z ps qs g t u w f h = cc
  start_down (suc k) z ps [] g t u w f h = cc
  start_down (suc k) z ps (q ∷ qs) g t u w f h =
      let s = starts o (suc k) z q (take k qs) h in
      let a : is_in o q.bits q.cell (take q.bits ps) ≡ true = f 0 q qs refl s.at in
      let b : is_in o (suc k) q.cell (take (suc k) ps) ≡ true = rw s.bits at a in
      let v : Fine (suc k) q.cell = subst (λ (x : ℕ). Fine x q.cell) s.bits u.0.fine in
      let n : length (take (suc k) ps) ≡ suc k = simp length-take (omega arith) in
      in_leq (suc k) q.cell z (take (suc k) ps) v g (AllFit-take Fine (suc k) ps t) n s.leq b

  in_down : (k : ℕ) (z : C) (ps qs : List (Place C)) → Fine k z → AllFit Fine ps → AllFit Fine qs → k ≤ length ps → Below o ps qs → Heads ps qs → is_in o k z (take k qs) ≡ true → is_in o k z (take k ps) ≡ true
  unfolding is_known
  in_down k z ps qs g u v w b f h =
      let t = Below-take o k ps qs b in
      elim (ways o k z (take k qs) h) [
        | inl a ↦ start_down k z ps qs g u v w f a
        | inr (inl a) ↦ in_from o k z (take k ps) (inr (inl (admitted_down k z (take k ps) (take k qs) g t a)))
        | inr (inr (inl a)) ↦ in_from o k z (take k ps) (inr (inr (inl (bare_down z (take k ps) (take k qs) t a))))
        | inr (inr (inr a)) ↦ in_from o k z (take k ps) (inr (inr (inr (known_down k z (take k ps) (take k qs) (known o (take k qs)) t refl a))))
      ]

  Heads-drop : (k : ℕ) (ps qs : List (Place C)) → Heads ps qs → Heads (drop k ps) (drop k qs)
  Heads-drop k ps qs f n q rest d z =
      let e = drop-drop n k qs in
      let g = drop-drop n k ps in
      subst (λ (x : List (Place C)). is_in o q.bits q.cell (take q.bits x) ≡ true) (sym g) (f (k + n) q rest (sym e ∙ d) z)

  pub under_down : (es : List (Element C)) (ps qs : List (Place C)) → AllFine Fine es → AllFit Fine ps → AllFit Fine qs → width es ≤ length ps → Below o ps qs → Heads ps qs →
      is_under o qs es ≡ true → is_under o ps es ≡ true
  unfolding is_under width
  under_down [] ps qs g u v w b f h = refl
  under_down (e ∷ es) ps qs g u v w b f h =
      let a = and_parts (is_in o e.bits e.cell (take e.bits qs)) (is_under o (drop e.bits qs) es) h in
      let n : width es ≤ length (drop e.bits ps) = simp length-drop (omega arith) in
      and_from _ _ (in_down e.bits e.cell ps qs g.0 u v (omega arith) b f a.0)
      (under_down es (drop e.bits ps) (drop e.bits qs) g.1 (AllFit-drop Fine e.bits ps u) (AllFit-drop Fine e.bits qs v) n
      (Below-drop o e.bits ps qs b) (Heads-drop e.bits ps qs f) a.1)

  pub included_trans : (a b c : List (Element C)) → AllFine Fine a → AllFine Fine b → AllFine Fine c → width a ≡ width b → width b ≡ width c →
      included o a b ≡ true → included o b c ≡ true → included o a c ≡ true
  unfolding included
  included_trans a b c fa fb fc w v h g =
      let pa = AllFit-places Fine a fa in
      let n = length-places a in
      under_down c (places a) (places b) fc pa (AllFit-places Fine b fb) (omega arith)
      (under_below b (places a) fb pa (length-places a ∙ w) (Steady-places a) h)
      (heads o b (places a) h) g

  -- ---- reflexive

  start_refl : (k : ℕ) (y : C) → Fine k y → 0 < k → is_start o k y (spread k y 0 k) ≡ true
  unfolding spread
  start_refl zero y f h = absurd (omega arith)
  start_refl (suc k) y f h = start o (suc k) y (record { at = 0; bits = suc k; cell = y }) (spread (suc k) y 1 k) (record { at = refl; bits = refl; leq = l.leq_refl (suc k) y f })

  pub in_refl : (k : ℕ) (y : C) → Fine k y → is_in o k y (spread k y 0 k) ≡ true
  unfolding spread is_admitted
  in_refl zero y f = in_from o zero y [] (inr (inl refl))
  in_refl (suc k) y f = in_from o (suc k) y (spread (suc k) y 0 (suc k)) (inl (start_refl (suc k) y f (omega arith)))

  pub included_refl : (a : List (Element C)) → AllFine Fine a → included o a a ≡ true
  unfolding included is_under places
  included_refl [] f = refl
  included_refl (e ∷ es) f =
      let t = take_at (spread e.bits e.cell 0 e.bits) (places es) e.bits (length-spread e.bits e.cell 0 e.bits) in
      let d = drop_at (spread e.bits e.cell 0 e.bits) (places es) e.bits (length-spread e.bits e.cell 0 e.bits) in
      let a : is_in o e.bits e.cell (take e.bits (spread e.bits e.cell 0 e.bits ++ places es)) ≡ true = rw t (in_refl e.bits e.cell f.0) in
      let r : is_under o (drop e.bits (spread e.bits e.cell 0 e.bits ++ places es)) es ≡ true = rw d (included_refl es f.1) in
      and_from _ _ a r
