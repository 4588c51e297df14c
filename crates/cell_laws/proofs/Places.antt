-- Lists of places.
use Rattle.std.proofs.Common.{◌≡◌, ℕ, zero, suc, ◌+◌, ◌-◌, ◌<◌, ◌≤◌, List, [], ◌∷◌, ◌++◌, length, take, drop, refl, sym, ap, ◌∙◌, arith}
use Rattle.std.proofs.lemmas.List.{length-append, drop_at, drop-drop}
use Rattle.cell_laws.specs.Elements.{Element, Place, spread, places, width}

module _ {C : Type 0} where
  unfoldable pub place : ℕ → ℕ → C → Place C
  place i k c = record { at = i; bits = k; cell = c }

  pub length-spread : (k : ℕ) (c : C) (i n : ℕ) → length (spread k c i n) ≡ n
  unfolding spread
  length-spread k c i zero = refl
  length-spread k c i (suc n) = ap suc (length-spread k c (suc i) n)

  pub length-places : (es : List (Element C)) → length (places es) ≡ width es
  unfolding places width
  length-places [] = refl
  length-places (e ∷ es) =
      let l = length-append (spread e.bits e.cell 0 e.bits) (places es) in
      let s = length-spread e.bits e.cell 0 e.bits in
      let r = length-places es in
      omega arith

  -- each place goes on with its element
  abbrev pub Follows : Place C → List (Place C) → Type 0
  Follows p [] = Unit {0}
  Follows p (q ∷ qs) = suc p.at < p.bits → q ≡ record { at = suc p.at; bits = p.bits; cell = p.cell }

  abbrev pub Steady : List (Place C) → Type 0
  Steady [] = Unit {0}
  Steady (p ∷ ps) = Follows p ps × Steady ps

  pub Steady-drop : (n : ℕ) (ps : List (Place C)) → Steady ps → Steady (drop n ps)
  Steady-drop zero ps s = s
  Steady-drop (suc n) [] s = tt
  Steady-drop (suc n) (p ∷ ps) s = Steady-drop n ps s.1

  Follows-take : (n : ℕ) (p : Place C) (ps : List (Place C)) → Follows p ps → Follows p (take n ps)
  Follows-take zero p ps f = tt
  Follows-take (suc n) p [] f = tt
  Follows-take (suc n) p (q ∷ qs) f = f

  pub Steady-take : (n : ℕ) (ps : List (Place C)) → Steady ps → Steady (take n ps)
  Steady-take zero ps s = tt
  Steady-take (suc n) [] s = tt
  Steady-take (suc n) (p ∷ ps) s = (Follows-take n p ps s.0, Steady-take n ps s.1)

  Steady-spread : (k : ℕ) (c : C) (i n : ℕ) (qs : List (Place C)) → i + n ≡ k → Steady qs → Steady (spread k c i n ++ qs)
  unfolding spread
  Steady-spread k c i zero qs e s = s
  Steady-spread k c i (suc zero) [] e s = (tt, s)
  Steady-spread k c i (suc zero) (q ∷ qs) e s = ((λ l. absurd (omega arith)), s)
  Steady-spread k c i (suc (suc n)) qs e s = ((λ l. refl), Steady-spread k c (suc i) (suc n) qs (omega arith) s)

  pub Steady-places : (es : List (Element C)) → Steady (places es)
  unfolding places
  Steady-places [] = tt
  Steady-places (e ∷ es) = Steady-spread e.bits e.cell 0 e.bits (places es) (omega arith) (Steady-places es)

  abbrev Heads : ℕ → C → ℕ → List (Place C) → Type 0
  Heads k c i [] = Unit {0}
  Heads k c i (p ∷ ps) = p ≡ place i k c

  next : (k : ℕ) (c : C) (i : ℕ) (p : Place C) (ps : List (Place C)) → p ≡ place i k c → i + suc (length ps) ≤ k → Follows p ps → Heads k c (suc i) ps
  unfolding place
  next k c i p [] e l f = tt
  next k c i p (q ∷ qs) e l f =
      let at : p.at ≡ i = ap (λ (x : Place C). x.at) e in
      let bits : p.bits ≡ k = ap (λ (x : Place C). x.bits) e in
      let g : q ≡ record { at = suc p.at; bits = p.bits; cell = p.cell } = f (omega arith) in
      g ∙ ap (λ (x : Place C). record { at = suc x.at; bits = x.bits; cell = x.cell }) e

  -- places that begin within an element go on with it
  pub run : (k : ℕ) (c : C) (i n : ℕ) (ps : List (Place C)) → length ps ≡ n → i + n ≤ k → Steady ps → Heads k c i ps → ps ≡ spread k c i n
  unfolding spread place
  run k c i zero [] l e s h = refl
  run k c i zero (p ∷ ps) l e s h = absurd (omega arith)
  run k c i (suc n) [] l e s h = absurd (omega arith)
  run k c i (suc n) (p ∷ ps) l e s h =
      let r = run k c (suc i) n ps (omega arith) (omega arith) s.1 (next k c i p ps h (omega arith) s.0) in
      cc

  pub drop-spread : (k : ℕ) (c : C) (i n m : ℕ) (qs : List (Place C)) → n < m → drop n (spread k c i m ++ qs) ≡ place (i + n) k c ∷ drop (suc n) (spread k c i m ++ qs)
  unfolding spread place
  drop-spread k c i n zero qs l = absurd (omega arith)
  drop-spread k c i zero (suc m) qs l = ap (λ (x : ℕ). record { at = x; bits = k; cell = c } ∷ (spread k c (suc i) m ++ qs)) (omega arith)
  drop-spread k c i (suc n) (suc m) qs l =
      drop-spread k c (suc i) n m qs (omega arith) ∙ ap (λ (x : ℕ). record { at = x; bits = k; cell = c } ∷ drop (suc n) (spread k c (suc i) m ++ qs)) (omega arith)

  pub drop-past : (k : ℕ) (c : C) (n : ℕ) (qs : List (Place C)) → k ≤ n → drop n (spread k c 0 k ++ qs) ≡ drop (n - k) qs
  drop-past k c n qs l =
      let a = drop-drop (n - k) k (spread k c 0 k ++ qs) in
      let b = drop_at (spread k c 0 k) qs k (length-spread k c 0 k) in
      let e : k + (n - k) ≡ n = omega arith in
      sym (ap (drop (n - k)) (sym b) ∙ a ∙ ap (λ (x : ℕ). drop x (spread k c 0 k ++ qs)) e)
