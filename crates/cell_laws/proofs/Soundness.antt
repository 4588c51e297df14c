-- A map that includes another describes what that one describes.
use Rattle.std.proofs.Common.{◌≡◌, ℕ, zero, suc, ◌+◌, ◌-◌, ◌≤◌, Bool, true, List, [], ◌∷◌, ◌++◌, length, take, drop, refl, sym, ap, ◌∙◌, subst, arith, inl, inr, length-take, length-drop}
use Rattle.std.specs.Prelude.{Option, None, Some}
use Rattle.std.proofs.lemmas.List.{drop-drop, take-append-drop}
use Rattle.std.proofs.lemmas.Bool.{cases_lt, and_parts}
use Rattle.cell_laws.specs.Elements.{Element, Place, spread, places, width, AllFine, AllFit}
use Rattle.cell_laws.specs.Cells.{Ops}
use Rattle.cell_laws.specs.Order.{is_start, known, has_bits, is_known, is_in, is_under, included}
use Rattle.cell_laws.specs.Laws.{MeaningLaws}
use Rattle.cell_laws.specs.Meaning.{Describes, ShowsAll}
use Rattle.cell_laws.proofs.Places.{place, length-places, drop-spread, drop-past}
use Rattle.cell_laws.proofs.Ordering.{starts, ways, AllFit-take, AllFit-drop, AllFit-places}

module _ {C H K : Type 0} (o : Ops C H) (Tint : H → K → Type 0) (Bare : K → Type 0) (Sure : Bool → K → Type 0) where
  ShowsAll-take : (n : ℕ) (ps : List (Place C)) (ks : List K) → ShowsAll o Tint Bare Sure ps ks → ShowsAll o Tint Bare Sure (take n ps) (take n ks)
  ShowsAll-take zero ps ks s = tt
  ShowsAll-take (suc n) [] [] s = tt
  ShowsAll-take (suc n) [] (k ∷ ks) s = absurd s
  ShowsAll-take (suc n) (p ∷ ps) [] s = absurd s
  ShowsAll-take (suc n) (p ∷ ps) (k ∷ ks) s = (s.0, ShowsAll-take n ps ks s.1)

  ShowsAll-drop : (n : ℕ) (ps : List (Place C)) (ks : List K) → ShowsAll o Tint Bare Sure ps ks → ShowsAll o Tint Bare Sure (drop n ps) (drop n ks)
  ShowsAll-drop zero ps ks s = s
  ShowsAll-drop (suc n) [] [] s = tt
  ShowsAll-drop (suc n) [] (k ∷ ks) s = absurd s
  ShowsAll-drop (suc n) (p ∷ ps) [] s = absurd s
  ShowsAll-drop (suc n) (p ∷ ps) (k ∷ ks) s = ShowsAll-drop n ps ks s.1

  ShowsAll-append : (ps qs : List (Place C)) (js ks : List K) → ShowsAll o Tint Bare Sure ps js → ShowsAll o Tint Bare Sure qs ks → ShowsAll o Tint Bare Sure (ps ++ qs) (js ++ ks)
  ShowsAll-append [] qs [] ks a b = b
  ShowsAll-append [] qs (j ∷ js) ks a b = absurd a
  ShowsAll-append (p ∷ ps) qs [] ks a b = absurd a
  ShowsAll-append (p ∷ ps) qs (j ∷ js) ks a b = (a.0, ShowsAll-append ps qs js ks a.1 b)

  ShowsAll-length : (ps : List (Place C)) (ks : List K) → ShowsAll o Tint Bare Sure ps ks → length ps ≡ length ks
  ShowsAll-length [] [] s = refl
  ShowsAll-length [] (k ∷ ks) s = absurd s
  ShowsAll-length (p ∷ ps) [] s = absurd s
  ShowsAll-length (p ∷ ps) (k ∷ ks) s = ap suc (ShowsAll-length ps ks s.1)

module _ {C H K : Type 0} (o : Ops C H) (Fine : ℕ → C → Type 0) (Tint : H → K → Type 0) (Bare : K → Type 0) (Sure : Bool → K → Type 0) (Allows : ℕ → C → List K → Type 0)
    (l : MeaningLaws o Fine Tint Bare Sure Allows) where
  -- what a described list shows, bit by bit
  described_shows : (es : List (Element C)) (ks : List K) → AllFine Fine es → Describes Allows es ks → ShowsAll o Tint Bare Sure (places es) ks
  unfolding places
  described_shows [] ks f d = subst (λ (x : List K). ShowsAll o Tint Bare Sure [] x) (sym d) tt
  described_shows (e ∷ es) ks f d =
      let a = ShowsAll-append o Tint Bare Sure (spread e.bits e.cell 0 e.bits) (places es) (take e.bits ks) (drop e.bits ks)
      (l.allows_shows e.bits e.cell (take e.bits ks) f.0 d.0) (described_shows es (drop e.bits ks) f.1 d.1) in
      rw take-append-drop at a

  described_heads : (es : List (Element C)) (ks : List K) → Describes Allows es ks →
      (n : ℕ) (q : Place C) (qs : List (Place C)) → drop n (places es) ≡ q ∷ qs → q.at ≡ 0 → Allows q.bits q.cell (take q.bits (drop n ks))
  unfolding places place
  described_heads [] ks h zero q qs d z = cc
  described_heads [] ks h (suc n) q qs d z = cc
  described_heads (e ∷ es) ks h n q qs d z =
      elim (cases_lt n e.bits) [
        | inl lt ↦
            let g = drop-spread e.bits e.cell 0 n e.bits (places es) lt in
            let i : q ≡ record { at = 0 + n; bits = e.bits; cell = e.cell } = cc in
            let at : q.at ≡ 0 + n = ap (λ (x : Place C). x.at) i in
            let none : n ≡ 0 = omega arith in
            let bits : q.bits ≡ e.bits = ap (λ (x : Place C). x.bits) i in
            let cell : q.cell ≡ e.cell = ap (λ (x : Place C). x.cell) i in
            rw (none, bits, cell) h.0
        | inr ge ↦
            let g = drop-past e.bits e.cell n (places es) ge in
            let r = described_heads es (drop e.bits ks) h.1 (n - e.bits) q qs (sym g ∙ d) z in
            let f = drop-drop (n - e.bits) e.bits ks in
            let m : e.bits + (n - e.bits) ≡ n = omega arith in
            subst (λ (x : List K). Allows q.bits q.cell (take q.bits x)) (f ∙ ap (λ (x : ℕ). drop x ks) m) r
      ]

  abbrev HeadsOf : List (Place C) → List K → Type 0
  HeadsOf ps ks = (n : ℕ) (q : Place C) (rest : List (Place C)) → drop n ps ≡ q ∷ rest → q.at ≡ 0 → Allows q.bits q.cell (take q.bits (drop n ks))

  start_allows : (k : ℕ) (z : C) (ps : List (Place C)) (ks : List K) → Fine k z → AllFit Fine ps → HeadsOf ps ks → is_start o k z (take k ps) ≡ true → Allows k z (take k ks)
  unfolding is_start
  start_allows zero z ps ks g t f h = cc
  start_allows (suc k) z [] ks g t f h = cc
  start_allows (suc k) z (q ∷ qs) ks g t f h =
      let s = starts o (suc k) z q (take k qs) h in
      let a : Allows q.bits q.cell (take q.bits ks) = f 0 q qs refl s.at in
      let b : Allows (suc k) q.cell (take (suc k) ks) = rw s.bits at a in
      let u : Fine (suc k) q.cell = subst (λ (x : ℕ). Fine x q.cell) s.bits t.0.fine in
      l.allows_leq (suc k) q.cell z (take (suc k) ks) u g s.leq b

  known_allows : (k : ℕ) (z : C) (ps : List (Place C)) (ks : List K) (bs : Option (List Bool)) → Fine k z → AllFit Fine ps → length ps ≡ k → ShowsAll o Tint Bare Sure ps ks → known o ps ≡ bs →
      has_bits o k z bs ≡ true → Allows k z ks
  unfolding has_bits
  known_allows k z ps ks None g t w s e h = cc
  known_allows k z ps ks (Some bs) g t w s e h = l.has k z ps bs ks g t w e h s

  in_allows : (k : ℕ) (z : C) (ps : List (Place C)) (ks : List K) → Fine k z → AllFit Fine ps → k ≤ length ps → ShowsAll o Tint Bare Sure ps ks → HeadsOf ps ks →
      is_in o k z (take k ps) ≡ true → Allows k z (take k ks)
  unfolding is_known
  in_allows k z ps ks g u w s f h =
      let t = ShowsAll-take o Tint Bare Sure k ps ks s in
      let v = AllFit-take Fine k ps u in
      let n : length (take k ps) ≡ k = simp length-take (omega arith) in
      elim (ways o k z (take k ps) h) [
        | inl a ↦ start_allows k z ps ks g u f a
        | inr (inl a) ↦ l.admitted k z (take k ps) (take k ks) g v n a t
        | inr (inr (inl a)) ↦ l.bare k z (take k ps) (take k ks) g v n a t
        | inr (inr (inr a)) ↦ known_allows k z (take k ps) (take k ks) (known o (take k ps)) g v n t refl a
      ]

  under_describes : (es : List (Element C)) (ps : List (Place C)) (ks : List K) → AllFine Fine es → AllFit Fine ps → length ps ≡ width es → ShowsAll o Tint Bare Sure ps ks → HeadsOf ps ks →
      is_under o ps es ≡ true → Describes Allows es ks
  unfolding is_under width
  under_describes [] [] [] g u w s f h = refl
  under_describes [] [] (k ∷ ks) g u w s f h = absurd s
  under_describes [] (p ∷ ps) ks g u w s f h = absurd (omega arith)
  under_describes (e ∷ es) ps ks g u w s f h =
      let a = and_parts (is_in o e.bits e.cell (take e.bits ps)) (is_under o (drop e.bits ps) es) h in
      let d : length (drop e.bits ps) ≡ width es = simp length-drop (omega arith) in
      let r : HeadsOf (drop e.bits ps) (drop e.bits ks) =
      λ n q rest i z. subst (λ (x : List K). Allows q.bits q.cell (take q.bits x)) (sym (drop-drop n e.bits ks))
      (f (e.bits + n) q rest (sym (drop-drop n e.bits ps) ∙ i) z) in (
        in_allows e.bits e.cell ps ks g.0 u (omega arith) s f a.0,
        under_describes es (drop e.bits ps) (drop e.bits ks) g.1 (AllFit-drop Fine e.bits ps u) d (ShowsAll-drop o Tint Bare Sure e.bits ps ks s) r a.1,
      )

  pub included_describes : (a b : List (Element C)) (ks : List K) → AllFine Fine a → AllFine Fine b → width a ≡ width b → included o a b ≡ true → Describes Allows a ks → Describes Allows b ks
  unfolding included
  included_describes a b ks f g w h d =
      under_describes b (places a) ks g (AllFit-places Fine a f) (length-places a ∙ w) (described_shows a ks f d) (described_heads a ks d) h
