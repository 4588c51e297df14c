-- What the places of maps of sole cells show.
use Rattle.std.proofs.Common.{◌≡◌, ℕ, zero, suc, ◌+◌, ◌-◌, ◌<◌, ◌≤◌, Bool, true, false, List, [], ◌∷◌, ◌++◌, length, take, drop, refl, sym, ap, ◌∙◌, subst, arith, length-take, length-drop}
use Rattle.std.specs.Prelude.{Option, Some, None}
use Rattle.std.proofs.lemmas.List.{drop-drop, take_all, length-append}
use Rattle.cell_laws.specs.Elements.{Element, Place, spread, places, width, AllFine}
use Rattle.cell_laws.specs.Cells.{Ops}
use Rattle.cell_laws.specs.Order.{known}
use Rattle.cell_laws.specs.Laws.{FineLaws}
use Rattle.cell_laws.specs.Meaning.{Describes, Shows, ShowsAll}
use Rattle.cell_laws.proofs.Ordering.{Bits, known_bits, known_from}
use Rattle.exact_laws.specs.Laws.{IsAt}
use Rattle.exact_laws.proofs.Closing.{AllSole}

module _ {K : Type 0} where
  pub at_drop : (ks : List K) (i : ℕ) (c : K) (r : List K) → drop i ks ≡ c ∷ r → IsAt ks i c
  at_drop [] zero c r e = cc
  at_drop [] (suc i) c r e = cc
  at_drop (k ∷ ks) zero c r e = cc
  at_drop (k ∷ ks) (suc i) c r e = at_drop ks i c r e

  pub at_take : (ks : List K) (n i : ℕ) (c : K) → i < n → IsAt ks i c → IsAt (take n ks) i c
  at_take [] n i c h a = absurd a
  at_take (k ∷ ks) zero i c h a = absurd (omega arith)
  at_take (k ∷ ks) (suc n) zero c h a = a
  at_take (k ∷ ks) (suc n) (suc i) c h a = at_take ks n i c (omega arith) a

  pub drop_more : (ks : List K) (i : ℕ) (c : K) (r : List K) → drop i ks ≡ c ∷ r → drop (suc i) ks ≡ r
  drop_more ks i c r e = let s : i + 1 ≡ suc i = omega arith in sym (drop-drop 1 i ks ∙ ap (λ (x : ℕ). drop x ks) s) ∙ ap (drop 1) e

  pub some_left : (ks : List K) (i : ℕ) → i < length ks → (c : K) × (r : List K) × (drop i ks ≡ c ∷ r)
  some_left [] i h = absurd (omega arith)
  some_left (k ∷ ks) zero h = (k, ks, refl)
  some_left (k ∷ ks) (suc i) h = some_left ks i (omega arith)

-- the place stands in an element with a sole cell, which allows some content; from the place on this is a front of ks
pub record ShownAt {C K : Type 0} (Fine : ℕ → C → Type 0) (Allows : ℕ → C → List K → Type 0) (sole : ℕ → C → Bool) (p : Place C) (ks : List K) : Type 0 where
  pub fine : Fine p.bits p.cell
  pub inside : p.at < p.bits
  pub alone : sole p.bits p.cell ≡ true
  pub content : List K
  pub allows : Allows p.bits p.cell content
  pub same : drop p.at content ≡ take (p.bits - p.at) ks

module _ {C K : Type 0} (Fine : ℕ → C → Type 0) (Allows : ℕ → C → List K → Type 0) (sole : ℕ → C → Bool) where
  -- behind an element's last place another element begins
  abbrev pub Goes : Place C → List (Place C) → Type 0
  Goes p [] = Unit {0}
  Goes p (q ∷ qs) = p.bits ≤ suc p.at → q.at ≡ 0

  abbrev pub Shown : List (Place C) → List K → Type 0
  Shown [] ks = Unit {0}
  Shown (p ∷ ps) [] = ⊥
  Shown (p ∷ ps) (c ∷ ks) = ShownAt Fine Allows sole p (c ∷ ks) × Goes p ps × Shown ps ks

  pub shown_drop : (n : ℕ) (ps : List (Place C)) (ks : List K) → Shown ps ks → Shown (drop n ps) (drop n ks)
  shown_drop zero ps ks s = s
  shown_drop (suc n) [] ks s = tt
  shown_drop (suc n) (p ∷ ps) [] s = absurd s
  shown_drop (suc n) (p ∷ ps) (c ∷ ks) s = shown_drop n ps ks s.2

  abbrev Begins : List (Place C) → Type 0
  Begins [] = Unit {0}
  Begins (q ∷ qs) = q.at ≡ 0

  goes_on : (p : Place C) (qs : List (Place C)) → Begins qs → Goes p qs
  goes_on p [] b = tt
  goes_on p (q ∷ qs) b = λ h. b

  spread_shown : (wide : (k : ℕ) (c : C) (ks : List K) → Allows k c ks → length ks ≡ k) (k : ℕ) (c : C) (i n : ℕ) (content ks : List K) (qs : List (Place C)) → Fine k c → sole k c ≡ true → Allows k c content → i + n ≡ k →
      drop i content ≡ take n ks → Begins qs → Shown qs (drop n ks) → Shown (spread k c i n ++ qs) ks
  unfolding spread
  spread_shown wide k c i zero content ks qs f s a e d b r = r
  spread_shown wide k c i (suc n) content [] qs f s a e d b r =
      let w = wide k c content a in
      let l : length (drop i content) ≡ 0 = ap length d in
      let m = length-drop i content in
      absurd (omega arith)
  spread_shown wide k c i (suc n) content (x ∷ ks) qs f s a e d b r =
      let j : k - i ≡ suc n = omega arith in (
        record { fine = f; inside = omega arith; alone = s; content = content; allows = a; same = d ∙ ap (λ (y : ℕ). take y (x ∷ ks)) (sym j) },
        next n e,
        spread_shown wide k c (suc i) n content ks qs f s a (omega arith) (drop_more content i x (take n ks) d) b r,
      )
    where
      next : (n : ℕ) → i + suc n ≡ k → Goes (record { at = i; bits = k; cell = c }) (spread k c (suc i) n ++ qs)
      next zero e = goes_on (record { at = i; bits = k; cell = c }) qs b
      next (suc n) e = λ h. absurd (omega arith)

  begin_places : (es : List (Element C)) → AllFine Fine es → ((k : ℕ) (c : C) → Fine k c → 0 < k) → Begins (places es)
  unfolding places spread
  begin_places [] f h = tt
  begin_places (e ∷ es) f h = at e.bits (h e.bits e.cell f.0)
    where
      at : (n : ℕ) → 0 < n → Begins (spread e.bits e.cell 0 n ++ places es)
      at zero p = absurd (omega arith)
      at (suc n) p = refl

  pub places_shown : ((k : ℕ) (c : C) (ks : List K) → Allows k c ks → length ks ≡ k) → ((k : ℕ) (c : C) → Fine k c → 0 < k) → (es : List (Element C)) (ks : List K) → AllFine Fine es → AllSole sole es → Describes Allows es ks → Shown (places es) ks
  unfolding places
  places_shown wide some [] ks f s d = tt
  places_shown wide some (e ∷ es) ks f s d =
      spread_shown wide e.bits e.cell 0 e.bits (take e.bits ks) ks (places es) f.0 s.0 d.0 (omega arith) refl (begin_places es f.1 some) (places_shown wide some es (drop e.bits ks) f.1 s.1 d.1)

-- one place of those that are shown
pub record Here {C K : Type 0} (p : Place C) (content : List K) (c : K) : Type 0 where
  pub at : IsAt content p.at c

module _ {C K : Type 0} (Fine : ℕ → C → Type 0) (Allows : ℕ → C → List K → Type 0) (sole : ℕ → C → Bool) where
  pub here : (p : Place C) (c : K) (ks : List K) → (s : ShownAt Fine Allows sole p (c ∷ ks)) → IsAt s.content p.at c
  here p c ks s = at (p.bits - p.at) s.same (let i = s.inside in omega arith)
    where
      at : (n : ℕ) → drop p.at s.content ≡ take n (c ∷ ks) → 0 < n → IsAt s.content p.at c
      at zero e h = absurd (omega arith)
      at (suc n) e h = at_drop s.content p.at c (take n ks) e

  -- an element that begins there allows what follows
  pub front : (p : Place C) (ks : List K) → (s : ShownAt Fine Allows sole p ks) → p.at ≡ 0 → Allows p.bits p.cell (take p.bits ks)
  front p ks s z =
      let e : s.content ≡ take (p.bits - p.at) ks = sym (ap (λ (x : ℕ). drop x s.content) z) ∙ s.same in
      let n : p.bits - p.at ≡ p.bits = omega arith in
      subst (Allows p.bits p.cell) (e ∙ ap (λ (x : ℕ). take x ks) n) s.allows

module _ {C H K : Type 0} (o : Ops C H) (Tint : H → K → Type 0) (Bare : K → Type 0) (Sure : Bool → K → Type 0) where
  -- what an element shows at one of its bits
  pub shows_at : (k : ℕ) (c : C) (i n j : ℕ) (ks : List K) (x : K) → ShowsAll o Tint Bare Sure (spread k c i n) ks → IsAt ks j x → Shows o Tint Bare Sure (record { at = i + j; bits = k; cell = c }) x
  unfolding spread
  shows_at k c i zero j [] x s a = absurd a
  shows_at k c i zero j (y ∷ ks) x s a = absurd s
  shows_at k c i (suc n) j [] x s a = absurd a
  shows_at k c i (suc n) zero (y ∷ ks) x s a =
      let z : i ≡ i + zero = omega arith in
      subst (λ (m : ℕ). Shows o Tint Bare Sure (record { at = m; bits = k; cell = c }) x) z (subst (Shows o Tint Bare Sure (record { at = i; bits = k; cell = c })) (sym a) s.0)
  shows_at k c i (suc n) (suc j) (y ∷ ks) x s a =
      let z : suc i + j ≡ i + suc j = omega arith in
      subst (λ (m : ℕ). Shows o Tint Bare Sure (record { at = m; bits = k; cell = c }) x) z (shows_at k c (suc i) n j ks x s.1 a)
