-- Loads from maps of sole cells.
use Rattle.std.proofs.Common.{◌≡◌, ℕ, zero, suc, ◌+◌, ◌<◌, ◌≤◌, Bool, true, false, List, [], ◌∷◌, ◌++◌, length, take, drop, refl, sym, ap, ◌∙◌, subst, arith, inl, inr, length-take, length-drop}
use Rattle.std.specs.Prelude.{not}
use Rattle.std.specs.List.{list_all}
use Rattle.std.proofs.lemmas.List.{take-append-drop, take_all}
use Rattle.std.proofs.lemmas.Bool.{and_parts}
use Rattle.cell_laws.specs.Elements.{Element, width, AllFine}
use Rattle.cell_laws.specs.Cells.{Ops}
use Rattle.cell_laws.specs.Laws.{FineLaws, PartLaws, AccessLaws}
use Rattle.cell_laws.specs.Meaning.{Describes}
use Rattle.cell_laws.specs.Access.{copied, glued, loaded, IsSize}
use Rattle.cell_laws.proofs.Parts.{width-copied, fine_drop, fine_copied, copied_describes}
use Rattle.exact_laws.specs.Cuts.{is_loose_at, is_loose}
use Rattle.exact_laws.specs.Laws.{OnlyReads, ReadLaws}
use Rattle.exact_laws.proofs.Closing.{AllSole, not_rigid, sole_copied}

-- what is made of some elements: it gives the content and nothing else
record Reading {C H K : Type 0} (o : Ops C H) (Gives : ℕ → C → List K → Type 0) (Reads : List K → List K → Type 0) (settled : ℕ → C → Bool) (es : List (Element C)) (ks : List K) : Type 0 where
  settles : settled (width es) (glued o es) ≡ true
  gives : Gives (width es) (glued o es) ks
  reads : OnlyReads Gives Reads (width es) (glued o es) ks

module _ {C H K : Type 0} (o : Ops C H) (Fine : ℕ → C → Type 0) (Allows Gives : ℕ → C → List K → Type 0) (Reads : List K → List K → Type 0) (sole : ℕ → C → Bool) (rigid : C → Bool) (settled : ℕ → C → Bool)
    (n : FineLaws o Fine) (a : AccessLaws o Fine Allows Gives) (l : ReadLaws o Fine Allows Gives Reads sole rigid settled) where
  abbrev AllLoose : List (Element C) → Type 0
  AllLoose [] = Unit {0}
  AllLoose (e ∷ es) = (rigid e.cell ≡ false) × AllLoose es

  loose_parts : (es : List (Element C)) → list_all (λ (x : Element C). not (rigid x.cell)) es ≡ true → AllLoose es
  loose_parts [] h = tt
  loose_parts (e ∷ es) h = let p = and_parts (not (rigid e.cell)) (list_all (λ (x : Element C). not (rigid x.cell)) es) h in (not_rigid (rigid e.cell) p.0, loose_parts es p.1)

  one_reading : (e : Element C) (ks : List K) → Fine e.bits e.cell → sole e.bits e.cell ≡ true → length ks ≡ width (e ∷ []) → Describes Allows (e ∷ []) ks → OnlyReads Gives Reads (width (e ∷ [])) (glued o (e ∷ [])) ks
  unfolding glued width
  one_reading e ks f s w d =
      let t : take e.bits ks ≡ ks = take_all e.bits ks (omega arith) in
      let i : e.bits ≡ e.bits + 0 = omega arith in
      subst (λ (x : ℕ). OnlyReads Gives Reads x e.cell ks) i (l.one_reads e.bits e.cell ks f s (subst (Allows e.bits e.cell) t d.0))

  reading : (e : Element C) (es : List (Element C)) (ks : List K) → AllFine Fine (e ∷ es) → AllSole sole (e ∷ es) → AllLoose (e ∷ es) → width (e ∷ es) ≤ 64 → length ks ≡ width (e ∷ es) → Describes Allows (e ∷ es) ks → Reading o Gives Reads settled (e ∷ es) ks
  unfolding glued width
  reading e [] ks f s r h w d =
      let t : take e.bits ks ≡ ks = take_all e.bits ks (omega arith) in
      let i : e.bits ≡ e.bits + 0 = omega arith in
      record {
        settles = subst (λ (x : ℕ). settled x e.cell ≡ true) i (l.one_settled e.bits e.cell f.0 s.0 r.0);
        gives = subst (λ (x : ℕ). Gives x e.cell ks) i (a.one_gives e.bits e.cell ks f.0 (subst (Allows e.bits e.cell) t d.0));
        reads = one_reading e ks f.0 s.0 w d;
      }
  reading e (g ∷ es) ks f s r h w d =
      let m : length (drop e.bits ks) ≡ width (g ∷ es) = simp length-drop (omega arith) in
      let v = reading g es (drop e.bits ks) f.1 s.1 r.1 (omega arith) m d.1 in
      let b = n.some_bits g.bits g.cell f.1.0 in
      let one = a.one_gives e.bits e.cell (take e.bits ks) f.0 d.0 in
      let t = take-append-drop e.bits ks in
      let two = a.glue_gives e.bits (width (g ∷ es)) e.cell (glued o (g ∷ es)) (take e.bits ks) (drop e.bits ks) f.0 (omega arith) (omega arith) one v.gives in
      let three = l.glue_reads e.bits (width (g ∷ es)) e.cell (glued o (g ∷ es)) (take e.bits ks) (drop e.bits ks) f.0 (omega arith) (omega arith) s.0 r.0 v.settles d.0 v.gives v.reads in
      record {
        settles = l.glue_settled e.bits (width (g ∷ es)) e.cell (glued o (g ∷ es)) f.0 (omega arith) (omega arith) s.0 r.0 v.settles;
        gives = subst (Gives (e.bits + width (g ∷ es)) (o.glue e.bits e.cell (width (g ∷ es)) (glued o (g ∷ es)))) t two;
        reads = subst (OnlyReads Gives Reads (e.bits + width (g ∷ es)) (o.glue e.bits e.cell (width (g ∷ es)) (glued o (g ∷ es)))) t three;
      }

  -- elements that may be put together are read as their content
  pub only_reads : (es : List (Element C)) (ks : List K) → AllFine Fine es → AllSole sole es → is_loose rigid es ≡ true → 0 < width es → width es ≤ 64 → length ks ≡ width es → Describes Allows es ks → OnlyReads Gives Reads (width es) (glued o es) ks
  unfolding width is_loose
  only_reads [] ks f s r p h w d = absurd (none p)
    where
      none : 0 < width {C = C} [] → ⊥
      none p = omega arith
  only_reads (e ∷ []) ks f s r p h w d = one_reading e ks f.0 s.0 w d
  only_reads (e ∷ g ∷ es) ks f s r p h w d = (reading e (g ∷ es) ks f s (loose_parts (e ∷ g ∷ es) (many r)) h w d).reads
    where
      many : is_loose rigid (e ∷ g ∷ es) ≡ true → list_all (λ (x : Element C). not (rigid x.cell)) (e ∷ g ∷ es) ≡ true
      many r = r

  -- so is a part of a map
  pub load_reads : PartLaws o Fine →
      ((k : ℕ) (c : C) (low m : ℕ) → Fine k c → 0 < m → m < k → low + m ≤ k → rigid c ≡ false → sole k c ≡ true → sole m (o.piece k c low m) ≡ true) →
      ((k : ℕ) (c : C) (low m : ℕ) → Fine k c → 0 < m → m < k → low + m ≤ k → rigid c ≡ false → rigid (o.piece k c low m) ≡ false) →
      (m : List (Element C)) (at k : ℕ) (ks : List K) → IsSize k → AllFine Fine m → AllSole sole m → is_loose_at rigid m at ≡ true → is_loose_at rigid m (at + k) ≡ true → is_loose rigid (copied o m at k) ≡ true → at + k ≤ width m →
      length ks ≡ width m → Describes Allows m ks → OnlyReads Gives Reads k (loaded o m at k) (take k (drop at ks))
  unfolding loaded
  load_reads q ps pl m at k ks z f s u h r w v d =
      let g = fine_drop o Fine q m at f in
      let b = copied_describes o Fine Allows Gives q a m at k ks f d in
      let e = width-copied o m at k w in
      let p = z.some in
      let few = z.few in
      let i : length (take k (drop at ks)) ≡ width (copied o m at k) = simp (length-take, length-drop) (omega arith) in
      subst (λ (x : ℕ). OnlyReads Gives Reads x (glued o (copied o m at k)) (take k (drop at ks))) e
      (only_reads (copied o m at k) (take k (drop at ks)) (fine_copied o Fine q m at k f) (sole_copied o Fine sole rigid ps pl m at k f g s u h) r (omega arith) (omega arith) i b)
