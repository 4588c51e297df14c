-- Objects that are born, not written yet.
use Rattle.std.proofs.Common.{◌≡◌, ℕ, zero, suc, ◌*◌, Bool, true, false, List, [], ◌∷◌, length, map, refl, sym, ap, ◌∙◌, subst, arith, inl, inr}
use Rattle.std.specs.Prelude.{nat_eq, ◌==◌, ◌||◌, cond, if◌then◌else◌, replicate, Option, None, Some}
use Rattle.std.specs.List.{list_any}
use Rattle.std.proofs.lemmas.Bool.{cases_Bool}
use Rattle.std.proofs.lemmas.Bool.Decides.{nat_tests}
use Rattle.std.proofs.lemmas.List.{length-replicate}
use Rattle.c_base.specs.declared.integer.Machine.TheVariants.{Lp64}
use Rattle.c_base.specs.declared.number.BaseId.{BaseId}
use Rattle.c_memory.specs.Layouts.{Layout}
use Rattle.c_memory.specs.Values.{Cell, Uninit}
use Rattle.c_memory.specs.Memories.{Memory, born}
use Rattle.cell_laws.specs.Elements.{Element, width}
use Rattle.cell_laws.specs.Access.{repeated}
use Rattle.cell_laws.specs.Meaning.{Describes}
use Rattle.cell_laws.proofs.Accesses.{repeated_blank, width-repeated}
use Rattle.avalue_base.specs.Values.{Cellv}
use Rattle.avalue_base.specs.Pieces.{unwritten}
use Rattle.avalue_base.specs.Ops.{ops}
use Rattle.avalue_base.specs.Meaning.{Allows, AllowsBy}
use Rattle.avalue_base.proofs.Accesses.{part_laws}
use Rattle.ptree.specs.Entries.{get}
use Rattle.ptree.proofs.Maps.{get-set}
use Rattle.avalue.specs.declared.row.Target.TheVariants.{Base}
use Rattle.memory_maps.specs.Memories.{MapsOf, with_map, entered}
use Rattle.memory_maps.specs.Meaning.{Stands, DescribesMemory}

-- a map of bits that aren't written
new_map : (n : ℕ) → repeated (ops Lp64) 1 n (ops Lp64).uninit ≡ replicate n (record { bits = 1; cell = unwritten })
new_map n =
    let p = part_laws Lp64 in
    let same = p.fit_same 1 unwritten p.uninit_fine in
    let z : 1 * n ≡ n = omega arith in
    repeated_blank (ops Lp64) 1 n unwritten (ap (ops Lp64).blank same ∙ p.uninit_blank)
    ∙ ap (λ (c : Cellv). replicate (1 * n) (record { bits = 1; cell = c })) same
    ∙ ap (λ (m : ℕ). replicate m (record { bits = 1; cell = unwritten })) z

same_test : (k n : ℕ) → (k == n) ≡ nat_eq n k
same_test k n = grind (arith, nat_tests)

module _ (l : Layout) where
  one_bit : Allows l 1 unwritten (Uninit ∷ [])
  one_bit = (refl, subst (λ (t : Bool). AllowsBy l unwritten t (Uninit ∷ [])) (sym (part_laws Lp64).uninit_blank) (refl, tt))

  bits_stand : (n : ℕ) → Describes (Allows l) (replicate n (record { bits = 1; cell = unwritten })) (replicate n Uninit)
  bits_stand zero = refl
  bits_stand (suc n) = (one_bit, bits_stand n)

  new_stands : (n : ℕ) → Stands (Allows l) (Some (repeated (ops Lp64) 1 n (ops Lp64).uninit)) (Some (replicate n Uninit))
  new_stands n =
      let w = width-repeated (ops Lp64) 1 n (ops Lp64).uninit in
      let s = length-replicate n Uninit in
      let z : 1 * n ≡ n = omega arith in (
        s ∙ sym z ∙ sym w,
        subst (λ (x : List (Element Cellv)). Describes (Allows l) x (replicate n Uninit)) (sym (new_map n)) (bits_stand n),
      )

  -- objects are born one after another
  births : List BaseId → Memory → Memory
  births [] memory = memory
  births (b ∷ bs) memory = births bs (λ k. if nat_eq b.0 k then Some (replicate (8 * l.size b.0) Uninit) else memory k)

  birth_or : (t u : Bool) (b k : ℕ) (s : Option (List Cell)) → (t ≡ true → b ≡ k) →
      cond u (Some (replicate (8 * l.size k) Uninit)) (if t then Some (replicate (8 * l.size b) Uninit) else s) ≡ cond (t || u) (Some (replicate (8 * l.size k) Uninit)) s
  birth_or true true b k s e = refl
  birth_or true false b k s e = ap (λ (n : ℕ). Some (replicate (8 * l.size n) Uninit)) (e refl)
  birth_or false u b k s e = refl

  same_number : (b k : ℕ) → nat_eq b k ≡ true → b ≡ k
  same_number b k e = grind (arith, nat_tests)

  births_are : (bs : List BaseId) (memory : Memory) (k : ℕ) → births bs memory k ≡ born l (map (λ (b : BaseId). b.0) bs) memory k
  unfolding births
  births_are [] memory k = refl
  births_are (b ∷ bs) memory k =
      let ns = map (λ (c : BaseId). c.0) bs in
      births_are bs (λ j. if nat_eq b.0 j then Some (replicate (8 * l.size b.0) Uninit) else memory j) k
      ∙ birth_or (nat_eq b.0 k) (list_any (λ n. k == n) ns) b.0 k (memory k) (same_number b.0 k)
      ∙ ap (λ (t : Bool). cond (t || list_any (λ n. k == n) ns) (Some (replicate (8 * l.size k) Uninit)) (memory k)) (sym (same_test k b.0))

  stands_or : (t : Bool) (n : ℕ) (r : Option (List (Element Cellv))) (s : Option (List Cell)) → Stands (Allows l) r s →
      Stands (Allows l) (if t then Some (repeated (ops Lp64) 1 n (ops Lp64).uninit) else r) (if t then Some (replicate n Uninit) else s)
  stands_or true n r s h = new_stands n
  stands_or false n r s h = h

  one_born : (b : BaseId) (n : ℕ) (m : MapsOf Cellv) (memory : Memory) (held : ℕ → Option (List Cell)) → DescribesMemory (Allows l) m memory held →
      DescribesMemory (Allows l) (with_map m (Base b) (repeated (ops Lp64) 1 n (ops Lp64).uninit)) (λ k. if nat_eq b.0 k then Some (replicate n Uninit) else memory k) held
  one_born b n m memory held d = record {
    bases = λ k. subst (λ (r : Option (List (Element Cellv))). Stands (Allows l) r (if nat_eq b.0 k then Some (replicate n Uninit) else memory k))
        (sym (get-set m.0 b.0 (repeated (ops Lp64) 1 n (ops Lp64).uninit) k)) (stands_or (nat_eq b.0 k) n (get m.0 k) (memory k) (d.bases k));
    slots = d.slots;
  }

  all_born : (size_of : ℕ → ℕ) → ((b : ℕ) → size_of b ≡ l.size b) → (bs : List BaseId) (m : MapsOf Cellv) (memory : Memory) (held : ℕ → Option (List Cell)) → DescribesMemory (Allows l) m memory held →
      DescribesMemory (Allows l) (entered (ops Lp64) size_of bs m) (births bs memory) held
  unfolding births
  all_born size_of e [] m memory held d = d
  all_born size_of e (b ∷ bs) m memory held d =
      all_born size_of e bs (with_map m (Base b) (repeated (ops Lp64) 1 (8 * size_of b.0) (ops Lp64).uninit)) (λ k. if nat_eq b.0 k then Some (replicate (8 * l.size b.0) Uninit) else memory k) held
      (subst (λ (n : ℕ). DescribesMemory (Allows l) (with_map m (Base b) (repeated (ops Lp64) 1 (8 * size_of b.0) (ops Lp64).uninit)) (λ k. if nat_eq b.0 k then Some (replicate (8 * n) Uninit) else memory k) held)
      (e b.0) (one_born b (8 * size_of b.0) m memory held d))

  pub born_describes : (size_of : ℕ → ℕ) → ((b : ℕ) → size_of b ≡ l.size b) → (bs : List BaseId) (m : MapsOf Cellv) (memory : Memory) (held : ℕ → Option (List Cell)) → DescribesMemory (Allows l) m memory held →
      DescribesMemory (Allows l) (entered (ops Lp64) size_of bs m) (born l (map (λ (b : BaseId). b.0) bs) memory) held
  born_describes size_of e bs m memory held d =
      let r = all_born size_of e bs m memory held d in
      record {
        bases = λ k. subst (Stands (Allows l) (get (entered (ops Lp64) size_of bs m).0 k)) (births_are bs memory k) (r.bases k);
        slots = r.slots;
      }
