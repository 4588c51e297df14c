-- All maps of a memory stay maps of objects.
use Rattle.std.proofs.Common.{◌≡◌, ℕ, zero, suc, ◌*◌, ◌<◌, ◌^◌, Bool, true, false, List, [], ◌∷◌, refl, sym, ap, ◌∙◌, subst, arith, inl, inr}
use Rattle.std.specs.Prelude.{nat_lt, nat_eq, Option, None, Some}
use Rattle.std.proofs.lemmas.Bool.{cases_Bool}
use Rattle.cell_laws.specs.Elements.{Element, width, AllFine}
use Rattle.cell_laws.specs.Cells.{Ops}
use Rattle.cell_laws.specs.Laws.{FineLaws, PartLaws}
use Rattle.run_orders.specs.Deaths.{left_all, LeftLaws}
use Rattle.run_orders.proofs.Leaving.{left_width, left_are_fine}
use Rattle.ptree.specs.Entries.{get, set, remove, merged, set_some}
use Rattle.ptree.proofs.Keys.{AllKeys-set, AllKeys-remove}
use Rattle.ptree.proofs.Merges.{AllKeys-merged}
use Rattle.c_base.specs.declared.number.BaseId.{BaseId}
use Rattle.memory_maps.specs.Memories.{Maps, MapsOf, IsObject, AreObjects, HaveNumbers, IsMemory, left_map, left_maps, left_by}

module _ {C : Type 0} (Fine : ℕ → C → Type 0) where
  pub set_objects : (maps : Maps C) (k : ℕ) (x : List (Element C)) → IsObject Fine x → AreObjects Fine maps → AreObjects Fine (set maps k x)
  set_objects [] k x i a = (i, tt)
  set_objects (e ∷ maps) k x i a =
      elim (cases_Bool (nat_lt k e.0)) [
        | inl t ↦ rw t (i, a)
        | inr t ↦ elim (cases_Bool (nat_lt e.0 k)) [
          | inl u ↦ rw (t, u) (a.0, set_objects maps k x i a.1)
          | inr u ↦ rw (t, u) (i, a.1)
        ]
      ]

  pub remove_objects : (maps : Maps C) (k : ℕ) → AreObjects Fine maps → AreObjects Fine (remove maps k)
  remove_objects [] k a = tt
  remove_objects (e ∷ maps) k a =
      elim (cases_Bool (nat_eq e.0 k)) [
        | inl t ↦ rw t a.1
        | inr t ↦ rw t (a.0, remove_objects maps k a.1)
      ]

module _ {C : Type 0} where
  pub set_numbers : (maps : Maps C) (k : ℕ) (x : List (Element C)) → k < 2 ^ 32 → HaveNumbers maps → HaveNumbers (set maps k x)
  set_numbers maps k x i a = AllKeys-set (λ n. n < 2 ^ 32) k x maps i a

  pub remove_numbers : (maps : Maps C) (k : ℕ) → HaveNumbers maps → HaveNumbers (remove maps k)
  remove_numbers maps k a = AllKeys-remove (λ n. n < 2 ^ 32) k maps a

module _ {C H : Type 0} (o : Ops C H) (Fine : ℕ → C → Type 0) (left : C → C) (laws : LeftLaws o Fine left) where
  left_numbers : (maps : Maps C) → HaveNumbers maps → HaveNumbers (left_maps o left maps)
  left_numbers maps a = AllKeys-merged (λ k x y. left_map o left x) (λ n. n < 2 ^ 32) maps [] a tt

  left_object : (x : List (Element C)) → IsObject Fine x → IsObject Fine (left_all o left x)
  left_object x i = let w = left_width o left x in let s = i.small in record { fine = left_are_fine o Fine left laws x i.fine; small = omega arith }

  pub left_objects : (maps : Maps C) → AreObjects Fine maps → AreObjects Fine (left_maps o left maps)
  left_objects [] a = tt
  left_objects (e ∷ maps) a = set_objects Fine (left_maps o left maps) e.0 (left_all o left e.1) (left_object e.1 a.0) (left_objects maps a.1)

  -- a memory when an object has died
  pub left_is : (m : MapsOf C) (ib iss others none bases slots : Maps C) (b : BaseId) → (ib, iss) ≡ m → others ≡ remove ib b.0 → none ≡ [] → bases ≡ merged (λ k x y. left_map o left x) others none →
      slots ≡ merged (λ k x y. left_map o left x) iss none → (bases, slots) ≡ left_by o left b m
  left_is m ib iss others none bases slots b v e n f g =
      let merge = merged {V = List (Element C)} (λ k x y. left_map o left x) in
      let d : bases ≡ left_maps o left (remove ib b.0) = f ∙ ap (λ (x : Maps C). merge x none) e ∙ ap (merge (remove ib b.0)) n in
      let h : slots ≡ left_maps o left iss = g ∙ ap (merge iss) n in
      ap (λ (x : Maps C). (x, slots)) d ∙ ap (λ (y : Maps C). (left_maps o left (remove ib b.0), y)) h ∙ ap (left_by o left b) v

  pub left_memory : (ib iss others none bases slots : Maps C) (b : BaseId) → others ≡ remove ib b.0 → none ≡ [] → bases ≡ merged (λ k x y. left_map o left x) others none →
      slots ≡ merged (λ k x y. left_map o left x) iss none → IsMemory Fine (ib, iss) → IsMemory Fine (bases, slots)
  left_memory ib iss others none bases slots b e n f g a =
      let merge = merged {V = List (Element C)} (λ k x y. left_map o left x) in
      let d : bases ≡ left_maps o left (remove ib b.0) = f ∙ ap (λ (x : Maps C). merge x none) e ∙ ap (merge (remove ib b.0)) n in
      let h : slots ≡ left_maps o left iss = g ∙ ap (merge iss) n in (
        subst (AreObjects Fine) (sym d) (left_objects (remove ib b.0) (remove_objects Fine ib b.0 a.0)),
        subst (AreObjects Fine) (sym h) (left_objects iss a.1),
        subst HaveNumbers (sym d) (left_numbers (remove ib b.0) (remove_numbers ib b.0 a.2)),
        subst HaveNumbers (sym h) (left_numbers iss a.3),
      )
