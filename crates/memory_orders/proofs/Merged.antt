-- What is made of two memories is a memory.
use Rattle.std.proofs.Common.{◌≡◌, ℕ, ◌<◌, ◌^◌, Bool, true, false, List, [], ◌∷◌, refl, sym, ap, ◌∙◌, subst, arith, inl, inr}
use Rattle.std.specs.Prelude.{nat_eq, if◌then◌else◌, Option, None, Some}
use Rattle.std.proofs.lemmas.Bool.{cases_Bool}
use Rattle.std.proofs.lemmas.Bool.Decides.{nat_tests}
use Rattle.cell_laws.specs.Elements.{Element, width, AllFine}
use Rattle.cell_laws.specs.Cells.{Ops}
use Rattle.cell_laws.specs.Laws.{FineLaws, OrderLaws, JoinLaws, MergeLaws}
use Rattle.cell_laws.specs.Join.{joined}
use Rattle.cell_laws.proofs.Joins.{joined_above}
use Rattle.ptree.specs.Entries.{get, remove, set_some, merged, merged_rest}
use Rattle.ptree.proofs.Merges.{AllKeys-merged}
use Rattle.memory_maps.specs.Memories.{Maps, MapsOf, IsObject, AreObjects, HaveNumbers}
use Rattle.memory_maps.proofs.Objects.{set_objects, remove_objects}
use Rattle.memory_orders.specs.Merging.{merged_map, merged_maps}

pub same_numbers : (a b : ℕ) → nat_eq a b ≡ true → a ≡ b
same_numbers a b e = grind (arith, nat_tests)

pub equal_numbers : (a b : ℕ) → a ≡ b → nat_eq a b ≡ true
equal_numbers a b e = grind (arith, nat_tests)

module _ {C : Type 0} (Fine : ℕ → C → Type 0) where
  -- what is there is a map of an object
  abbrev pub MayBeObject : Option (List (Element C)) → Type 0
  MayBeObject None = Unit {0}
  MayBeObject (Some x) = IsObject Fine x

  pub is_object : (x : List (Element C)) → AllFine Fine x → width x < 2 ^ 64 → IsObject Fine x
  is_object x f s = record { fine = f; small = s }

  pub get_object : (maps : Maps C) (k : ℕ) → AreObjects Fine maps → MayBeObject (get maps k)
  get_object [] k a = tt
  get_object (e ∷ maps) k a =
      elim (cases_Bool (nat_eq e.0 k)) [
        | inl t ↦ rw t a.0
        | inr t ↦ rw t (get_object maps k a.1)
      ]

  set_some_objects : (maps : Maps C) (k : ℕ) (r : Option (List (Element C))) → MayBeObject r → AreObjects Fine maps → AreObjects Fine (set_some maps k r)
  set_some_objects maps k None i a = a
  set_some_objects maps k (Some x) i a = set_objects Fine maps k x i a

module _ {C H : Type 0} (o : Ops C H) (Fine : ℕ → C → Type 0) (nl : FineLaws o Fine) (ol : OrderLaws o Fine) (jl : JoinLaws o Fine) (merge : ℕ → C → C → C) (ml : MergeLaws o Fine merge) where
  pub merged_object : (x : List (Element C)) (r : Option (List (Element C))) → IsObject Fine x → MayBeObject Fine r → MayBeObject Fine (merged_map o merge (Some x) r)
  merged_object x None i j = tt
  merged_object x (Some y) i j =
      elim (cases_Bool (nat_eq (width x) (width y))) [
        | inl t ↦
            let above = joined_above o Fine merge nl ol jl ml x y (record { first = i.fine; second = j.fine }) (same_numbers (width x) (width y) t) in
            let w = above.wide in
            let s = j.small in
            let small : width (joined o merge x y) < 2 ^ 64 = omega arith in
            rw t (is_object Fine (joined o merge x y) above.fine small)
        | inr t ↦ rw t tt
      ]

  merged_rest_objects : (others : Maps C) → AreObjects Fine (merged_rest (λ k x y. merged_map o merge x y) others)
  merged_rest_objects [] = tt
  merged_rest_objects (e ∷ others) = merged_rest_objects others

  pub merged_objects : (maps others : Maps C) → AreObjects Fine maps → AreObjects Fine others → AreObjects Fine (merged_maps o merge maps others)
  merged_objects [] others a b = merged_rest_objects others
  merged_objects (e ∷ maps) others a b =
      set_some_objects Fine (merged_maps o merge maps (remove others e.0)) e.0 (merged_map o merge (Some e.1) (get others e.0))
      (merged_object e.1 (get others e.0) a.0 (get_object Fine others e.0 b)) (merged_objects maps (remove others e.0) a.1 (remove_objects Fine others e.0 b))

  pub made_objects : (maps others first second made : Maps C) → first ≡ maps → second ≡ others → made ≡ merged_maps o merge first second → AreObjects Fine maps → AreObjects Fine others → AreObjects Fine made
  made_objects maps others first second made e f g a b =
      subst (AreObjects Fine) (sym g) (merged_objects first second (subst (AreObjects Fine) (sym e) a) (subst (AreObjects Fine) (sym f) b))

  pub made_numbers : (maps others first second made : Maps C) → first ≡ maps → second ≡ others → made ≡ merged_maps o merge first second → HaveNumbers maps → HaveNumbers others → HaveNumbers made
  made_numbers maps others first second made e f g a b =
      subst HaveNumbers (sym g) (AllKeys-merged (λ k x y. merged_map o merge x y) (λ n. n < 2 ^ 32) first second (subst HaveNumbers (sym e) a) (subst HaveNumbers (sym f) b))
