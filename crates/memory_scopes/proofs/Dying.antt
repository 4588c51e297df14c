-- What deaths leave of memories.
use Rattle.std.proofs.Common.{◌≡◌, ℕ, ◌<◌, Bool, true, false, List, [], ◌∷◌, length, map, refl, sym, ap, ◌∙◌, subst, inl, inr}
use Rattle.std.specs.Prelude.{nat_eq, if◌then◌else◌, Option, None, Some}
use Rattle.std.proofs.lemmas.Bool.{cases_Bool}
use Rattle.std.proofs.lemmas.List.{length-map}
use Rattle.c_base.specs.declared.number.BaseId.{BaseId}
use Rattle.cell_laws.specs.Elements.{Element, width, AllFine}
use Rattle.cell_laws.specs.Cells.{Ops}
use Rattle.cell_laws.specs.Laws.{AccessLaws}
use Rattle.cell_laws.specs.Meaning.{Describes}
use Rattle.run_orders.specs.Deaths.{left_all, LeftLaws}
use Rattle.run_orders.proofs.Leaving.{left_width}
use Rattle.offmap_laws.specs.Contents.{DeathLaws}
use Rattle.offmap_laws.proofs.Contents.{left_describes}
use Rattle.ptree.specs.Entries.{IsAscending, AllKeys, get, remove, merged, answer_at}
use Rattle.ptree.proofs.Keys.{AllKeys-remove}
use Rattle.ptree.proofs.Sides.{set_front}
use Rattle.ptree.proofs.Maps.{get-remove}
use Rattle.ptree.proofs.Merges.{AllKeys-merged, get-merged}
use Rattle.avalue.specs.declared.row.Target.TheVariants.{Base, Slot}
use Rattle.memory_maps.specs.Memories.{Maps, MapsOf, IsMemory, left_map, left_maps, left_by, without}
use Rattle.memory_maps.specs.Meaning.{Stands, DescribesMemory}
use Rattle.memory_maps.proofs.Objects.{left_memory}
use Rattle.memory_reads.proofs.Giving.{object_at}
use Rattle.memory_scopes.specs.Scopes.{IsInOrder, HasShape, width_of, left_scope, without_base, without_bases, without_slot, withered, outlived, died}

module _ {V : Type 0} where
  remove_ascending : (maps : List (ℕ × V)) (k : ℕ) → IsAscending maps → IsAscending (remove maps k)
  remove_ascending [] k a = tt
  remove_ascending (e ∷ maps) k a =
      elim (cases_Bool (nat_eq e.0 k)) [
        | inl t ↦ rw t a.1
        | inr t ↦ rw t (AllKeys-remove (λ j. e.0 < j) k maps a.0, remove_ascending maps k a.1)
      ]

module _ {C H : Type 0} (o : Ops C H) (left : C → C) where
  left_keys : (P : ℕ → Type 0) (maps : Maps C) → AllKeys P maps → AllKeys P (left_maps o left maps)
  left_keys P maps a = AllKeys-merged {V = List (Element C)} (λ k x y. left_map o left x) P maps [] a tt

  left_ascending : (maps : Maps C) → IsAscending maps → IsAscending (left_maps o left maps)
  left_ascending [] a = tt
  left_ascending (e ∷ maps) a =
      let below = left_keys (λ k. e.0 < k) maps a.0 in
      subst IsAscending (sym (set_front e.0 (left_all o left e.1) (left_maps o left maps) below)) (below, left_ascending maps a.1)

  left_answer : (k : ℕ) (r : Option (List (Element C))) → answer_at (λ k x y. left_map o left x) k r None ≡ left_map o left r
  left_answer k None = refl
  left_answer k (Some x) = refl

  get_left : (maps : Maps C) (k : ℕ) → IsAscending maps → get (left_maps o left maps) k ≡ left_map o left (get maps k)
  get_left maps k a = get-merged {V = List (Element C)} (λ k x y. left_map o left x) maps [] k a tt ∙ left_answer k (get maps k)

  left_in_order : (b : BaseId) (m : MapsOf C) → IsInOrder m → IsInOrder (left_by o left b m)
  left_in_order b m i = record { bases = left_ascending (remove m.0 b.0) (remove_ascending m.0 b.0 i.bases); slots = left_ascending m.1 i.slots }

  get_base_left : (b : BaseId) (m : MapsOf C) (k : ℕ) → IsInOrder m → get (left_by o left b m).0 k ≡ left_map o left (without_base b (get m.0) k)
  get_base_left b m k i = get_left (remove m.0 b.0) k (remove_ascending m.0 b.0 i.bases) ∙ ap (left_map o left) (get-remove m.0 b.0 k i.bases)

  -- ---- shapes

  left_map_width : (r : Option (List (Element C))) → width_of (left_map o left r) ≡ width_of r
  left_map_width None = refl
  left_map_width (Some x) = ap Some (left_width o left x)

  width_without : (t : Bool) (r : Option (List (Element C))) (n : Option ℕ) → width_of r ≡ n → width_of (left_map o left (if t then None else r)) ≡ (if t then None else n)
  width_without true r n e = refl
  width_without false r n e = left_map_width r ∙ e

  left_shape : (b : BaseId) (m : MapsOf C) (objects slots : ℕ → Option ℕ) → IsInOrder m → HasShape m objects slots → HasShape (left_by o left b m) (without_base b objects) slots
  left_shape b m objects slots i h = record {
    bases = λ k. ap width_of (get_base_left b m k i) ∙ width_without (nat_eq b.0 k) (get m.0 k) (objects k) (h.bases k);
    slots = λ k. ap width_of (get_left m.1 k i.slots) ∙ left_map_width (get m.1 k) ∙ h.slots k;
  }

module _ {C H : Type 0} (o : Ops C H) (left : BaseId → C → C) where
  pub scope_shape : (bs : List BaseId) (m : MapsOf C) (objects slots : ℕ → Option ℕ) → IsInOrder m → HasShape m objects slots →
      HasShape (left_scope o left bs m) (without_bases bs objects) slots
  scope_shape [] m objects slots i h = h
  scope_shape (b ∷ bs) m objects slots i h =
      scope_shape bs (left_by o (left b) b m) (without_base b objects) slots (left_in_order o (left b) b m i) (left_shape o (left b) b m objects slots i h)

-- ---- slots that are let go

module _ {C : Type 0} where
  shape_if : (t : Bool) (r : Option (List (Element C))) (n : Option ℕ) → width_of r ≡ n → width_of (if t then None else r) ≡ (if t then None else n)
  shape_if true r n e = refl
  shape_if false r n e = e

  pub released_shape : (m : MapsOf C) (s : ℕ) (objects slots : ℕ → Option ℕ) → IsInOrder m → HasShape m objects slots → HasShape (without m (Slot s)) objects (without_slot s slots)
  released_shape m s objects slots i h = record {
    bases = h.bases;
    slots = λ k. ap width_of (get-remove m.1 s k i.slots) ∙ shape_if (nat_eq s k) (get m.1 k) (slots k) (h.slots k);
  }

module _ {C K : Type 0} (Allows : ℕ → C → List K → Type 0) where
  stands_if : (t : Bool) (r : Option (List (Element C))) (s : Option (List K)) → Stands Allows r s → Stands Allows (if t then None else r) (if t then None else s)
  stands_if true r s h = tt
  stands_if false r s h = h

  pub released_describes : (m : MapsOf C) (s : ℕ) (objects held : ℕ → Option (List K)) → IsInOrder m → DescribesMemory Allows m objects held →
      DescribesMemory Allows (without m (Slot s)) objects (without_slot s held)
  released_describes m s objects held i d = record {
    bases = d.bases;
    slots = λ k. subst (λ (r : Option (List (Element C))). Stands Allows r (without_slot s held k)) (sym (get-remove m.1 s k i.slots)) (stands_if (nat_eq s k) (get m.1 k) (held k) (d.slots k));
  }

-- ---- deaths

module _ {C H K : Type 0} (o : Ops C H) (Fine : ℕ → C → Type 0) (Allows Gives : ℕ → C → List K → Type 0) (al : AccessLaws o Fine Allows Gives)
    (wide : (k : ℕ) (c : C) (ks : List K) → Allows k c ks → length ks ≡ k) (wither : BaseId → K → K) (left : BaseId → C → C)
    (ll : (b : BaseId) → LeftLaws o Fine (left b)) (dl : (b : BaseId) → DeathLaws Fine Allows (wither b) (left b)) where
  stands_left : (b : BaseId) (r : Option (List (Element C))) (s : Option (List K)) → ((x : List (Element C)) → r ≡ Some x → AllFine Fine x) → Stands Allows r s →
      Stands Allows (left_map o (left b) r) (withered wither b s)
  stands_left b None None f h = tt
  stands_left b None (Some ks) f h = absurd h
  stands_left b (Some x) None f h = absurd h
  stands_left b (Some x) (Some ks) f h = (
    length-map ks (wither b) ∙ h.0 ∙ sym (left_width o (left b) x),
    left_describes o Fine Allows Gives al (wither b) (left b) wide (ll b) (dl b) x ks (f x refl) h.1,
  )

  stands_without : (b : BaseId) (t : Bool) (r : Option (List (Element C))) (s : Option (List K)) → ((x : List (Element C)) → r ≡ Some x → AllFine Fine x) → Stands Allows r s →
      Stands Allows (left_map o (left b) (if t then None else r)) (if t then None else withered wither b s)
  stands_without b true r s f h = tt
  stands_without b false r s f h = stands_left b r s f h

  base_describes : (b : BaseId) (m : MapsOf C) (objects held : ℕ → Option (List K)) → IsInOrder m → IsMemory Fine m → DescribesMemory Allows m objects held →
      DescribesMemory Allows (left_by o (left b) b m) (without_base b (λ k. withered wither b (objects k))) (λ k. withered wither b (held k))
  base_describes b m objects held i a d = record {
    bases = λ k. subst (λ (r : Option (List (Element C))). Stands Allows r (without_base b (λ j. withered wither b (objects j)) k)) (sym (get_base_left o (left b) b m k i))
        (stands_without b (nat_eq b.0 k) (get m.0 k) (objects k) (λ x e. (object_at Fine m (Base (record { 0 = k })) x a e).fine) (d.bases k));
    slots = λ k. subst (λ (r : Option (List (Element C))). Stands Allows r (withered wither b (held k))) (sym (get_left o (left b) m.1 k i.slots))
        (stands_left b (get m.1 k) (held k) (λ x e. (object_at Fine m (Slot k) x a e).fine) (d.slots k));
  }

  left_is_memory : (b : BaseId) (m : MapsOf C) → IsMemory Fine m → IsMemory Fine (left_by o (left b) b m)
  left_is_memory b m a =
      left_memory o Fine (left b) (ll b) m.0 m.1 (remove m.0 b.0) [] (left_maps o (left b) (remove m.0 b.0)) (left_maps o (left b) m.1) b refl refl refl refl a

  pub scope_describes : (bs : List BaseId) (m : MapsOf C) (objects held : ℕ → Option (List K)) → IsInOrder m → IsMemory Fine m → DescribesMemory Allows m objects held →
      DescribesMemory Allows (left_scope o left bs m) (died wither bs objects) (outlived wither bs held)
  scope_describes [] m objects held i a d = d
  scope_describes (b ∷ bs) m objects held i a d =
      scope_describes bs (left_by o (left b) b m) (without_base b (λ k. withered wither b (objects k))) (λ k. withered wither b (held k))
      (left_in_order o (left b) b m i) (left_is_memory b m a) (base_describes b m objects held i a d)
