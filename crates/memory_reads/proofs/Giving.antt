-- What reads give.
use Rattle.std.proofs.Common.{◌≡◌, ℕ, Bool, true, false, List, [], ◌∷◌, ℤ, take, drop, refl, sym, ap, subst, arith, inl, inr}
use Rattle.std.specs.Prelude.{nat_eq, if◌then◌else◌, unwrap_or, Option, None, Some}
use Rattle.std.proofs.lemmas.Option.{none-some}
use Rattle.cell_laws.specs.Elements.{Element}
use Rattle.cell_laws.specs.Cells.{Ops}
use Rattle.cell_laws.specs.Laws.{FineLaws, OrderLaws, JoinLaws, MeaningLaws, PartLaws, AccessLaws}
use Rattle.cell_laws.specs.Access.{IsSize}
use Rattle.cell_runs.specs.declared.runs.Run.{Run}
use Rattle.ival_core.specs.Sets.{Has}
use Rattle.map_accesses.specs.Accesses.{bit_at}
use Rattle.map_accesses.proofs.Describing.{load_gives}
use Rattle.ptree.specs.Entries.{get}
use Rattle.avalue.specs.declared.row.Target.{Target}
use Rattle.avalue.specs.declared.row.Target.TheVariants.{Base, Slot}
use Rattle.memory_maps.specs.Memories.{Maps, MapsOf, IsObject, AreObjects, IsMemory, map_at}
use Rattle.memory_maps.specs.Meaning.{Stands, DescribesMemory}
use Rattle.memory_reads.specs.Reads.{Place, FitsIn, AllFitIn, HaveRanges, IsPlace, bits_at, loaded_in, read_place, read}

module _ {C : Type 0} (Fine : ℕ → C → Type 0) where
  some_same : (x y : List (Element C)) → Some x ≡ Some y → x ≡ y
  some_same x y e = ap (λ (r : Option (List (Element C))). unwrap_or r x) e

  at_head : (y x : List (Element C)) (r : Option (List (Element C))) (t : Bool) → IsObject Fine y → (r ≡ Some x → IsObject Fine x) → (if t then Some y else r) ≡ Some x → IsObject Fine x
  at_head y x r true i h e = subst (IsObject Fine) (some_same y x e) i
  at_head y x r false i h e = h e

  get_object : (maps : Maps C) (b : ℕ) (x : List (Element C)) → AreObjects Fine maps → get maps b ≡ Some x → IsObject Fine x
  get_object [] b x a e = absurd (none-some x e)
  get_object (f ∷ maps) b x a e = at_head f.1 x (get maps b) (nat_eq f.0 b) a.0 (get_object maps b x a.1) e

  -- the maps of a memory are maps of objects
  pub object_at : (m : MapsOf C) (t : Target) (x : List (Element C)) → IsMemory Fine m → map_at m t ≡ Some x → IsObject Fine x
  object_at m (Base b) x a e = get_object m.0 b.0 x a.0 e
  object_at m (Slot s) x a e = get_object m.1 s x a.1 e

module _ {C K : Type 0} (Allows : ℕ → C → List K → Type 0) where
  pub stands_at : (m : MapsOf C) (objects held : ℕ → Option (List K)) (t : Target) → DescribesMemory Allows m objects held → Stands Allows (map_at m t) (bits_at objects held t)
  stands_at m objects held (Base b) d = d.bases b.0
  stands_at m objects held (Slot s) d = d.slots s

module _ {C H K : Type 0} (o : Ops C H) (Fine : ℕ → C → Type 0) (Tint : H → K → Type 0) (Bare : K → Type 0) (Sure : Bool → K → Type 0) (Allows Gives : ℕ → C → List K → Type 0)
    (nl : FineLaws o Fine) (ol : OrderLaws o Fine) (jl : JoinLaws o Fine) (ml : MeaningLaws o Fine Tint Bare Sure Allows) (pl : PartLaws o Fine) (al : AccessLaws o Fine Allows Gives)
    (m : MapsOf C) (ranges : Target → List (Run C)) (k : ℕ) (size : IsSize k) (i : IsMemory Fine m) (rs : HaveRanges m ranges) where
  in_map : (p : Place) (z : ℤ) (ks : List K) (r : Option (List (Element C))) → r ≡ map_at m p.0 → FitsIn k p.1 r → Stands Allows r (Some ks) → Has p.1.shape z →
      Gives k (loaded_in o (ranges p.0) k p.1 r) (take k (drop (bit_at 8 z) ks))
  in_map p z ks None e f s h = absurd f
  in_map p z ks (Some x) e f s h =
      load_gives o Fine Tint Bare Sure Allows Gives nl ol jl ml pl al x 8 (ranges p.0) k p.1.shape z ks size (omega arith) (object_at Fine m p.0 x i (sym e)).fine (rs p.0 x (sym e)) p.1.valid f s.0 s.1 h

  module _ (objects held : ℕ → Option (List K)) (d : DescribesMemory Allows m objects held) where
    place_gives : (p : Place) (z : ℤ) (ks : List K) → FitsIn k p.1 (map_at m p.0) → Has p.1.shape z → bits_at objects held p.0 ≡ Some ks → Gives k (read_place o m ranges k p) (take k (drop (bit_at 8 z) ks))
    place_gives p z ks f h e = in_map p z ks (map_at m p.0) refl f (subst (Stands Allows (map_at m p.0)) e (stands_at Allows m objects held p.0 d)) h

    first_gives : (q p : Place) (z : ℤ) (ks : List K) → FitsIn k q.1 (map_at m q.0) → p ≡ q → Has p.1.shape z → bits_at objects held p.0 ≡ Some ks → Gives k (read_place o m ranges k q) (take k (drop (bit_at 8 z) ks))
    first_gives q p z ks f e h b =
        place_gives q z ks f (subst (λ (x : Place). Has x.1.shape z) e h) (subst (λ (x : Place). bits_at objects held x.0 ≡ Some ks) e b)

    pub read_gives : (ps : List Place) (p : Place) (z : ℤ) (ks : List K) → AllFitIn m k ps → IsPlace ps p → Has p.1.shape z → bits_at objects held p.0 ≡ Some ks → Gives k (read o m ranges k ps) (take k (drop (bit_at 8 z) ks))
    unfolding read
    read_gives [] p z ks f a h b = absurd a
    read_gives (q ∷ []) p z ks f (inl e) h b = first_gives q p z ks f.0 e h b
    read_gives (q ∷ []) p z ks f (inr a) h b = absurd a
    read_gives (q ∷ r ∷ ps) p z ks f (inl e) h b =
        al.join_gives_left k (read_place o m ranges k q) (read o m ranges k (r ∷ ps)) (take k (drop (bit_at 8 z) ks)) (first_gives q p z ks f.0 e h b)
    read_gives (q ∷ r ∷ ps) p z ks f (inr a) h b =
        al.join_gives_right k (read_place o m ranges k q) (read o m ranges k (r ∷ ps)) (take k (drop (bit_at 8 z) ks)) (read_gives (r ∷ ps) p z ks f.1 a h b)
