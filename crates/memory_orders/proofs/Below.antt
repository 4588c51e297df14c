-- Inclusion of memories, number by number.
use Rattle.std.proofs.Common.{◌≡◌, ℕ, ◌<◌, Bool, true, false, List, [], ◌∷◌, length, refl, sym, ap, ◌∙◌, subst, arith, inl, inr}
use Rattle.std.specs.Prelude.{nat_eq, nat_le, if◌then◌else◌, ◌&&◌, Option, None, Some}
use Rattle.std.proofs.lemmas.Bool.{cases_Bool, and_parts}
use Rattle.std.proofs.lemmas.Bool.Decides.{nat_tests}
use Rattle.cell_laws.specs.Elements.{Element, width, AllFine}
use Rattle.cell_laws.specs.Cells.{Ops}
use Rattle.cell_laws.specs.Laws.{FineLaws, OrderLaws, JoinLaws, MergeLaws, MeaningLaws}
use Rattle.cell_laws.specs.Order.{included as includes_map}
use Rattle.cell_laws.specs.Join.{joined, joined_cell}
use Rattle.cell_laws.proofs.Ordering.{included_refl, included_trans}
use Rattle.cell_laws.proofs.Joins.{AreFine, joined_above, joined_left, joined_right, joined_same, joined_cell_same}
use Rattle.cell_laws.proofs.Soundness.{included_describes}
use Rattle.ptree.specs.Entries.{get, IsAscending, merged, answer_at, entries_from}
use Rattle.ptree.proofs.Maps.{get_below}
use Rattle.ptree.proofs.Merges.{get-merged}
use Rattle.avalue.specs.declared.row.Target.{Target}
use Rattle.avalue.specs.declared.row.Target.TheVariants.{Base, Slot}
use Rattle.memory_maps.specs.Memories.{Maps, MapsOf, IsObject, AreObjects, IsMemory, map_at}
use Rattle.memory_maps.specs.Meaning.{Stands, DescribesMemory}
use Rattle.memory_orders.specs.Merging.{AreMaps, AreAlike, HaveOneShape, merged_map, merged_maps, merged_memory, is_below, are_below, included, IsAbove}
use Rattle.memory_orders.proofs.Merged.{same_numbers, equal_numbers, MayBeObject, get_object}

-- from the least number on, all entries are left
pub from_first : {V : Type 0} (es : List (ℕ × V)) → entries_from es 0 ≡ es
from_first [] = refl
from_first (e ∷ es) = let b : nat_le 0 e.0 ≡ true = grind (arith, nat_tests) in rw b refl

-- a test that fails doesn't hold
fails : false ≡ true → ⊥
fails e = cc

both : (p q : Bool) → p ≡ true → q ≡ true → (p && q) ≡ true
both p q a b = rw (a, b) refl

module _ {C H : Type 0} (o : Ops C H) where
  -- what is there is included in the other
  abbrev pub LiesBelow : Option (List (Element C)) → Option (List (Element C)) → Type 0
  LiesBelow None r = Unit {0}
  LiesBelow (Some x) r = is_below o x r ≡ true

  pub below_at : (maps others : Maps C) (k : ℕ) → are_below o maps others ≡ true → LiesBelow (get maps k) (get others k)
  unfolding are_below
  below_at [] others k h = tt
  below_at (e ∷ maps) others k h =
      let a = and_parts (is_below o e.1 (get others e.0)) (are_below o maps others) h in
      elim (cases_Bool (nat_eq e.0 k)) [
        | inl t ↦ rw t (subst (λ (n : ℕ). is_below o e.1 (get others n) ≡ true) (same_numbers e.0 k t) a.0)
        | inr t ↦ rw t (below_at maps others k a.1)
      ]

  lies_behind : (e : ℕ × List (Element C)) (maps others : Maps C) (k : ℕ) → IsAscending (e ∷ maps) → LiesBelow (get (e ∷ maps) k) (get others k) → LiesBelow (get maps k) (get others k)
  lies_behind e maps others k s h =
      elim (cases_Bool (nat_eq e.0 k)) [
        | inl t ↦
            let absent : get maps k ≡ None = subst (λ (n : ℕ). get maps n ≡ None) (same_numbers e.0 k t) (get_below maps e.0 s.0) in
            rw absent tt
        | inr t ↦ rw t at h
      ]

  pub below_from : (maps others : Maps C) → IsAscending maps → ((k : ℕ) → LiesBelow (get maps k) (get others k)) → are_below o maps others ≡ true
  unfolding are_below
  below_from [] others s h = refl
  below_from (e ∷ maps) others s h =
      let first : is_below o e.1 (get others e.0) ≡ true = rw (equal_numbers e.0 e.0 refl) at (h e.0) in
      both (is_below o e.1 (get others e.0)) (are_below o maps others) first (below_from maps others s.1 (λ k. lies_behind e maps others k s (h k)))

  map_below : (x y : List (Element C)) → width x ≡ width y → includes_map o x y ≡ true → is_below o x (Some y) ≡ true
  map_below x y w i = both (nat_eq (width x) (width y)) (includes_map o x y) (equal_numbers (width x) (width y) w) i

module _ {C H : Type 0} (o : Ops C H) (Fine : ℕ → C → Type 0) (ol : OrderLaws o Fine) where
  below_itself : (r : Option (List (Element C))) → MayBeObject Fine r → LiesBelow o r r
  below_itself None i = tt
  below_itself (Some x) i = map_below o x x refl (included_refl o Fine ol x i.fine)

  below_next : (r s t : Option (List (Element C))) → MayBeObject Fine r → MayBeObject Fine s → MayBeObject Fine t → LiesBelow o r s → LiesBelow o s t → LiesBelow o r t
  below_next None s t a b c f g = tt
  below_next (Some x) None t a b c f g = absurd (fails f)
  below_next (Some x) (Some y) None a b c f g = absurd (fails g)
  below_next (Some x) (Some y) (Some z) a b c f g =
      let p = and_parts (nat_eq (width x) (width y)) (includes_map o x y) f in
      let q = and_parts (nat_eq (width y) (width z)) (includes_map o y z) g in
      let v = same_numbers (width x) (width y) p.0 in
      let w = same_numbers (width y) (width z) q.0 in
      map_below o x z (v ∙ w) (included_trans o Fine ol x y z a.fine b.fine c.fine v w p.1 q.1)

  maps_below_itself : (maps : Maps C) → IsAscending maps → AreObjects Fine maps → are_below o maps maps ≡ true
  maps_below_itself maps s a = below_from o maps maps s (λ k. below_itself (get maps k) (get_object Fine maps k a))

  maps_below_next : (a b c : Maps C) → IsAscending a → AreObjects Fine a → AreObjects Fine b → AreObjects Fine c → are_below o a b ≡ true → are_below o b c ≡ true → are_below o a c ≡ true
  maps_below_next a b c s i j l f g =
      below_from o a c s (λ k. below_next (get a k) (get b k) (get c k) (get_object Fine a k i) (get_object Fine b k j) (get_object Fine c k l) (below_at o a b k f) (below_at o b c k g))

  pub included_itself : (a : MapsOf C) → AreMaps a → IsMemory Fine a → included o a a ≡ true
  included_itself a m i = both (are_below o a.0 a.0) (are_below o a.1 a.1) (maps_below_itself a.0 m.bases.ascending i.0) (maps_below_itself a.1 m.slots.ascending i.1)

  pub included_next : (a b c : MapsOf C) → AreMaps a → IsMemory Fine a → IsMemory Fine b → IsMemory Fine c → included o a b ≡ true → included o b c ≡ true → included o a c ≡ true
  included_next a b c m i j l f g =
      let p = and_parts (are_below o a.0 b.0) (are_below o a.1 b.1) f in
      let q = and_parts (are_below o b.0 c.0) (are_below o b.1 c.1) g in
      both (are_below o a.0 c.0) (are_below o a.1 c.1) (maps_below_next a.0 b.0 c.0 m.bases.ascending i.0 j.0 l.0 p.0 q.0) (maps_below_next a.1 b.1 c.1 m.slots.ascending i.1 j.1 l.1 p.1 q.1)

module _ {C H K : Type 0} (o : Ops C H) (Fine : ℕ → C → Type 0) (Tint : H → K → Type 0) (Bare : K → Type 0) (Sure : Bool → K → Type 0) (Allows : ℕ → C → List K → Type 0)
    (ml : MeaningLaws o Fine Tint Bare Sure Allows) where
  below_stands : (r s : Option (List (Element C))) (v : Option (List K)) → MayBeObject Fine r → MayBeObject Fine s → AreAlike r s → LiesBelow o r s → Stands Allows r v → Stands Allows s v
  below_stands None None v i j w f h = h
  below_stands None (Some y) v i j w f h = absurd w
  below_stands (Some x) None v i j w f h = absurd w
  below_stands (Some x) (Some y) None i j w f h = absurd h
  below_stands (Some x) (Some y) (Some ks) i j w f h =
      (h.0 ∙ w, included_describes o Fine Tint Bare Sure Allows ml x y ks i.fine j.fine w (and_parts (nat_eq (width x) (width y)) (includes_map o x y) f).1 h.1)

  pub included_describes_memory : (a b : MapsOf C) (objects held : ℕ → Option (List K)) → IsMemory Fine a → IsMemory Fine b → HaveOneShape a b → included o a b ≡ true →
      DescribesMemory Allows a objects held → DescribesMemory Allows b objects held
  included_describes_memory a b objects held i j s f d =
      let p = and_parts (are_below o a.0 b.0) (are_below o a.1 b.1) f in
      record {
        bases = λ k. below_stands (get a.0 k) (get b.0 k) (objects k) (get_object Fine a.0 k i.0) (get_object Fine b.0 k j.0) (s.bases k) (below_at o a.0 b.0 k p.0) (d.bases k);
        slots = λ k. below_stands (get a.1 k) (get b.1 k) (held k) (get_object Fine a.1 k i.1) (get_object Fine b.1 k j.1) (s.slots k) (below_at o a.1 b.1 k p.1) (d.slots k);
      }

module _ {C H : Type 0} (o : Ops C H) (merge : ℕ → C → C → C) where
  -- what stands at a number in the memory that was made of two
  abbrev pub made_at : Option (List (Element C)) → Option (List (Element C)) → Option (List (Element C))
  made_at r s = answer_at {V = List (Element C)} (λ k x y. merged_map o merge x y) 0 r s

  pub get_made : (a b : Maps C) (k : ℕ) → IsAscending a → IsAscending b → get (merged_maps o merge a b) k ≡ made_at (get a k) (get b k)
  get_made a b k s t = get-merged (λ n x y. merged_map o merge x y) a b k s t ∙ any_key (get a k) (get b k)
    where
      any_key : (r s : Option (List (Element C))) → answer_at {V = List (Element C)} (λ n x y. merged_map o merge x y) k r s ≡ made_at r s
      any_key None None = refl
      any_key None (Some y) = refl
      any_key (Some x) s = refl

  made_of_two : (x y : List (Element C)) → width x ≡ width y → made_at (Some x) (Some y) ≡ Some (joined o merge x y)
  made_of_two x y w = rw (equal_numbers (width x) (width y) w) refl

  module _ (Fine : ℕ → C → Type 0) (nl : FineLaws o Fine) (ol : OrderLaws o Fine) (jl : JoinLaws o Fine) (ml : MergeLaws o Fine merge) where
    first_below : (r s : Option (List (Element C))) → MayBeObject Fine r → MayBeObject Fine s → AreAlike r s → LiesBelow o r (made_at r s)
    first_below None s i j w = tt
    first_below (Some x) None i j w = absurd w
    first_below (Some x) (Some y) i j w =
        let f : AreFine Fine x y = record { first = i.fine; second = j.fine } in
        let wide = (joined_above o Fine merge nl ol jl ml x y f w).wide in
        subst (LiesBelow o (Some x)) (sym (made_of_two x y w)) (map_below o x (joined o merge x y) (w ∙ sym wide) (joined_left o Fine merge nl ol jl ml x y f w))

    second_below : (r s : Option (List (Element C))) → MayBeObject Fine r → MayBeObject Fine s → AreAlike r s → LiesBelow o s (made_at r s)
    second_below None None i j w = tt
    second_below None (Some y) i j w = absurd w
    second_below (Some x) None i j w = absurd w
    second_below (Some x) (Some y) i j w =
        let f : AreFine Fine x y = record { first = i.fine; second = j.fine } in
        let wide = (joined_above o Fine merge nl ol jl ml x y f w).wide in
        subst (LiesBelow o (Some y)) (sym (made_of_two x y w)) (map_below o y (joined o merge x y) (sym wide) (joined_right o Fine merge nl ol jl ml x y f w))

    second_alike : (r s : Option (List (Element C))) → MayBeObject Fine r → MayBeObject Fine s → AreAlike r s → AreAlike s (made_at r s)
    second_alike None None i j w = tt
    second_alike None (Some y) i j w = absurd w
    second_alike (Some x) None i j w = absurd w
    second_alike (Some x) (Some y) i j w =
        subst (AreAlike (Some y)) (sym (made_of_two x y w)) (sym (joined_above o Fine merge nl ol jl ml x y (record { first = i.fine; second = j.fine }) w).wide)

    module _ (a b : Maps C) (s : IsAscending a) (t : IsAscending b) (i : AreObjects Fine a) (j : AreObjects Fine b) (w : (k : ℕ) → AreAlike (get a k) (get b k)) where
      first_maps_below : are_below o a (merged_maps o merge a b) ≡ true
      first_maps_below =
          below_from o a (merged_maps o merge a b) s
          (λ k. subst (LiesBelow o (get a k)) (sym (get_made a b k s t)) (first_below (get a k) (get b k) (get_object Fine a k i) (get_object Fine b k j) (w k)))

      second_maps_below : are_below o b (merged_maps o merge a b) ≡ true
      second_maps_below =
          below_from o b (merged_maps o merge a b) t
          (λ k. subst (LiesBelow o (get b k)) (sym (get_made a b k s t)) (second_below (get a k) (get b k) (get_object Fine a k i) (get_object Fine b k j) (w k)))

      second_maps_alike : (k : ℕ) → AreAlike (get b k) (get (merged_maps o merge a b) k)
      second_maps_alike k = subst (AreAlike (get b k)) (sym (get_made a b k s t)) (second_alike (get a k) (get b k) (get_object Fine a k i) (get_object Fine b k j) (w k))

    module _ (a b : MapsOf C) (s : AreMaps a) (t : AreMaps b) (i : IsMemory Fine a) (j : IsMemory Fine b) (w : HaveOneShape a b) where
      first_included : included o a (merged_memory o merge a b) ≡ true
      first_included =
          both (are_below o a.0 (merged_maps o merge a.0 b.0)) (are_below o a.1 (merged_maps o merge a.1 b.1))
          (first_maps_below a.0 b.0 s.bases.ascending t.bases.ascending i.0 j.0 w.bases) (first_maps_below a.1 b.1 s.slots.ascending t.slots.ascending i.1 j.1 w.slots)

      second_included : included o b (merged_memory o merge a b) ≡ true
      second_included =
          both (are_below o b.0 (merged_maps o merge a.0 b.0)) (are_below o b.1 (merged_maps o merge a.1 b.1))
          (second_maps_below a.0 b.0 s.bases.ascending t.bases.ascending i.0 j.0 w.bases) (second_maps_below a.1 b.1 s.slots.ascending t.slots.ascending i.1 j.1 w.slots)

      made_shape : HaveOneShape b (merged_memory o merge a b)
      made_shape = record {
        bases = second_maps_alike a.0 b.0 s.bases.ascending t.bases.ascending i.0 j.0 w.bases;
        slots = second_maps_alike a.1 b.1 s.slots.ascending t.slots.ascending i.1 j.1 w.slots;
      }

      pub made_above : (m : MapsOf C) → m ≡ merged_memory o merge a b → IsAbove o a b m
      made_above m e =
          let above : IsAbove o a b (merged_memory o merge a b) = record { shape = made_shape; first = first_included; second = second_included } in
          subst (IsAbove o a b) (sym e) above

  -- the two trees that were made of two each are the memory
  pub made_memory : (a b m : MapsOf C) (a0 b0 a1 b1 x y : Maps C) → a0 ≡ a.0 → b0 ≡ b.0 → a1 ≡ a.1 → b1 ≡ b.1 → x ≡ merged_maps o merge a0 b0 → y ≡ merged_maps o merge a1 b1 → m ≡ (x, y) → m ≡ merged_memory o merge a b
  made_memory a b m a0 b0 a1 b1 x y p q r s e f g =
      let d : x ≡ merged_maps o merge a.0 b.0 = e ∙ ap (λ (z : Maps C). merged_maps o merge z b0) p ∙ ap (merged_maps o merge a.0) q in
      let h : y ≡ merged_maps o merge a.1 b.1 = f ∙ ap (λ (z : Maps C). merged_maps o merge z b1) r ∙ ap (merged_maps o merge a.1) s in
      g ∙ ap (λ (z : Maps C). (z, y)) d ∙ ap (λ (z : Maps C). (merged_maps o merge a.0 b.0, z)) h

  made_map : (a b : Maps C) (k : ℕ) (x y : List (Element C)) → IsAscending a → IsAscending b → get a k ≡ Some x → get b k ≡ Some y → width x ≡ width y → get (merged_maps o merge a b) k ≡ Some (joined o merge x y)
  made_map a b k x y s t e f w =
      get_made a b k s t ∙ ap (λ (r : Option (List (Element C))). made_at r (get b k)) e ∙ ap (made_at (Some x)) f ∙ made_of_two x y w

  pub made_map_at : (a b : MapsOf C) (t : Target) (x y : List (Element C)) → AreMaps a → AreMaps b → map_at a t ≡ Some x → map_at b t ≡ Some y → width x ≡ width y → map_at (merged_memory o merge a b) t ≡ Some (joined o merge x y)
  made_map_at a b (Base n) x y u v e f w = made_map a.0 b.0 n.0 x y u.bases.ascending v.bases.ascending e f w
  made_map_at a b (Slot n) x y u v e f w = made_map a.1 b.1 n x y u.slots.ascending v.slots.ascending e f w

module _ {C H : Type 0} (o : Ops C H) where
  made_same : (r s : Option (List (Element C))) → AreAlike r s → LiesBelow o r s → made_at o (joined_cell o) r s ≡ s
  made_same None None w f = refl
  made_same None (Some y) w f = absurd w
  made_same (Some x) None w f = absurd w
  made_same (Some x) (Some y) w f =
      made_of_two o (joined_cell o) x y w ∙ ap Some (joined_same o (joined_cell o) (joined_cell_same o) x y w (and_parts (nat_eq (width x) (width y)) (includes_map o x y) f).1)

  pub join_same : (a b : MapsOf C) (t : Target) → AreMaps a → AreMaps b → HaveOneShape a b → included o a b ≡ true → map_at (merged_memory o (joined_cell o) a b) t ≡ map_at b t
  join_same a b (Base n) u v w f =
      get_made o (joined_cell o) a.0 b.0 n.0 u.bases.ascending v.bases.ascending
      ∙ made_same (get a.0 n.0) (get b.0 n.0) (w.bases n.0) (below_at o a.0 b.0 n.0 (and_parts (are_below o a.0 b.0) (are_below o a.1 b.1) f).0)
  join_same a b (Slot n) u v w f =
      get_made o (joined_cell o) a.1 b.1 n u.slots.ascending v.slots.ascending
      ∙ made_same (get a.1 n) (get b.1 n) (w.slots n) (below_at o a.1 b.1 n (and_parts (are_below o a.0 b.0) (are_below o a.1 b.1) f).1)
