-- Maps that were built run by run.
use Rattle.std.proofs.Common.{◌≡◌, ℕ, ◌+◌, ◌*◌, ◌<◌, ◌≤◌, ◌^◌, true, false, replicate, List, [], ◌++◌, refl, sym, ap, ◌∙◌, subst, arith}
use Rattle.std.proofs.lemmas.Nat.{pow_pos}
use Rattle.cell_laws.specs.Elements.{Element, width, AllFine}
use Rattle.cell_laws.specs.Cells.{Ops}
use Rattle.cell_laws.specs.Laws.{FineLaws, OrderLaws, JoinLaws, MergeLaws, PartLaws}
use Rattle.cell_laws.specs.Join.{joined}
use Rattle.cell_laws.proofs.Joins.{joined_above}
use Rattle.run_joins.specs.Joining.{AreMaps}
use Rattle.cell_laws.specs.Access.{take_bits, drop_bits, copied, pasted, put, repeated, stored, glued, loaded, IsSize}
use Rattle.cell_laws.proofs.Accesses.{repeated_blank, repeated_whole, repeated_one, width-repeated, width-put, width-stored, fine_put, fine_repeated, fine_stored}
use Rattle.cell_laws.proofs.Parts.{width-copied, width-pasted, fine_copied, fine_pasted}
use Rattle.cell_runs.specs.declared.runs.Run.{Run}
use Rattle.cell_runs.specs.Runs.{elements, AllSome, AreApart, Extends}
use Rattle.cell_runs.specs.Parts.{Takes}
use Rattle.cell_runs.proofs.Pushing.{extends-both, extends-along}
use Rattle.cell_runs.proofs.Taking.{elements-none}
use Rattle.run_places.specs.Spots.{AreRuns}
use Rattle.run_slots.specs.Slots.{slots_weakened}
use Rattle.run_slots.proofs.Widths.{weakened_width, weakened_fine}
use Rattle.run_orders.specs.Deaths.{left_all, LeftLaws}
use Rattle.run_orders.proofs.Leaving.{left_width, left_are_fine}
use Rattle.offmap.specs.Maps.{IsMap}

-- runs that were built from none and hold these elements
pub record IsBuilt {C : Type 0} (runs : List (Run C)) (xs : List (Element C)) : Type 0 where
  pub some : AllSome runs
  pub apart : AreApart runs
  pub view : elements runs ≡ xs

-- a map's runs as code sees them, and the list that they stand for
pub record IsSeen {C : Type 0} (Fine : ℕ → C → Type 0) (bits : ℕ) (slice : List (Run C)) (m : List (Element C)) : Type 0 where
  pub view : elements slice ≡ m
  pub fine : AllFine Fine m
  pub wide : bits ≡ width m
  pub small : bits < 2 ^ 64

module _ {C : Type 0} where
  pub built : (none runs : List (Run C)) (xs : List (Element C)) → none ≡ [] → Extends none runs xs → IsBuilt runs xs
  built none runs xs z x = record {
    some = x.some (subst AllSome (sym z) tt);
    apart = x.apart (subst AreApart (sym z) tt);
    view = x.elements ∙ ap (λ (l : List (Run C)). elements l ++ xs) z ∙ ap (λ (l : List (Element C)). l ++ xs) (elements-none C);
  }

module _ {C : Type 0} (Fine : ℕ → C → Type 0) where
  pub built_map : (runs : List (Run C)) (xs : List (Element C)) (bits : ℕ) → IsBuilt runs xs → AllFine Fine xs → bits ≡ width xs → bits < 2 ^ 64 → IsMap Fine bits runs
  built_map runs xs bits b f w s = record {
    some = b.some;
    apart = b.apart;
    fine = subst (AllFine Fine) (sym b.view) f;
    wide = w ∙ ap width (sym b.view);
    small = s;
  }

  pub seen : (bits : ℕ) (rs slice : List (Run C)) (m : List (Element C)) → IsMap Fine bits rs → elements rs ≡ m → slice ≡ rs → IsSeen Fine bits slice m
  seen bits rs slice m i v e = record {
    view = ap elements e ∙ v;
    fine = subst (AllFine Fine) v i.fine;
    wide = i.wide ∙ ap width v;
    small = i.small;
  }

module _ {C H : Type 0} (o : Ops C H) (Fine : ℕ → C → Type 0) (q : PartLaws o Fine) where
  pub copy_built : (bits : ℕ) (slice none runs : List (Run C)) (m : List (Element C)) (at n : ℕ) → IsSeen Fine bits slice m → none ≡ [] → Extends none runs (copied o (elements slice) at n) →
      IsBuilt runs (copied o m at n)
  copy_built bits slice none runs m at n s z x =
      built none runs (copied o m at n) z (extends-along none runs _ _ (ap (λ (l : List (Element C)). copied o l at n) s.view) x)

  pub copy_map : (bits : ℕ) (slice none runs : List (Run C)) (m : List (Element C)) (at n : ℕ) → IsSeen Fine bits slice m → at + n ≤ width m → none ≡ [] →
      Extends none runs (copied o (elements slice) at n) → IsMap Fine n runs
  copy_map bits slice none runs m at n s h z x =
      let w = width-copied o m at n h in
      let a = s.wide in
      let b = s.small in
      built_map Fine runs (copied o m at n) n (copy_built bits slice none runs m at n s z x) (fine_copied o Fine q m at n s.fine) (sym w) (omega arith)

  pub paste_built : (bits more : ℕ) (first second third none front mid runs : List (Run C)) (m part : List (Element C)) (at end : ℕ) → elements first ≡ m → elements second ≡ part → elements third ≡ m →
      end ≡ at + width part → none ≡ [] → Takes o first at more none front → Extends front mid (elements second) → Extends mid runs (drop_bits o (elements third) end) → IsBuilt runs (pasted o m at part)
  unfolding pasted
  paste_built bits more first second third none front mid runs m part at end u v w e z a b c =
      let t : Extends none front (take_bits o m at) = extends-along none front _ _ (ap (λ (l : List (Element C)). take_bits o l at) u) a.taken in
      let d : Extends mid runs (drop_bits o m (at + width part)) =
      extends-along mid runs _ _ (ap (λ (l : List (Element C)). drop_bits o l end) w ∙ ap (drop_bits o m) e) c in
      let p : Extends front mid part = extends-along front mid _ _ v b in
      built none runs (take_bits o m at ++ (part ++ drop_bits o m (at + width part))) z
      (extends-both none front runs (take_bits o m at) (part ++ drop_bits o m (at + width part)) t
      (extends-both front mid runs part (drop_bits o m (at + width part)) p d))

  pub paste_map : (bits : ℕ) (runs : List (Run C)) (m part : List (Element C)) (at : ℕ) → AllFine Fine m → AllFine Fine part → bits ≡ width m → bits < 2 ^ 64 → at + width part ≤ width m →
      IsBuilt runs (pasted o m at part) → IsMap Fine bits runs
  paste_map bits runs m part at f g w s h b =
      built_map Fine runs (pasted o m at part) bits b (fine_pasted o Fine q m at part f g) (w ∙ sym (width-pasted o m at part h)) s

module _ {C H : Type 0} (o : Ops C H) where
  pub filled_blank : (k n : ℕ) (c d : C) (old new : List (Run C)) → o.blank d ≡ true → d ≡ o.fit k c → Extends old new (replicate (k * n) (record { bits = 1; cell = d })) → Extends old new (repeated o k n c)
  filled_blank k n c d old new b e x =
      let f : o.blank (o.fit k c) ≡ true = ap o.blank (sym e) ∙ b in
      extends-along old new _ _ (ap (λ (y : C). replicate (k * n) (record { bits = 1; cell = y })) e ∙ sym (repeated_blank o k n c f)) x

  pub filled_whole : (k n : ℕ) (c d : C) (old new : List (Run C)) → o.blank d ≡ false → d ≡ o.fit k c → Extends old new (replicate n (record { bits = k; cell = d })) → Extends old new (repeated o k n c)
  filled_whole k n c d old new b e x =
      let f : o.blank (o.fit k c) ≡ false = ap o.blank (sym e) ∙ b in
      extends-along old new _ _ (ap (λ (y : C). replicate n (record { bits = k; cell = y })) e ∙ sym (repeated_whole o k n c f)) x

module _ {C H : Type 0} (o : Ops C H) (Fine : ℕ → C → Type 0) (q : PartLaws o Fine) where
  pub repeated_map : (runs none : List (Run C)) (k n : ℕ) (c : C) → IsSize k → k * n < 2 ^ 64 → none ≡ [] → Extends none runs (repeated o k n c) → IsMap Fine (k * n) runs
  repeated_map runs none k n c s l z x =
      built_map Fine runs (repeated o k n c) (k * n) (built none runs (repeated o k n c) z x) (fine_repeated o Fine q k n c s) (sym (width-repeated o k n c)) l

  pub store_built : (first third none front mid runs : List (Run C)) (m : List (Element C)) (at k more : ℕ) (c : C) → elements first ≡ m → elements third ≡ m → none ≡ [] →
      Takes o first at more none front → Extends front mid (repeated o k 1 c) → Extends mid runs (drop_bits o (elements third) (at + k)) → IsBuilt runs (stored o m at k c)
  unfolding stored pasted
  store_built first third none front mid runs m at k more c u w z a b d =
      let part = put o k c in
      let v = width-put o k c in
      let t : Extends none front (take_bits o m at) = extends-along none front _ _ (ap (λ (l : List (Element C)). take_bits o l at) u) a.taken in
      let e : Extends mid runs (drop_bits o m (at + width part)) =
      extends-along mid runs _ _ (ap (λ (l : List (Element C)). drop_bits o l (at + k)) w ∙ ap (λ (x : ℕ). drop_bits o m (at + x)) (sym v)) d in
      let p : Extends front mid part = extends-along front mid _ _ (repeated_one o k c) b in
      built none runs (take_bits o m at ++ (part ++ drop_bits o m (at + width part))) z
      (extends-both none front runs (take_bits o m at) (part ++ drop_bits o m (at + width part)) t
      (extends-both front mid runs part (drop_bits o m (at + width part)) p e))

  pub store_map : (bits : ℕ) (runs : List (Run C)) (m : List (Element C)) (at k : ℕ) (c : C) → AllFine Fine m → bits ≡ width m → bits < 2 ^ 64 → IsSize k → at + k ≤ width m →
      IsBuilt runs (stored o m at k c) → IsMap Fine bits runs
  store_map bits runs m at k c f w s i h b =
      built_map Fine runs (stored o m at k c) bits b (fine_stored o Fine q m at k c i f) (w ∙ sym (width-stored o m at k c h)) s

module _ {C H : Type 0} (o : Ops C H) where
  pub copied_small : (runs slice : List (Run C)) (m : List (Element C)) (at k : ℕ) → IsSize k → at + k ≤ width m → slice ≡ runs → IsBuilt runs (copied o m at k) → width (elements slice) ≤ 64
  copied_small runs slice m at k s h e b =
      let w = ap (λ (x : List (Run C)). width (elements x)) e ∙ ap width b.view ∙ width-copied o m at k h in
      let f = s.few in
      omega arith

  pub loaded_is : (runs slice : List (Run C)) (m : List (Element C)) (at k : ℕ) → slice ≡ runs → IsBuilt runs (copied o m at k) → glued o (elements slice) ≡ loaded o m at k
  unfolding loaded
  loaded_is runs slice m at k e b = ap (λ (x : List (Run C)). glued o (elements x)) e ∙ ap (glued o) b.view

-- the runs of two maps, as a join takes them
pub join_maps : {C : Type 0} (Fine : ℕ → C → Type 0) (wa wb : ℕ) (xs ys ps qs : List (Run C)) → IsMap Fine wa xs → IsMap Fine wb ys → ps ≡ xs → qs ≡ ys → AreMaps Fine ps qs
join_maps Fine wa wb xs ys ps qs i j e f = record {
  some_first = subst AllSome (sym e) i.some;
  some_second = subst AllSome (sym f) j.some;
  fine_first = subst (λ (x : List (Run _)). AllFine Fine (elements x)) (sym e) i.fine;
  fine_second = subst (λ (x : List (Run _)). AllFine Fine (elements x)) (sym f) j.fine;
}

module _ {C H : Type 0} (o : Ops C H) (Fine : ℕ → C → Type 0) (merge : ℕ → C → C → C) (n : FineLaws o Fine) (l : OrderLaws o Fine) (j : JoinLaws o Fine) (m : MergeLaws o Fine merge) where
  pub join_built : (wa wb : ℕ) (ps qs none runs : List (Run C)) (a b : List (Element C)) → IsSeen Fine wa ps a → IsSeen Fine wb qs b → none ≡ [] → Extends none runs (joined o merge (elements ps) (elements qs)) →
      IsBuilt runs (joined o merge a b)
  join_built wa wb ps qs none runs a b s t z x =
      built none runs (joined o merge a b) z
      (extends-along none runs _ _ (ap (λ (y : List (Element C)). joined o merge y (elements qs)) s.view ∙ ap (joined o merge a) t.view) x)

  pub join_map : (wa wb : ℕ) (ps qs none runs : List (Run C)) (a b : List (Element C)) → IsSeen Fine wa ps a → IsSeen Fine wb qs b → width a ≡ width b → none ≡ [] →
      Extends none runs (joined o merge (elements ps) (elements qs)) → IsMap Fine wb runs
  join_map wa wb ps qs none runs a b s t w z x =
      let u = joined_above o Fine merge n l j m a b (record { first = s.fine; second = t.fine }) w in
      built_map Fine runs (joined o merge a b) wb (join_built wa wb ps qs none runs a b s t z x) u.fine (t.wide ∙ sym u.wide) t.small

-- runs that are looked at or changed one by one
module _ {C : Type 0} (Fine : ℕ → C → Type 0) where
  pub seen_runs : (bits : ℕ) (rs slice : List (Run C)) → IsMap Fine bits rs → slice ≡ rs → AreRuns Fine slice
  seen_runs bits rs slice i e =
      let w = i.wide in
      let s = i.small in
      subst (AreRuns Fine) (sym e) (record { some = i.some; fine = i.fine; small = omega arith })

module _ {C H : Type 0} (o : Ops C H) (Fine : ℕ → C → Type 0) (left : C → C) (l : LeftLaws o Fine left) where
  pub left_built : (slice none runs : List (Run C)) (m : List (Element C)) → elements slice ≡ m → none ≡ [] → Extends none runs (left_all o left (elements slice)) → IsBuilt runs (left_all o left m)
  left_built slice none runs m v z x = built none runs (left_all o left m) z (extends-along none runs _ _ (ap (left_all o left) v) x)

  pub left_map : (bits : ℕ) (slice none runs : List (Run C)) (m : List (Element C)) → IsSeen Fine bits slice m → none ≡ [] → Extends none runs (left_all o left (elements slice)) → IsMap Fine bits runs
  left_map bits slice none runs m s z x =
      built_map Fine runs (left_all o left m) bits (left_built slice none runs m s.view z x) (left_are_fine o Fine left l m s.fine) (s.wide ∙ sym (left_width o left m)) s.small

-- what is put into slots, and the map with it
module _ {C H : Type 0} (o : Ops C H) (Fine : ℕ → C → Type 0) (q : PartLaws o Fine) where
  pub put_view : (none runs slice : List (Run C)) (k : ℕ) (c : C) → none ≡ [] → slice ≡ runs → Extends none runs (repeated o k 1 c) → elements slice ≡ put o k c
  put_view none runs slice k c z e x = ap elements e ∙ (built none runs (repeated o k 1 c) z x).view ∙ repeated_one o k c

  pub put_runs : (none runs slice : List (Run C)) (k : ℕ) (c : C) → IsSize k → none ≡ [] → slice ≡ runs → Extends none runs (repeated o k 1 c) → AreRuns Fine slice
  put_runs none runs slice k c s z e x =
      let v = put_view none runs slice k c z e x in
      let w = ap width v ∙ width-put o k c in
      let f = s.few in
      record {
        some = subst AllSome (sym e) (built none runs (repeated o k 1 c) z x).some;
        fine = subst (AllFine Fine) (sym v) (fine_put o Fine q k c s);
        small = omega arith;
      }

  pub put_even : (none runs slice : List (Run C)) (k : ℕ) (c : C) → none ≡ [] → slice ≡ runs → Extends none runs (repeated o k 1 c) → width (elements slice) ≡ k
  put_even none runs slice k c z e x = ap width (put_view none runs slice k c z e x) ∙ width-put o k c

module _ {C H : Type 0} (o : Ops C H) where
  pub slots_built : (slice puts none runs : List (Run C)) (m es : List (Element C)) (at k gap n : ℕ) → elements slice ≡ m → elements puts ≡ es → none ≡ [] →
      Extends none runs (slots_weakened o (elements slice) at k gap n (elements puts)) → IsBuilt runs (slots_weakened o m at k gap n es)
  slots_built slice puts none runs m es at k gap n v w z x =
      built none runs (slots_weakened o m at k gap n es) z
      (extends-along none runs _ _ (ap (λ (l : List (Element C)). slots_weakened o l at k gap n (elements puts)) v ∙ ap (slots_weakened o m at k gap n) w) x)

module _ {C H : Type 0} (o : Ops C H) (Fine : ℕ → C → Type 0) (n : FineLaws o Fine) (l : OrderLaws o Fine) (j : JoinLaws o Fine) (q : PartLaws o Fine) where
  pub slots_map : (bits : ℕ) (slice runs : List (Run C)) (m : List (Element C)) (at k gap i : ℕ) (c : C) → IsSeen Fine bits slice m → IsSize k → at + i * (k + gap) + k ≤ width m →
      IsBuilt runs (slots_weakened o m at k gap i (put o k c)) → IsMap Fine bits runs
  slots_map bits slice runs m at k gap i c s z h b =
      built_map Fine runs (slots_weakened o m at k gap i (put o k c)) bits b (weakened_fine o Fine n l j q m (put o k c) k gap s.fine (fine_put o Fine q k c z) (width-put o k c) at i h)
      (s.wide ∙ sym (weakened_width o Fine n l j q m (put o k c) k gap s.fine (fine_put o Fine q k c z) (width-put o k c) at i h)) s.small

-- ---- a map without bits

no_bits : (C : Type 0) → width (elements {C = C} []) ≡ 0
unfolding elements width
no_bits C = refl

module _ {C : Type 0} where
  pub empty_map : (Fine : ℕ → C → Type 0) (runs : List (Run C)) (n : ℕ) → n ≡ 0 → runs ≡ [] → IsMap Fine n runs
  empty_map Fine runs n z e =
      subst (λ (m : ℕ). IsMap Fine m runs) (sym z) (subst (IsMap Fine 0) (sym e)
      (record { some = tt; apart = tt; fine = subst (AllFine Fine) (sym (elements-none C)) tt; wide = sym (no_bits C); small = pow_pos 64 }))

  pub empty_repeated : {H : Type 0} (o : Ops C H) (k : ℕ) (c : C) (runs : List (Run C)) (n : ℕ) → n ≡ 0 → runs ≡ [] → elements runs ≡ repeated o k n c
  unfolding repeated
  empty_repeated o k c runs n z e = ap elements e ∙ elements-none C ∙ ap (λ (m : ℕ). repeated o k m c) (sym z)
