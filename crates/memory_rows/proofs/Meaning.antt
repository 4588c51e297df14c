-- What rows describe.
use Rattle.std.proofs.Common.{◌≡◌, ℕ, suc, ◌*◌, ◌<◌, Bool, true, false, List, [], ◌∷◌, ◌++◌, length, refl, sym, ap, ◌∙◌, subst, arith, inl, inr}
use Rattle.std.specs.Prelude.{◌↔◌, nat_eq, is_some, IsSome, Option, None, Some}
use Rattle.std.specs.List.{AllByRecursion}
use Rattle.std.proofs.lemmas.Bool.{cases_Bool}
use Rattle.std.proofs.lemmas.Bool.Decides.{nat_tests}
use Rattle.std.proofs.lemmas.Option.{none-some}
use Rattle.c_base.specs.declared.integer.Machine.TheVariants.{Lp64}
use Rattle.c_memory.specs.Layouts.{Layout}
use Rattle.c_memory.specs.Memories.{Memory}
use Rattle.c_memory.specs.Values.{Cell}
use Rattle.c_memory.specs.Rows.{Entry as RowEntry, DescribesEntry, AreRanges as CoverBits, Describes as RowDescribes, entries_of}
use Rattle.cell_laws.specs.Elements.{Element, width, AllFine}
use Rattle.cell_laws.specs.Meaning.{Describes}
use Rattle.cell_runs.specs.declared.runs.Run.{Run}
use Rattle.cell_runs.specs.Runs.{elements}
use Rattle.avalue_base.specs.Values.{Cellv}
use Rattle.avalue_base.specs.Ops.{Fine}
use Rattle.avalue_base.specs.Meaning.{Allows}
use Rattle.offmap.specs.Maps.{AreRanges}
use Rattle.map_rows.specs.Entries.{row_from}
use Rattle.map_rows.proofs.Rows.{row_covers, row_describes}
use Rattle.ptree.specs.Entries.{IsAscending, get}
use Rattle.ptree.proofs.Maps.{AllKeys-get}
use Rattle.memory_maps.specs.Memories.{Maps, MapsOf, AreObjects, IsMemory}
use Rattle.memory_maps.specs.Meaning.{Stands, DescribesMemory}
use Rattle.memory_rows.specs.MemoryRows.{EachShown, entries_if}
use Rattle.memory_rows.specs.RowMeaning.{HaveSizes, HaveBits, IsSoundRow, IsExactRow}
use Rattle.memory_rows.proofs.Shapes.{AreEntries, IsRowOf, none_of, some_of}

-- the object lives, with as many bits
abbrev IsAsLong : List (Element Cellv) → Option (List Cell) → Type 0
IsAsLong x None = ⊥
IsAsLong x (Some cells) = length cells ≡ width x

module _ {X : Type 0} (P : X → Type 0) where
  all_both : (xs ys : List X) → AllByRecursion P xs → AllByRecursion P ys → AllByRecursion P (xs ++ ys)
  all_both [] ys a b = b
  all_both (x ∷ xs) ys a b = (a.0, all_both xs ys a.1 b)

  all_front : (xs ys : List X) → AllByRecursion P (xs ++ ys) → AllByRecursion P xs
  all_front [] ys a = tt
  all_front (x ∷ xs) ys a = (a.0, all_front xs ys a.1)

  all_back : (xs ys : List X) → AllByRecursion P (xs ++ ys) → AllByRecursion P ys
  all_back [] ys a = a
  all_back (x ∷ xs) ys a = all_back xs ys a.1

-- what holds of each map that is shown, and of each by its number
module _ (shown : ℕ → Bool) (P : ℕ → List (Element Cellv) → Type 0) where
  pub each_at : (maps : Maps Cellv) (k : ℕ) (x : List (Element Cellv)) → EachShown shown P maps → shown k ≡ true → get maps k ≡ Some x → P k x
  each_at [] k x a s h = absurd (none-some x h)
  each_at (e ∷ maps) k x a s h =
      elim (cases_Bool (nat_eq e.0 k)) [
        | inl t ↦
            let n : e.0 ≡ k = grind (arith, nat_tests) in
            let v : Some e.1 ≡ Some x = rw t at h in
            let w : e.1 ≡ x = cc in
            subst (P k) w (subst (λ (j : ℕ). P j e.1) n (a.0 (ap shown n ∙ s)))
        | inr t ↦ each_at maps k x a.1 s (rw t at h)
      ]

  nat_same : (n : ℕ) → nat_eq n n ≡ true
  nat_same n = grind (arith, nat_tests)

  pub each_from : (maps : Maps Cellv) → IsAscending maps → ((k : ℕ) (x : List (Element Cellv)) → shown k ≡ true → get maps k ≡ Some x → P k x) → EachShown shown P maps
  each_from [] i h = tt
  each_from (e ∷ maps) i h = (
    (λ s. h e.0 e.1 s (rw (nat_same e.0) refl)),
    each_from maps i.1 (λ k x s g. h k x s (
        let below : e.0 < k = AllKeys-get (λ j. e.0 < j) maps k x i.0 g in
        let apart : nat_eq e.0 k ≡ false = grind (arith, nat_tests) in
        rw apart g)),
  )

-- the bits that ranges cover are as many
covers_one : (es : List RowEntry) (low a b : ℕ) → CoverBits low a es → CoverBits low b es → a ≡ b
covers_one [] low a b c d = sym c ∙ d
covers_one (e ∷ es) low a b c d = covers_one es (suc e.high) a b c.2 d.2

-- the entries of a map cover its bits
entries_cover : (base : ℕ) (x : List (Element Cellv)) (es : List RowEntry) → AreEntries base x es → CoverBits 0 (width x) es
entries_cover base x es a = subst (CoverBits 0 (width x)) (sym a.is) (row_covers base 0 (width x) a.ranges a.all.some (let v = ap width a.all.view in omega arith))

module _ (l : Layout) (memory : Memory) where
  entries_mean : (base : ℕ) (x : List (Element Cellv)) (rs : List (Run Cellv)) (cells : List Cell) → AreRanges x rs → AllFine (Fine Lp64) x → memory base ≡ Some cells → length cells ≡ width x →
      Describes (Allows l) x cells ↔ AllByRecursion (DescribesEntry l memory) (row_from base 0 rs)
  entries_mean base x rs cells a f h w =
      subst (λ (y : List (Element Cellv)). Describes (Allows l) y cells ↔ AllByRecursion (DescribesEntry l memory) (row_from base 0 rs)) a.view
      (row_describes l memory base cells h 0 rs a.some (subst (AllFine (Fine Lp64)) (sym a.view) f) (w ∙ sym (ap width a.view)))

  map_means : (base : ℕ) (x : List (Element Cellv)) (rs : List (Run Cellv)) (s : Option (List Cell)) → AreRanges x rs → AllFine (Fine Lp64) x → memory base ≡ s → IsAsLong x s →
      Stands (Allows l) (Some x) s ↔ AllByRecursion (DescribesEntry l memory) (row_from base 0 rs)
  map_means base x rs None a f h w = absurd w
  map_means base x rs (Some cells) a f h w = let d = entries_mean base x rs cells a f h w in ((λ s. d.0 s.1), (λ r. (w, d.1 r)))

  first_means : (t : Bool) (base : ℕ) (x : List (Element Cellv)) (rs : List (Run Cellv)) → (t ≡ true → AreRanges x rs) → AllFine (Fine Lp64) x → (t ≡ true → IsAsLong x (memory base)) →
      (t ≡ true → Stands (Allows l) (Some x) (memory base)) ↔ AllByRecursion (DescribesEntry l memory) (entries_if t base rs)
  first_means true base x rs a f w = let d = map_means base x rs (memory base) (a refl) f refl (w refl) in ((λ s. d.0 (s refl)), (λ r t. d.1 r))
  first_means false base x rs a f w = ((λ s. tt), (λ r t. absurd (cc)))

  module _ (shown : ℕ → Bool) where
    -- a row describes a memory exactly where each map that is shown does
    row_means : (maps : Maps Cellv) (row : List RowEntry) → IsRowOf shown maps row → AreObjects (Fine Lp64) maps → EachShown shown (λ k x. IsAsLong x (memory k)) maps →
        EachShown shown (λ k x. Stands (Allows l) (Some x) (memory k)) maps ↔ AllByRecursion (DescribesEntry l memory) row
    row_means [] row r o w = ((λ a. subst (AllByRecursion (DescribesEntry l memory)) (sym r) tt), (λ a. tt))
    row_means (e ∷ maps) row r o w =
        let first = entries_if (shown e.0) e.0 r.ranges in
        let one = first_means (shown e.0) e.0 e.1 r.ranges r.all o.0.fine w.0 in
        let two = row_means maps r.rest r.others o.1 w.1 in (
          (λ b. subst (AllByRecursion (DescribesEntry l memory)) (sym r.is) (all_both (DescribesEntry l memory) first r.rest (one.0 b.0) (two.0 b.1))),
          (λ a.
              let b = subst (AllByRecursion (DescribesEntry l memory)) r.is a in
              (one.1 (all_front (DescribesEntry l memory) first r.rest b), two.1 (all_back (DescribesEntry l memory) first r.rest b))),
        )

  -- where there are entries, the object lives
  first_lives : (t : Bool) (base : ℕ) (x : List (Element Cellv)) (rs : List (Run Cellv)) → t ≡ true → AreRanges x rs → 0 < width x → AllByRecursion (DescribesEntry l memory) (entries_if t base rs) → IsSome (memory base)
  unfolding row_from elements width
  first_lives true base x [] s a p d = let w = ap width a.view in absurd (omega arith)
  first_lives true base x (r ∷ rs) s a p d = ap (λ (o : Option (List Cell)). is_some o) d.0.live
  first_lives false base x rs s a p d = absurd (cc)

  alive : (shown : ℕ → Bool) (maps : Maps Cellv) (row : List RowEntry) → IsRowOf shown maps row → EachShown shown (λ k x. 0 < width x) maps → AllByRecursion (DescribesEntry l memory) row →
      EachShown shown (λ k x. IsSome (memory k)) maps
  alive shown [] row r b a = tt
  alive shown (e ∷ maps) row r b a =
      let first = entries_if (shown e.0) e.0 r.ranges in
      let c = subst (AllByRecursion (DescribesEntry l memory)) r.is a in (
        (λ s. first_lives (shown e.0) e.0 e.1 r.ranges s (r.all s) (b.0 s) (all_front (DescribesEntry l memory) first r.rest c)),
        alive shown maps r.rest r.others b.1 (all_back (DescribesEntry l memory) first r.rest c),
      )

  -- ---- what maps describe, their row does

  long_from : (x : List (Element Cellv)) (s : Option (List Cell)) → Stands (Allows l) (Some x) s → IsAsLong x s
  long_from x None h = h
  long_from x (Some cells) h = h.0

  module _ (shown : ℕ → Bool) (m : MapsOf Cellv) (i : IsMemory (Fine Lp64) m) (a : IsAscending m.0) (row : List RowEntry) (r : IsRowOf shown m.0 row) (sizes : HaveSizes l shown memory) where
    covered_at : (base : ℕ) (found : Option (List (Element Cellv))) (live : Option (List Cell)) → shown base ≡ true → get m.0 base ≡ found → memory base ≡ live → Stands (Allows l) found live → IsSome live →
        CoverBits 0 (8 * l.size base) (entries_of base row)
    covered_at base found None s f g h n = absurd (cc)
    covered_at base None (Some cells) s f g h n = absurd h
    covered_at base (Some x) (Some cells) s f g h n =
        let w : width x ≡ 8 * l.size base = sym h.0 ∙ sizes base cells s g in
        subst (λ (b : ℕ). CoverBits 0 b (entries_of base row)) w (entries_cover base x (entries_of base row) (some_of base shown m.0 row x a r s f))

    sound_at : (held : ℕ → Option (List Cell)) → DescribesMemory (Allows l) m memory held → RowDescribes l shown row memory
    sound_at held d =
        let stand = each_from shown (λ k x. Stands (Allows l) (Some x) (memory k)) m.0 a (λ k x s g. subst (λ (f : Option (List (Element Cellv))). Stands (Allows l) f (memory k)) g (d.bases k)) in
        let long = each_from shown (λ k x. IsAsLong x (memory k)) m.0 a (λ k x s g. long_from x (memory k) (each_at shown (λ j y. Stands (Allows l) (Some y) (memory j)) m.0 k x stand s g)) in
        record {
          covered = λ base s n. covered_at base (get m.0 base) (memory base) s refl refl (d.bases base) n;
          entries = (row_means shown m.0 row r i.0 long).0 stand;
        }

    -- ---- and no more

    module _ (bits : HaveBits shown m.0 memory) (d : RowDescribes l shown row memory) where
      long_at : (k : ℕ) (x : List (Element Cellv)) (s : Option (List Cell)) → memory k ≡ s → IsSome s → shown k ≡ true → get m.0 k ≡ Some x → IsAsLong x s
      long_at k x None g n t f = absurd (cc)
      long_at k x (Some cells) g n t f =
          let c = d.covered k t (subst (λ (o : Option (List Cell)). IsSome o) (sym g) n) in
          let w = covers_one (entries_of k row) 0 (width x) (8 * l.size k) (entries_cover k x (entries_of k row) (some_of k shown m.0 row x a r t f)) c in
          sizes k cells t g ∙ sym w

      long : EachShown shown (λ k x. IsAsLong x (memory k)) m.0
      long =
          let live = alive shown m.0 row r bits.mapped d.entries in
          each_from shown (λ k x. IsAsLong x (memory k)) m.0 a (λ k x s g. long_at k x (memory k) refl (each_at shown (λ j y. IsSome (memory j)) m.0 k x live s g) s g)

      exact_at : (base : ℕ) (found : Option (List (Element Cellv))) (live : Option (List Cell)) → shown base ≡ true → get m.0 base ≡ found → memory base ≡ live → Stands (Allows l) found live
      exact_at base None None s f g = tt
      exact_at base None (Some cells) s f g =
          let c = d.covered base s (subst (λ (o : Option (List Cell)). IsSome o) (sym g) refl) in
          let none = subst (λ (es : List RowEntry). CoverBits 0 (8 * l.size base) es) (none_of base shown m.0 row r f) c in
          let some = bits.live base cells s g in
          let size = sizes base cells s g in
          absurd (omega arith)
      exact_at base (Some x) live s f g =
          let stand = (row_means shown m.0 row r i.0 long).1 d.entries in
          subst (Stands (Allows l) (Some x)) g (each_at shown (λ j y. Stands (Allows l) (Some y) (memory j)) m.0 base x stand s f)

module _ (shown : ℕ → Bool) (m : MapsOf Cellv) (row : List RowEntry) (i : IsMemory (Fine Lp64) m) (a : IsAscending m.0) (r : IsRowOf shown m.0 row) where
  pub is_sound : IsSoundRow shown m row
  is_sound = λ l objects held sizes d. sound_at l objects shown m i a row r sizes held d

  pub is_exact : IsExactRow shown m row
  is_exact = λ l objects sizes bits d base s. exact_at l objects shown m i a row r sizes bits d base (get m.0 base) (objects base) s refl refl
