-- Rows map by map, and what of them belongs to one base.
use Rattle.std.proofs.Common.{◌≡◌, ℕ, ◌*◌, ◌+◌, ◌<◌, Bool, true, false, List, [], ◌∷◌, ◌++◌, refl, sym, ap, ◌∙◌, subst, arith, inl, inr, append-nil}
use Rattle.std.specs.Prelude.{nat_eq, ◌==◌, None, Some}
use Rattle.std.proofs.lemmas.Bool.{cases_Bool}
use Rattle.std.proofs.lemmas.Bool.Decides.{nat_tests}
use Rattle.std.proofs.lemmas.List.Elements.{filter-append}
use Rattle.std.proofs.lemmas.Option.{none-some, same_Some}
use Rattle.c_memory.specs.Rows.{Entry as RowEntry, entries_of}
use Rattle.cell_laws.specs.Elements.{Element}
use Rattle.cell_runs.specs.declared.runs.Run.{Run}
use Rattle.avalue_base.specs.Values.{Cellv}
use Rattle.offmap.specs.Maps.{AreRanges}
use Rattle.map_rows.specs.Entries.{range_entry, row_from}
use Rattle.ptree.specs.Entries.{AllKeys, IsAscending, get}
use Rattle.ptree.proofs.Maps.{get_below}
use Rattle.memory_maps.specs.Memories.{Maps}
use Rattle.memory_rows.specs.MemoryRows.{HaveRanges, entries_if, row_of}

-- the entries of the first map, and behind them the others
pub record Follows (shown : ℕ → Bool) (base : ℕ) (x : List (Element Cellv)) (Rest : List RowEntry → Type 0) (row : List RowEntry) : Type 0 where
  pub ranges : List (Run Cellv)
  pub all : shown base ≡ true → AreRanges x ranges
  pub rest : List RowEntry
  pub others : Rest rest
  pub is : row ≡ entries_if (shown base) base ranges ++ rest

-- there are ranges of the maps that are shown, whose entries these are
abbrev pub IsRowOf : (ℕ → Bool) → Maps Cellv → List RowEntry → Type 0
IsRowOf shown [] row = row ≡ []
IsRowOf shown (e ∷ maps) row = Follows shown e.0 e.1 (IsRowOf shown maps) row

module _ (shown : ℕ → Bool) (ranges : ℕ → List (Run Cellv)) where
  pub row_of_maps : (maps : Maps Cellv) → HaveRanges shown maps ranges → IsRowOf shown maps (row_of shown ranges maps)
  row_of_maps [] h = refl
  row_of_maps (e ∷ maps) h = record { ranges = ranges e.0; all = h.0; rest = row_of shown ranges maps; others = row_of_maps maps h.1; is = refl }

  same_entries : (t : Bool) (base : ℕ) (x : List (Element Cellv)) (rs ss : List (Run Cellv)) → (t ≡ true → AreRanges x rs) → (t ≡ true → AreRanges x ss) → entries_if t base rs ≡ entries_if t base ss
  same_entries true base x rs ss a b = let r = a refl in ap (row_from base 0) ((b refl).only rs r.some r.apart r.view)
  same_entries false base x rs ss a b = refl

  -- a map has no other ranges
  pub row_is : (maps : Maps Cellv) (row : List RowEntry) → IsRowOf shown maps row → HaveRanges shown maps ranges → row ≡ row_of shown ranges maps
  row_is [] row r h = r
  row_is (e ∷ maps) row r h =
      r.is ∙ ap (λ (q : List RowEntry). q ++ r.rest) (same_entries (shown e.0) e.0 e.1 r.ranges (ranges e.0) r.all h.0)
      ∙ ap (λ (q : List RowEntry). entries_if (shown e.0) e.0 (ranges e.0) ++ q) (row_is maps r.rest r.others h.1)

-- these are the map's ranges as entries of the base
pub record AreEntries (base : ℕ) (x : List (Element Cellv)) (es : List RowEntry) : Type 0 where
  pub ranges : List (Run Cellv)
  pub all : AreRanges x ranges
  pub is : es ≡ row_from base 0 ranges

module _ (base : ℕ) where
  own : (low : ℕ) (rs : List (Run Cellv)) → entries_of base (row_from base low rs) ≡ row_from base low rs
  unfolding row_from
  own low [] = refl
  own low (r ∷ rs) =
      let s : (base == base) ≡ true = grind (arith, nat_tests) in
      rw s (ap (λ (q : List RowEntry). range_entry base low r ∷ q) (own (low + r.bits * r.count) rs))

  others : (k : ℕ) → (k == base) ≡ false → (low : ℕ) (rs : List (Run Cellv)) → entries_of base (row_from k low rs) ≡ []
  unfolding row_from
  others k d low [] = refl
  others k d low (r ∷ rs) = rw d (others k d (low + r.bits * r.count) rs)

  others_if : (t : Bool) (k : ℕ) (rs : List (Run Cellv)) → (k == base) ≡ false → entries_of base (entries_if t k rs) ≡ []
  others_if true k rs d = others k d 0 rs
  others_if false k rs d = refl

  own_if : (t : Bool) (rs : List (Run Cellv)) → t ≡ true → entries_of base (entries_if t base rs) ≡ row_from base 0 rs
  own_if true rs s = own 0 rs
  own_if false rs s = absurd (cc)

  parted : (first rest : List RowEntry) → entries_of base (first ++ rest) ≡ entries_of base first ++ entries_of base rest
  parted first rest = filter-append (λ (e : RowEntry). e.base == base) first rest

  same_base : (k : ℕ) → nat_eq k base ≡ true → k ≡ base
  same_base k t = grind (arith, nat_tests)

  apart_from : (k : ℕ) → nat_eq k base ≡ false → (k == base) ≡ false
  apart_from k t = grind (arith, nat_tests)

  module _ (shown : ℕ → Bool) where
    behind_others : (k : ℕ) (rs : List (Run Cellv)) (row rest : List RowEntry) → nat_eq k base ≡ false → row ≡ entries_if (shown k) k rs ++ rest → entries_of base row ≡ entries_of base rest
    behind_others k rs row rest t e =
        ap (entries_of base) e ∙ parted (entries_if (shown k) k rs) rest
        ∙ ap (λ (q : List RowEntry). q ++ entries_of base rest) (others_if (shown k) k rs (apart_from k t))

    -- a base without a map has no entries
    pub none_of : (maps : Maps Cellv) (row : List RowEntry) → IsRowOf shown maps row → get maps base ≡ None → entries_of base row ≡ []
    none_of [] row r h = ap (entries_of base) r
    none_of (e ∷ maps) row r h =
        elim (cases_Bool (nat_eq e.0 base)) [
          | inl t ↦ let none : Some e.1 ≡ None = rw t at h in absurd (none-some e.1 (sym none))
          | inr t ↦ behind_others e.0 r.ranges row r.rest t r.is ∙ none_of maps r.rest r.others (rw t at h)
        ]

    first_of : (k : ℕ) (x y : List (Element Cellv)) (rs : List (Run Cellv)) (row rest : List RowEntry) → k ≡ base → y ≡ x → shown base ≡ true → (shown k ≡ true → AreRanges y rs) → row ≡ entries_if (shown k) k rs ++ rest → entries_of base rest ≡ [] →
        AreEntries base x (entries_of base row)
    first_of k x y rs row rest n v s a e z =
        let here : entries_of base (entries_if (shown k) k rs) ≡ row_from base 0 rs = subst (λ (j : ℕ). entries_of base (entries_if (shown j) j rs) ≡ row_from base 0 rs) (sym n) (own_if (shown base) rs s) in
        record {
          ranges = rs;
          all = subst (λ (w : List (Element Cellv)). AreRanges w rs) v (a (ap shown n ∙ s));
          is = ap (entries_of base) e ∙ parted (entries_if (shown k) k rs) rest ∙ ap (λ (q : List RowEntry). entries_of base (entries_if (shown k) k rs) ++ q) z
              ∙ append-nil (entries_of base (entries_if (shown k) k rs)) ∙ here;
        }

    -- a base that is shown has those of its map
    pub some_of : (maps : Maps Cellv) (row : List RowEntry) (x : List (Element Cellv)) → IsAscending maps → IsRowOf shown maps row → shown base ≡ true → get maps base ≡ Some x → AreEntries base x (entries_of base row)
    some_of [] row x a r s h = absurd (none-some x h)
    some_of (e ∷ maps) row x a r s h =
        elim (cases_Bool (nat_eq e.0 base)) [
          | inl t ↦
              let n = same_base e.0 t in
              let none : get maps base ≡ None = get_below maps base (subst (λ (k : ℕ). AllKeys (λ j. k < j) maps) n a.0) in
              first_of e.0 x e.1 r.ranges row r.rest n (same_Some e.1 x (rw t at h)) s r.all r.is (none_of maps r.rest r.others none)
          | inr t ↦
              let more = some_of maps r.rest x a.1 r.others s (rw t at h) in
              record { ranges = more.ranges; all = more.all; is = behind_others e.0 r.ranges row r.rest t r.is ∙ more.is }
        ]
