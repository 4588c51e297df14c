-- Rows that are gathered map by map.
use Rattle.std.proofs.Common.{◌≡◌, ℕ, ◌<◌, ◌^◌, Bool, true, false, List, [], ◌∷◌, ◌++◌, refl, sym, ap, ◌∙◌, subst, append-nil, append_assoc}
use Rattle.c_memory.specs.Rows.{Entry as RowEntry}
use Rattle.cell_laws.specs.Elements.{Element}
use Rattle.cell_runs.specs.declared.runs.Run.{Run}
use Rattle.avalue_base.specs.Values.{Cellv}
use Rattle.offmap.specs.Maps.{AreRanges}
use Rattle.map_rows.specs.Entries.{row_from}
use Rattle.ptree.specs.Entries.{entries_from}
use Rattle.memory_maps.specs.Memories.{Maps, HaveNumbers}
use Rattle.memory_singles.proofs.Contents.{all_entries}
use Rattle.memory_rows.specs.MemoryRows.{HasRanges, entries_if}
use Rattle.memory_rows.proofs.Shapes.{IsRowOf}

-- an object's entries are added, if it is shown
module _ (old new : List RowEntry) (base : ℕ) (rs : List (Run Cellv)) where
  pub adds_none : (t : Bool) → t ≡ false → new ≡ old → new ≡ old ++ entries_if t base rs
  adds_none true s e = absurd (cc)
  adds_none false s e = e ∙ sym (append-nil old)

  pub adds_part : (t : Bool) (part : List RowEntry) → t ≡ true → part ≡ row_from base 0 rs → new ≡ old ++ part → new ≡ old ++ entries_if t base rs
  adds_part true part s p e = e ∙ ap (λ (q : List RowEntry). old ++ q) p
  adds_part false part s p e = absurd (cc)

-- what is gathered, with a row of the maps that are left behind it, is a row of all
pub record Gathers (shown : ℕ → Bool) (all left : Maps Cellv) (made : List RowEntry) : Type 0 where
  pub numbers : HaveNumbers left
  pub law : (rest : List RowEntry) → IsRowOf shown left rest → IsRowOf shown all (made ++ rest)

module _ (shown : ℕ → Bool) (all : Maps Cellv) where
  pub gathers_begin : (left : Maps Cellv) (made : List RowEntry) → HaveNumbers all → left ≡ entries_from all 0 → made ≡ [] → Gathers shown all left made
  gathers_begin left made a e n =
      let same : left ≡ all = e ∙ all_entries all in
      record {
        numbers = subst HaveNumbers (sym same) a;
        law = λ rest r. subst (λ (m : List RowEntry). IsRowOf shown all (m ++ rest)) (sym n) (subst (λ (l : Maps Cellv). IsRowOf shown l rest) same r);
      }

  module _ (k : ℕ) (x : List (Element Cellv)) (old left : Maps Cellv) (made : List RowEntry) (e : old ≡ (k, x) ∷ left) (g : Gathers shown all old made) where
    pub next_number : k < 2 ^ 32
    next_number = (subst HaveNumbers e g.numbers).0

    pub gathers_next : (new : List RowEntry) → HasRanges x → ((rs : List (Run Cellv)) → (shown k ≡ true → AreRanges x rs) → new ≡ made ++ entries_if (shown k) k rs) → Gathers shown all left new
    gathers_next new h d =
        let here = subst (λ (l : Maps Cellv). Gathers shown all l made) e g in
        let one = entries_if (shown k) k h.ranges in
        record {
          numbers = here.numbers.1;
          law = λ rest r.
              let whole = here.law (one ++ rest) (record { ranges = h.ranges; all = λ s. h.all; rest = rest; others = r; is = refl }) in
              subst (IsRowOf shown all) (sym (append_assoc made one rest) ∙ ap (λ (m : List RowEntry). m ++ rest) (sym (d h.ranges (λ s. h.all)))) whole;
        }

  pub gathers_end : (left : Maps Cellv) (made : List RowEntry) → left ≡ [] → Gathers shown all left made → IsRowOf shown all made
  gathers_end left made e g =
      let here = subst (λ (l : Maps Cellv). Gathers shown all l made) e g in
      subst (IsRowOf shown all) (append-nil made) (here.law [] refl)
