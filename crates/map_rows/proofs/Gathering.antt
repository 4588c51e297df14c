-- Entries of ranges, one after the other.
use Rattle.std.proofs.Common.{◌≡◌, ℕ, ◌+◌, ◌*◌, ◌<◌, ◌≤◌, List, [], ◌∷◌, ◌++◌, length, drop, map, refl, sym, ap, ◌∙◌, arith, get_or, append-nil, append_assoc}
use Rattle.std.proofs.lemmas.List.{map-append}
use Rattle.c_memory.specs.Rows.{Entry as RowEntry}
use Rattle.cell_laws.specs.Elements.{width}
use Rattle.cell_runs.specs.declared.runs.Run.{Run}
use Rattle.cell_runs.specs.Runs.{elements}
use Rattle.cell_runs.proofs.Taking.{at_run, none_past}
use Rattle.avalue_base.specs.Values.{Cellv}
use Rattle.avalue.specs.declared.row.Entry.{Entry}
use Rattle.map_rows.specs.Entries.{plain_entry, range_entry, row_from}
use Rattle.map_rows.proofs.Rows.{width_elements}

-- the entries so far, and those of the ranges from i on, whose first bit is `low`, are those of all
pub record Gathers (base : ℕ) (rs : List (Run Cellv)) (low i : ℕ) (entries : List Entry) : Type 0 where
  pub made : map plain_entry entries ++ row_from base low (drop i rs) ≡ row_from base 0 rs
  pub bits : low + width (elements (drop i rs)) ≡ width (elements rs)

pub gather_begin : (base : ℕ) (rs : List (Run Cellv)) (entries : List Entry) → entries ≡ [] → Gathers base rs 0 0 entries
gather_begin base rs entries e = record { made = ap (λ (l : List Entry). map plain_entry l ++ row_from base 0 rs) e; bits = omega arith }

pub gather_small : (base : ℕ) (rs : List (Run Cellv)) (low i n : ℕ) (r : Run Cellv) (entries : List Entry) → i < length rs → r ≡ get_or rs i r → width (elements rs) < n → Gathers base rs low i entries → low + r.bits * r.count < n
gather_small base rs low i n r entries h e w g =
    let b = g.bits in
    let d = ap (λ (l : List (Run Cellv)). width (elements l)) (at_run rs i r h e) ∙ width_elements r (drop (i + 1) rs) in
    omega arith

pub gather_step : (base : ℕ) (rs : List (Run Cellv)) (low i : ℕ) (r : Run Cellv) (old new : List Entry) (entry : Entry) → i < length rs → r ≡ get_or rs i r → plain_entry entry ≡ range_entry base low r → new ≡ old ++ entry ∷ [] →
    Gathers base rs low i old → Gathers base rs (low + r.bits * r.count) (i + 1) new
unfolding row_from
gather_step base rs low i r old new entry h e p n g =
    let a = at_run rs i r h e in
    let rest = row_from base (low + r.bits * r.count) (drop (i + 1) rs) in
    let b = g.bits in
    let d = ap (λ (l : List (Run Cellv)). width (elements l)) a ∙ width_elements r (drop (i + 1) rs) in
    let front = map plain_entry old in
    let one : map plain_entry new ≡ front ++ plain_entry entry ∷ [] = ap (map plain_entry) n ∙ map-append plain_entry old (entry ∷ []) in
    let two : (front ++ plain_entry entry ∷ []) ++ rest ≡ front ++ plain_entry entry ∷ rest = append_assoc front (plain_entry entry ∷ []) rest in
    let three : front ++ plain_entry entry ∷ rest ≡ front ++ range_entry base low r ∷ rest = ap (λ (x : RowEntry). front ++ x ∷ rest) p in
    let four : front ++ row_from base low (r ∷ drop (i + 1) rs) ≡ front ++ row_from base low (drop i rs) = ap (λ (l : List (Run Cellv)). front ++ row_from base low l) (sym a) in
    record {
      made = ap (λ (l : List RowEntry). l ++ rest) one ∙ two ∙ three ∙ four ∙ g.made;
      bits = omega arith;
    }

pub gather_end : (base : ℕ) (rs : List (Run Cellv)) (low i : ℕ) (entries : List Entry) → length rs ≤ i → Gathers base rs low i entries → map plain_entry entries ≡ row_from base 0 rs
unfolding row_from
gather_end base rs low i entries h g =
    sym (append-nil (map plain_entry entries)) ∙ ap (λ (l : List (Run Cellv)). map plain_entry entries ++ row_from base low l) (sym (none_past rs i h)) ∙ g.made
