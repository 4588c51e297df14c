-- The entries of a list of ranges.
use Rattle.std.proofs.Common.{◌≡◌, ℕ, zero, suc, ◌+◌, ◌-◌, ◌*◌, ◌<◌, ◌≤◌, List, [], ◌∷◌, ◌++◌, length, take, drop, map, refl, sym, ap, ◌∙◌, subst, arith, length-take, length-drop}
use Rattle.std.specs.Prelude.{◌↔◌, replicate, Option, None, Some}
use Rattle.std.specs.List.{AllByRecursion}
use Rattle.std.proofs.lemmas.List.{drop-drop}
use Rattle.c_base.specs.declared.integer.Machine.TheVariants.{Lp64}
use Rattle.c_memory.specs.Layouts.{Layout}
use Rattle.c_memory.specs.Memories.{Memory}
use Rattle.c_memory.specs.Values.{Cell}
use Rattle.c_memory.specs.Rows.{Entry, AreRanges, AllowsStretch, DescribesEntry}
use Rattle.cell_laws.specs.Elements.{Element, width, AllFine}
use Rattle.cell_laws.specs.Meaning.{Describes}
use Rattle.cell_laws.proofs.Cuts.{width-append}
use Rattle.cell_laws.proofs.Stretches.{width-replicate}
use Rattle.cell_laws.proofs.Joins.{AllFine-rest}
use Rattle.cell_runs.specs.declared.runs.Run.{Run}
use Rattle.cell_runs.specs.Runs.{element_of, elements, AllSome}
use Rattle.avalue_base.specs.Values.{Cellv, row_cell}
use Rattle.avalue_base.specs.Ops.{Fine}
use Rattle.avalue_base.specs.Meaning.{Allows}
use Rattle.avalue.specs.declared.row.Entry.{Entry as CodeEntry}
use Rattle.offmap.specs.Maps.{AreRanges as Ranges}
use Rattle.map_rows.specs.Entries.{plain_entry, size_in, range_entry, row_from}
use Rattle.map_rows.proofs.Stretches.{range_describes}

pub width_elements : (r : Run Cellv) (rs : List (Run Cellv)) → width (elements (r ∷ rs)) ≡ r.bits * r.count + width (elements rs)
unfolding elements
width_elements r rs =
    let a = width-append (replicate r.count (element_of r)) (elements rs) in
    let b = width-replicate r.count (element_of r) in
    let c : r.count * r.bits ≡ r.bits * r.count = omega arith in
    omega arith

first_fine : (r : Run Cellv) (rs : List (Run Cellv)) → 0 < r.count → AllFine (Fine Lp64) (elements (r ∷ rs)) → Fine Lp64 r.bits r.cell
unfolding elements
first_fine r rs h f = at r.count h f
  where
    at : (n : ℕ) → 0 < n → AllFine (Fine Lp64) (replicate n (element_of r) ++ elements rs) → Fine Lp64 r.bits r.cell
    at zero h f = absurd (omega arith)
    at (suc n) h f = f.0

rest_fine : (r : Run Cellv) (rs : List (Run Cellv)) → AllFine (Fine Lp64) (elements (r ∷ rs)) → AllFine (Fine Lp64) (elements rs)
unfolding elements
rest_fine r rs f = AllFine-rest (Fine Lp64) (replicate r.count (element_of r)) (elements rs) f

some_bits : (b n : ℕ) → 0 < b → 0 < n → 0 < b * n
some_bits zero n p q = absurd (omega arith)
some_bits (suc b) n p q = omega arith

-- they cover its bits
pub row_covers : (base low bits : ℕ) (rs : List (Run Cellv)) → AllSome rs → low + width (elements rs) ≡ bits → AreRanges low bits (row_from base low rs)
unfolding row_from elements width
row_covers base low bits [] s e = omega arith
row_covers base low bits (r ∷ rs) s e =
    let w = width_elements r rs in
    let p = some_bits r.bits r.count s.0 s.1 in
    let q : suc (low + r.bits * r.count - 1) ≡ low + r.bits * r.count = omega arith in
    (refl, omega arith, subst (λ (x : ℕ). AreRanges x bits (row_from base (low + r.bits * r.count) rs)) (sym q) (row_covers base (low + r.bits * r.count) bits rs s.2 (omega arith)))

some_is : {X : Type 0} (x y : X) → Some x ≡ Some y → x ≡ y
some_is x y e = cc

module _ (l : Layout) (memory : Memory) (base : ℕ) (cells : List Cell) (live : memory base ≡ Some cells) where
  entry_describes : (low : ℕ) (r : Run Cellv) → 0 < r.bits * r.count → AllowsStretch l (row_cell r.cell) (size_in r) (take (r.bits * r.count) (drop low cells)) ↔ DescribesEntry l memory (range_entry base low r)
  entry_describes low r p =
      let n : r.bits * r.count ≡ suc (low + r.bits * r.count - 1) - low = omega arith in (
        (λ a. record { cells = cells; live = live; allowed = subst (λ (x : ℕ). AllowsStretch l (row_cell r.cell) (size_in r) (take x (drop low cells))) n a }),
        (λ d.
            let e : d.cells ≡ cells = some_is d.cells cells (sym d.live ∙ live) in
            subst (λ (x : ℕ). AllowsStretch l (row_cell r.cell) (size_in r) (take x (drop low cells))) (sym n)
            (subst (λ (ks : List Cell). AllowsStretch l (row_cell r.cell) (size_in r) (take (suc (low + r.bits * r.count - 1) - low) (drop low ks))) e d.allowed)),
      )

  pub row_describes : (low : ℕ) (rs : List (Run Cellv)) → AllSome rs → AllFine (Fine Lp64) (elements rs) → length (drop low cells) ≡ width (elements rs) →
      Describes (Allows l) (elements rs) (drop low cells) ↔ AllByRecursion (DescribesEntry l memory) (row_from base low rs)
  unfolding row_from elements width
  row_describes low [] s f w = ((λ d. tt), (λ a. none (drop low cells) w))
    where
      none : (ks : List Cell) → length ks ≡ 0 → ks ≡ []
      none [] h = refl
      none (k ∷ ks) h = absurd (omega arith)
  row_describes low (r ∷ rs) s f w =
      let v = width_elements r rs in
      let p = some_bits r.bits r.count s.0 s.1 in
      let c : r.count * r.bits ≡ r.bits * r.count = omega arith in
      let d : drop (r.count * r.bits) (drop low cells) ≡ drop (low + r.bits * r.count) cells = drop-drop (r.count * r.bits) low cells ∙ ap (λ (x : ℕ). drop (low + x) cells) c in
      let m : length (drop (low + r.bits * r.count) cells) ≡ width (elements rs) = let x = length-drop low cells in let y = length-drop (low + r.bits * r.count) cells in omega arith in
      let one = range_describes l r.bits r.cell (first_fine r rs s.1 f) r.count (elements rs) (drop low cells) (omega arith) in
      let here = entry_describes low r p in
      let more = row_describes (low + r.bits * r.count) rs s.2 (rest_fine r rs f) m in (
        (λ a.
            let b = one.0 a in (
              here.0 (subst (λ (x : ℕ). AllowsStretch l (row_cell r.cell) (size_in r) (take x (drop low cells))) c b.0),
              more.0 (subst (Describes (Allows l) (elements rs)) d b.1),
            )),
        (λ a. one.1 (
          subst (λ (x : ℕ). AllowsStretch l (row_cell r.cell) (size_in r) (take x (drop low cells))) (sym c) (here.1 a.0),
          subst (Describes (Allows l) (elements rs)) (sym d) (more.1 a.1),
        )),
      )

-- ---- the entries of a map

pub ranges_are : (m : List (Element Cellv)) (rs : List (Run Cellv)) (base : ℕ) (entries : List CodeEntry) → Ranges m rs → map plain_entry entries ≡ row_from base 0 rs → (ss : List (Run Cellv)) → Ranges m ss → map plain_entry entries ≡ row_from base 0 ss
ranges_are m rs base entries r e ss s = e ∙ ap (row_from base 0) (sym (r.only ss s.some s.apart s.view))

pub covers_all : (m : List (Element Cellv)) (rs : List (Run Cellv)) (base : ℕ) (entries : List CodeEntry) → Ranges m rs → map plain_entry entries ≡ row_from base 0 rs → AreRanges 0 (width m) (map plain_entry entries)
covers_all m rs base entries r e = subst (AreRanges 0 (width m)) (sym e) (row_covers base 0 (width m) rs r.some (let v = ap width r.view in omega arith))

pub describes_all : (m : List (Element Cellv)) (rs : List (Run Cellv)) (base : ℕ) (entries : List CodeEntry) → Ranges m rs → AllFine (Fine Lp64) m → map plain_entry entries ≡ row_from base 0 rs →
    (l : Layout) (memory : Memory) (cells : List Cell) → memory base ≡ Some cells → length cells ≡ width m → Describes (Allows l) m cells ↔ AllByRecursion (DescribesEntry l memory) (map plain_entry entries)
describes_all m rs base entries r f e l memory cells h w =
    let d = row_describes l memory base cells h 0 rs r.some (subst (AllFine (Fine Lp64)) (sym r.view) f) (w ∙ sym (ap width r.view)) in
    subst (λ (es : List Entry). Describes (Allows l) m cells ↔ AllByRecursion (DescribesEntry l memory) es) (sym e)
    (subst (λ (x : List (Element Cellv)). Describes (Allows l) x cells ↔ AllByRecursion (DescribesEntry l memory) (row_from base 0 rs)) r.view d)
