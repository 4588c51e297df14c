-- Entries of variables, part by part.
use Rattle.std.proofs.Common.{◌≡◌, ℕ, zero, suc, ◌+◌, ◌<◌, ◌≤◌, Bool, false, List, [], ◌∷◌, ◌++◌, length, get_or, map, drop, Option, None, Some, ℤ, refl, sym, ap, ◌∙◌, arith, append_assoc, append-nil, drop-cons, drop_of_length-le, add-one}
use Rattle.std.specs.Prelude.{slice_get}
use Rattle.eva_report.specs.Report.{ReportEntry}
use Rattle.first_analysis.specs.declared.content.Content.{Content}
use Rattle.c_program.specs.Syntax.{base_at}
use Rattle.first_program.specs.Source.{Program}
use Rattle.first_program.specs.Meaning.{meaning_of, variable_base}
use Rattle.eva_claim.specs.Claims.{name_of, names_of}
use Rattle.first_report.specs.Rows.{Shown, parts_of, flag_parts, entry_for, row_from, shown_all, shown_or}

-- the numbers of an entry, and then the flag
pub entry_parts : (bounds : Option (ℤ × ℤ)) (uninit : Bool) → parts_of bounds uninit ≡ parts_of bounds false ++ flag_parts uninit
entry_parts None uninit = refl
entry_parts (Some b) uninit = refl

pub length-shown : (count : ℕ) (row : List Content) → length (shown_all count row) ≡ count
length-shown zero row = refl
length-shown (suc count) [] = ap suc (length-shown count [])
length-shown (suc count) (c ∷ row) = ap suc (length-shown count row)

pub shown_at : (count : ℕ) (row : List Content) (index : ℕ) (d : Shown) → index < count → shown_or (slice_get row index) ≡ get_or (shown_all count row) index d
shown_at zero row index d h = absurd (omega arith)
shown_at (suc count) [] zero d h = refl
shown_at (suc count) [] (suc index) d h = shown_at count [] index d (omega arith)
shown_at (suc count) (c ∷ row) zero d h = refl
shown_at (suc count) (c ∷ row) (suc index) d h = shown_at count row index d (omega arith)

-- the name of a variable does not depend on the default, where there is one
pub item_default : {A : Type 0} (xs : List A) (i : ℕ) (d e : A) → i < length xs → get_or xs i d ≡ get_or xs i e
item_default [] i d e h = absurd (omega arith)
item_default (x ∷ xs) zero d e h = refl
item_default (x ∷ xs) (suc i) d e h = item_default xs i d e (omega arith)

-- one entry more of a row
pub row_step : (names : ℕ → List ℕ) (all : List Shown) (i : ℕ) (s : Shown) (name : List ℕ) (old new total : List ReportEntry) → i < length all → name ≡ names (i + 1) → s ≡ get_or all i s →
    new ≡ old ++ entry_for name (i + 1) s ∷ [] → old ++ row_from names (i + 1) (drop i all) ≡ total → new ++ row_from names (i + 1 + 1) (drop (i + 1) all) ≡ total
row_step names all i s name old new total within named item e h =
    let one : i + 1 ≡ suc i = omega arith in
    let front : drop i all ≡ s ∷ drop (i + 1) all = drop-cons all i s within ∙ ap (λ x. x ∷ drop (suc i) all) (sym item) ∙ ap (λ k. s ∷ drop k all) (sym one) in
    let next : suc (i + 1) ≡ i + 1 + 1 = omega arith in
    let rest = row_from names (i + 1 + 1) (drop (i + 1) all) in
    let split : old ++ (entry_for (names (i + 1)) (i + 1) s ∷ rest) ≡ total = rw next at (rw front at h) in
    ap (λ now. now ++ rest) e ∙ append_assoc old (entry_for name (i + 1) s ∷ []) rest ∙ ap (λ n. old ++ (entry_for n (i + 1) s ∷ rest)) named ∙ split

pub row_end : (names : ℕ → List ℕ) (all : List Shown) (i k : ℕ) (old total : List ReportEntry) → length all ≤ i → old ++ row_from names k (drop i all) ≡ total → old ≡ total
row_end names all i k old total beyond h = sym (append-nil old) ∙ (rw (drop_of_length-le all {i = i} beyond) at h)

-- the name of variable number i, counted from 0
name_at : (vs : List (List ℕ)) (i : ℕ) → name_of (base_at (map variable_base vs) i) ≡ get_or vs i []
name_at [] i = refl
name_at (v ∷ vs) zero = refl
name_at (v ∷ vs) (suc i) = name_at vs i

pub variable_named : (p : Program) (i : ℕ) → names_of (meaning_of p) (i + 1) ≡ get_or p.variables i []
variable_named p i = rw add-one (name_at p.variables i)
