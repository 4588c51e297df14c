-- How results are computed.
use Rattle.std.proofs.Common.{◌≡◌, ℕ, ◌+◌, ◌<◌, ◌≤◌, Bool, ℤ, pos, List, [], ◌∷◌, ◌++◌, length, drop, get_or, map, Result, Ok, Err, drop-cons, add-one, refl, sym, subst, ap, ◌∙◌}
use Rattle.std.proofs.lemmas.List.{drop_all}
use Rattle.c_base.specs.declared.kind.Kind.{Kind}
use Rattle.c_base.specs.declared.operators.BinOp.{BinOp}
use Rattle.c_base.specs.Integers.{residue, is_signed, width_of, FitsKind, FitsBits}
use Rattle.c_base.specs.declared.integer.IntKind.{IntKind}
use Rattle.c_base.specs.declared.integer.Machine.{Machine}
use Rattle.c_base.specs.Operators.{operated, applied}
use Rattle.arrayvec.specs.ArrayVec.{ArrayVec}
use Rattle.ival_core.specs.declared.value.Progression.{Progression}
use Rattle.ival_core.specs.declared.value.Shape.{Shape}
use Rattle.ival_core.specs.declared.value.Shape.TheVariants.{Few, Many}
use Rattle.ival_core.specs.Joined.{with_number, with_numbers}
use Rattle.ival_arith.specs.Pieces.{gathered, run_residues}
use Rattle.ival_arith.specs.Values.{kept, row, rows, residues}
use Rattle.ival_arith.proofs.Codes.{with_no}

pub with_both : (s : Shape) (xs ys : List ℤ) → with_numbers s (xs ++ ys) ≡ with_numbers (with_numbers s xs) ys
unfolding with_numbers
with_both s [] ys = refl
with_both s (x ∷ xs) ys = with_both (with_number s x) xs ys

kept_before : (r : Result ℤ Kind) (ns : List ℤ) → kept r ns ≡ kept r [] ++ ns
kept_before (Ok n) ns = refl
kept_before (Err kind) ns = refl

row_here : (op : BinOp) (signed : Bool) (width : ℕ) (x y : ℤ) (ys : List ℤ) → row op signed width x (y ∷ ys) ≡ kept (operated op signed width x y) [] ++ row op signed width x ys
unfolding row
row_here op signed width x y ys = kept_before (operated op signed width x y) (row op signed width x ys)

row_end : (op : BinOp) (signed : Bool) (width : ℕ) (x : ℤ) → row op signed width x [] ≡ []
unfolding row
row_end op signed width x = refl

pub row_step : (op : BinOp) (signed : Bool) (width : ℕ) (x : ℤ) (ys : List ℤ) (i : ℕ) (d : ℤ) (s t u : Shape) → i < length ys →
    with_numbers s (row op signed width x (drop i ys)) ≡ u → t ≡ with_numbers s (kept (operated op signed width x (get_or ys i d)) []) →
    with_numbers t (row op signed width x (drop (i + 1) ys)) ≡ u
row_step op signed width x ys i d s t u h e f =
    ap (λ z. with_numbers z (row op signed width x (drop (i + 1) ys))) f
    ∙ sym (with_both s (kept (operated op signed width x (get_or ys i d)) []) (row op signed width x (drop (i + 1) ys)))
    ∙ ap (with_numbers s) (sym (row_here op signed width x (get_or ys i d) (drop (i + 1) ys)))
    ∙ ap (λ zs. with_numbers s (row op signed width x zs)) (sym (drop-cons ys i d h ∙ ap (λ k. get_or ys i d ∷ drop k ys) (sym (add-one i)))) ∙ e

pub row_done : (op : BinOp) (signed : Bool) (width : ℕ) (x : ℤ) (ys : List ℤ) (i : ℕ) (s u : Shape) → length ys ≤ i → with_numbers s (row op signed width x (drop i ys)) ≡ u → s ≡ u
row_done op signed width x ys i s u h e =
    sym (ap (λ zs. with_numbers s (row op signed width x zs)) (drop_all i ys h) ∙ ap (with_numbers s) (row_end op signed width x) ∙ with_no s) ∙ e

rows_here : (op : BinOp) (signed : Bool) (width : ℕ) (x : ℤ) (xs ys : List ℤ) → rows op signed width (x ∷ xs) ys ≡ row op signed width x ys ++ rows op signed width xs ys
unfolding rows
rows_here op signed width x xs ys = refl

rows_end : (op : BinOp) (signed : Bool) (width : ℕ) (ys : List ℤ) → rows op signed width [] ys ≡ []
unfolding rows
rows_end op signed width ys = refl

pub rows_step : (op : BinOp) (signed : Bool) (width : ℕ) (xs ys : List ℤ) (i : ℕ) (d : ℤ) (s t u : Shape) → i < length xs →
    with_numbers s (rows op signed width (drop i xs) ys) ≡ u → t ≡ with_numbers s (row op signed width (get_or xs i d) ys) →
    with_numbers t (rows op signed width (drop (i + 1) xs) ys) ≡ u
rows_step op signed width xs ys i d s t u h e f =
    ap (λ z. with_numbers z (rows op signed width (drop (i + 1) xs) ys)) f
    ∙ sym (with_both s (row op signed width (get_or xs i d) ys) (rows op signed width (drop (i + 1) xs) ys))
    ∙ ap (with_numbers s) (sym (rows_here op signed width (get_or xs i d) (drop (i + 1) xs) ys))
    ∙ ap (λ zs. with_numbers s (rows op signed width zs ys)) (sym (drop-cons xs i d h ∙ ap (λ k. get_or xs i d ∷ drop k xs) (sym (add-one i)))) ∙ e

pub rows_done : (op : BinOp) (signed : Bool) (width : ℕ) (xs ys : List ℤ) (i : ℕ) (s u : Shape) → length xs ≤ i → with_numbers s (rows op signed width (drop i xs) ys) ≡ u → s ≡ u
rows_done op signed width xs ys i s u h e =
    sym (ap (λ zs. with_numbers s (rows op signed width zs ys)) (drop_all i xs h) ∙ ap (with_numbers s) (rows_end op signed width ys) ∙ with_no s) ∙ e

pub in_format : (op : BinOp) (signed : Bool) (width : ℕ) (kind : IntKind) (machine : Machine) (a b : ℤ) → signed ≡ is_signed kind → width ≡ width_of kind machine →
    applied op kind machine a b ≡ operated op signed width a b
in_format op signed width kind machine a b e f = sym (ap (λ s. operated op s width a b) e ∙ ap (λ w. operated op (is_signed kind) w a b) f)

pub fits_format : (signed : Bool) (width : ℕ) (kind : IntKind) (machine : Machine) (n : ℤ) → signed ≡ is_signed kind → width ≡ width_of kind machine → FitsKind kind machine n → FitsBits signed width n
fits_format signed width kind machine n e f h = subst (λ s. FitsBits s width n) (sym e) (subst (λ w. FitsBits (is_signed kind) w n) (sym f) h)

pub fits_kind : (signed : Bool) (width : ℕ) (kind : IntKind) (machine : Machine) (n : ℤ) → signed ≡ is_signed kind → width ≡ width_of kind machine → FitsBits signed width n → FitsKind kind machine n
fits_kind signed width kind machine n e f h = subst (λ w. FitsBits (is_signed kind) w n) f (subst (λ s. FitsBits s width n) e h)

pub residues_few : (m : ℕ) (set at r : Shape) (v : ArrayVec ℤ) (xs : List ℤ) → at ≡ set → at ≡ Few v → xs ≡ v.items → r ≡ gathered (map (λ n. pos (residue m n)) xs) → r ≡ residues m set
unfolding residues
residues_few m set at r v xs e f g h = h ∙ ap (λ ys. gathered (map (λ n. pos (residue m n)) ys)) g ∙ ap (residues m) (sym f ∙ e)

pub residues_run : (m : ℕ) (set at r : Shape) (p : Progression) → at ≡ set → at ≡ Many p → r ≡ run_residues m p → r ≡ residues m set
unfolding residues
residues_run m set at r p e f h = h ∙ ap (residues m) (sym f ∙ e)
