-- How a table is computed.
use Rattle.std.proofs.Common.{◌≡◌, ℕ, ◌-◌, ◌≤◌, ◌^◌, ◌<◌, Option, Some, None, Bool, true, false, ℤ, pos, ◌+ℤ◌, List, ◌⊎◌, inl, inr, refl, sym, subst, ap, ◌∙◌, arith}
use Rattle.std.specs.Prelude.{neg_ℤ, unsigned_abs}
use Rattle.std.proofs.lemmas.Int.{ints}
use Rattle.arrayvec.specs.ArrayVec.{ArrayVec}
use Rattle.c_base.specs.declared.operators.BinOp.{BinOp}
use Rattle.c_base.specs.declared.operators.BinOp.TheVariants.{Add, Sub, Mul, Div, Rem}
use Rattle.c_base.specs.Integers.{FitsBits, least_of, greatest_of}
use Rattle.ival_core.specs.declared.value.Progression.{Progression}
use Rattle.ival_core.specs.declared.value.Ival.{Ival}
use Rattle.ival_core.specs.declared.value.Shape.{Shape}
use Rattle.ival_core.specs.declared.value.Shape.TheVariants.{Few, Many}
use Rattle.ival_core.specs.Sets.{IsNumber}
use Rattle.ival_core.proofs.Insertion.{Holds-number}
use Rattle.c_base.specs.Wide.{IsOperand}
use Rattle.ival_arith.proofs.Exacting.{negates}
use Rattle.ival_core.specs.Ivals.{Holds}
use Rattle.ival_core.specs.Views.{bounds_of}
use Rattle.ival_arith.specs.Pieces.{none, gathered, all_changed}
use Rattle.ival_arith.specs.declared.pieces.Change.TheVariants.{Negative}
use Rattle.ival_arith.specs.Sums.{sums}
use Rattle.ival_arith.specs.declared.divisions.Part.TheVariants.{Quotient, Remainder}
use Rattle.ival_arith.specs.Values.{rows, residues, added, lines_onto, extent, runs_multiplied, multiplied, divided, long_value, value}
use Rattle.ival_arith.specs.Promises.{InType}
use Rattle.ival_arith.proofs.Bounding.{BoundsAre, bounds_are}
use Rattle.ival_arith.proofs.Words.{ends, fits_operand}

pub added_signed : (signed : Bool) (width : ℕ) (s t r : Shape) → signed ≡ true → r ≡ sums (least_of signed width) (greatest_of signed width) s t → r ≡ added signed width s t
unfolding added
added_signed true width s t r e f = f
added_signed false width s t r e f = cc

pub added_unsigned : (signed : Bool) (width : ℕ) (s t r : Shape) → signed ≡ false → r ≡ residues (2 ^ width) (sums (neg_ℤ (pos (2 ^ 120))) (pos (2 ^ 120)) s t) → r ≡ added signed width s t
unfolding added
added_unsigned true width s t r e f = cc
added_unsigned false width s t r e f = f

pub sums_ends : (a b c d : ℤ) (s t : Shape) → a ≡ c → b ≡ d → sums a b s t ≡ sums c d s t
sums_ends a b c d s t e f = ap (λ x. sums x b s t) e ∙ ap (λ x. sums c x s t) f

-- the numbers of a type are near 0
pub type_extent : (signed : Bool) (width : ℕ) (v : Ival) → 0 < width → width ≤ 64 → InType signed width v → extent (bounds_of v.shape) ≤ 2 ^ 64 - 1
type_extent signed width v h k t = by_bounds (bounds_of v.shape) (bounds_are v.shape v.valid)
  where
    near : (n : ℤ) → FitsBits signed width n → unsigned_abs n ≤ 2 ^ 64 - 1
    near n f = let e = ends signed width h k in let a = e.least in let b = e.greatest in let c = f.least in let d = f.greatest in omega (arith, ints)

    by_bounds : (b : Option (ℤ × ℤ)) → BoundsAre v.shape b → extent b ≤ 2 ^ 64 - 1
    by_bounds None i = omega arith
    by_bounds (Some b) i = let x = near b.0 (t.fits b.0 i.first) in let y = near b.1 (t.fits b.1 i.last) in omega arith

-- ---- products by the shapes of the sets

pub multiplied_none : (signed : Bool) (width : ℕ) (s t at r : Shape) (xs : List ℤ) (u : ArrayVec ℤ) → s ≡ Few (record { items = xs }) → at ≡ t → at ≡ Few u → r ≡ none → r ≡ multiplied signed width s t
unfolding multiplied
multiplied_none signed width s t at r xs u e f g h = h ∙ ap (λ x. multiplied signed width x (Few u)) (sym e) ∙ ap (multiplied signed width s) (sym g ∙ f)

pub multiplied_few_run : (signed : Bool) (width : ℕ) (s t at r : Shape) (xs : List ℤ) (q : Progression) → s ≡ Few (record { items = xs }) → at ≡ t → at ≡ Many q → r ≡ lines_onto signed width none q xs → r ≡ multiplied signed width s t
unfolding multiplied
multiplied_few_run signed width s t at r xs q e f g h = h ∙ ap (λ x. multiplied signed width x (Many q)) (sym e) ∙ ap (multiplied signed width s) (sym g ∙ f)

pub multiplied_run_few : (signed : Bool) (width : ℕ) (s t at r : Shape) (p : Progression) (u : ArrayVec ℤ) (ys : List ℤ) → s ≡ Many p → at ≡ t → at ≡ Few u → ys ≡ u.items → r ≡ lines_onto signed width none p ys → r ≡ multiplied signed width s t
unfolding multiplied
multiplied_run_few signed width s t at r p u ys e f g i h = h ∙ ap (lines_onto signed width none p) i ∙ ap (λ x. multiplied signed width x (Few u)) (sym e) ∙ ap (multiplied signed width s) (sym g ∙ f)

pub multiplied_runs : (signed : Bool) (width : ℕ) (s t at r : Shape) (p q : Progression) → s ≡ Many p → at ≡ t → at ≡ Many q → r ≡ runs_multiplied signed width p q → r ≡ multiplied signed width s t
unfolding multiplied
multiplied_runs signed width s t at r p q e f g h = h ∙ ap (λ x. multiplied signed width x (Many q)) (sym e) ∙ ap (multiplied signed width s) (sym g ∙ f)

-- ---- the whole table

pub long_add : (signed : Bool) (width : ℕ) (s t : Shape) → added signed width s t ≡ long_value Add signed width s t
unfolding long_value
long_add signed width s t = refl

pub long_sub : (signed : Bool) (width : ℕ) (s t : Shape) → added signed width s (all_changed Negative t) ≡ long_value Sub signed width s t
unfolding long_value
long_sub signed width s t = refl

pub long_mul : (signed : Bool) (width : ℕ) (s t : Shape) → multiplied signed width s t ≡ long_value Mul signed width s t
unfolding long_value
long_mul signed width s t = refl

pub long_div : (signed : Bool) (width : ℕ) (s t : Shape) → divided Quotient signed width s t ≡ long_value Div signed width s t
unfolding long_value
long_div signed width s t = refl

pub long_rem : (signed : Bool) (width : ℕ) (s t : Shape) → divided Remainder signed width s t ≡ long_value Rem signed width s t
unfolding long_value
long_rem signed width s t = refl

pub value_few : (op : BinOp) (signed : Bool) (width : ℕ) (s t a b r : Shape) (v u : ArrayVec ℤ) (xs ys : List ℤ) → a ≡ s → a ≡ Few v → xs ≡ v.items → b ≡ t → b ≡ Few u → ys ≡ u.items →
    r ≡ gathered (rows op signed width xs ys) → r ≡ value op signed width s t
unfolding value
value_few op signed width s t a b r v u xs ys e f g h i j k =
    k ∙ ap (λ zs. gathered (rows op signed width zs ys)) g ∙ ap (λ zs. gathered (rows op signed width v.items zs)) j ∙ ap (λ x. value op signed width x (Few u)) (sym f ∙ e) ∙ ap (value op signed width s) (sym i ∙ h)

pub value_few_run : (op : BinOp) (signed : Bool) (width : ℕ) (s t a b r : Shape) (v : ArrayVec ℤ) (q : Progression) → a ≡ s → a ≡ Few v → b ≡ t → b ≡ Many q → r ≡ long_value op signed width s t → r ≡ value op signed width s t
unfolding value
value_few_run op signed width s t a b r v q e f h i k =
    k ∙ ap (λ x. long_value op signed width x t) (sym e ∙ f) ∙ ap (long_value op signed width (Few v)) (sym h ∙ i) ∙ ap (λ x. value op signed width x (Many q)) (sym f ∙ e) ∙ ap (value op signed width s) (sym i ∙ h)

pub value_run : (op : BinOp) (signed : Bool) (width : ℕ) (s t a r : Shape) (p : Progression) → a ≡ s → a ≡ Many p → r ≡ long_value op signed width s t → r ≡ value op signed width s t
unfolding value
value_run op signed width s t a r p e f k = k ∙ ap (λ x. long_value op signed width x t) (sym e ∙ f) ∙ ap (λ x. value op signed width x t) (sym f ∙ e)

pub negated_sums : (signed : Bool) (width : ℕ) (a b v : Ival) → 0 < width → width ≤ 64 → InType signed width a → InType signed width b → v.shape ≡ all_changed Negative b.shape →
    (x y : ℤ) → Holds a x → Holds v y → IsNumber (x +ℤ y)
negated_sums signed width a b v h k l r e x y i j =
    let n = negates b v (λ n m. Holds-number b n m) e in
    near x (neg_ℤ y) y (fits_operand signed width x h k (l.fits x i)) (fits_operand signed width (neg_ℤ y) h k (r.fits (neg_ℤ y) (n.back y j))) (twice y)
  where
    twice : (y : ℤ) → y ≡ neg_ℤ (neg_ℤ y)
    twice y = omega (arith, ints)

    near : (x z y : ℤ) → IsOperand x → IsOperand z → y ≡ neg_ℤ z → IsNumber (x +ℤ y)
    near x z y f g e = let a = f.least in let b = f.greatest in let c = g.least in let d = g.greatest in record { least = omega (arith, ints); greatest = omega (arith, ints) }

-- the operators without results here
abbrev pub IsRest : BinOp → Type 0
IsRest Add = ⊥
IsRest Sub = ⊥
IsRest Mul = ⊥
IsRest Div = ⊥
IsRest Rem = ⊥
IsRest op = Unit {0}

pub long_rest : (op : BinOp) (signed : Bool) (width : ℕ) (s t : Shape) → IsRest op → none ≡ long_value op signed width s t
unfolding long_value
long_rest Add signed width s t h = absurd h
long_rest Sub signed width s t h = absurd h
long_rest Mul signed width s t h = absurd h
long_rest Div signed width s t h = absurd h
long_rest Rem signed width s t h = absurd h
long_rest op signed width s t h = refl

one_of : (op o : BinOp) → IsRest o → op ≡ o → IsRest op
one_of op o h e = subst IsRest (sym e) h

pub rest_of_five : (op a b c d e : BinOp) → IsRest a → IsRest b → IsRest c → IsRest d → IsRest e → (op ≡ a) ⊎ ((op ≡ b) ⊎ ((op ≡ c) ⊎ ((op ≡ d) ⊎ (op ≡ e)))) → IsRest op
rest_of_five op a b c d e ha hb hc hd he (inl i) = one_of op a ha i
rest_of_five op a b c d e ha hb hc hd he (inr (inl i)) = one_of op b hb i
rest_of_five op a b c d e ha hb hc hd he (inr (inr (inl i))) = one_of op c hc i
rest_of_five op a b c d e ha hb hc hd he (inr (inr (inr (inl i)))) = one_of op d hd i
rest_of_five op a b c d e ha hb hc hd he (inr (inr (inr (inr i)))) = one_of op e he i

pub rest_of_six : (op a b c d e f : BinOp) → IsRest a → IsRest b → IsRest c → IsRest d → IsRest e → IsRest f → (op ≡ a) ⊎ ((op ≡ b) ⊎ ((op ≡ c) ⊎ ((op ≡ d) ⊎ ((op ≡ e) ⊎ (op ≡ f))))) → IsRest op
rest_of_six op a b c d e f ha hb hc hd he hf (inl i) = one_of op a ha i
rest_of_six op a b c d e f ha hb hc hd he hf (inr i) = rest_of_five op b c d e f hb hc hd he hf i
