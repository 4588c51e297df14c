-- What operators on the bits of numbers of two sets hold.
use Rattle.std.proofs.Common.{◌≡◌, ◌⊎◌, ℕ, ◌^◌, Bool, true, false, cond, ℤ, pos, List, Option, Some, None, refl, inl, inr}
use Rattle.std.specs.Prelude.{neg_ℤ}
use Rattle.c_base.specs.declared.operators.BinOp.{BinOp}
use Rattle.c_base.specs.declared.operators.BinOp.TheVariants.{And, Or, Xor}
use Rattle.ival_core.specs.declared.value.Shape.{Shape}
use Rattle.ival_core.specs.declared.value.Shape.TheVariants.{Few, Many}
use Rattle.ival_core.specs.Sets.{Among, Has}
use Rattle.ival_core.specs.Views.{bounds_of, single_of}
use Rattle.ival_arith.specs.Pieces.{gathered}
use Rattle.ival_arith.specs.Sums.{sums}
use Rattle.ival_arith.specs.Values.{rows}
use Rattle.ival_arith.proofs.Bounding.{bounds_are}
use Rattle.ival_arith.proofs.Fits.{Fits, Makes-fits}
use Rattle.ival_arith.proofs.Making.{Made, Typed, IsWidth, rows-makes}
use Rattle.ival_arith.proofs.Spreading.{Covers}
use Rattle.ival_bits.specs.Spans.{bounds_value}
use Rattle.ival_bits.specs.Masks.{and_by}
use Rattle.ival_bits.specs.Bitwise.{or_else, is_apart, long_and, long_or, long_bits, bits_value}
use Rattle.ival_bits.specs.Promises.{IsSome, IsSharp}
use Rattle.ival_bits.proofs.SpanSets.{Result_in, Pair, bounds_covers}
use Rattle.ival_bits.proofs.MaskSets.{by_number_fits, fits_swapped}
use Rattle.ival_bits.proofs.Apart.{IsJoining, apart_fits}

fits_covers : (P : ℤ → Type 0) (s : Shape) → Fits P s → Covers P s
fits_covers P s f = record { valid = f.valid; holds = f.holds }

left_by : (signed : Bool) (width : ℕ) (s t r : Shape) → Pair And signed width s t → and_by signed width t s ≡ Some r → Fits (Result_in And signed width s t) r
left_by signed width s t r k e = by_number_fits signed width s t r (single_of t) k.width_is k.left k.right refl e

right_by : (signed : Bool) (width : ℕ) (s t r : Shape) → Pair And signed width s t → and_by signed width s t ≡ Some r → Fits (Result_in And signed width s t) r
right_by signed width s t r k e = fits_swapped signed width s t r (by_number_fits signed width t s r (single_of s) k.width_is k.right k.left refl e)

bounds_of_both : (op : BinOp) (signed : Bool) (width : ℕ) (s t : Shape) → Pair op signed width s t → Covers (Result_in op signed width s t) (bounds_value op (bounds_of s) (bounds_of t))
bounds_of_both op signed width s t k = bounds_covers op signed width s t (bounds_of s) (bounds_of t) k (bounds_are s k.left.valid) (bounds_are t k.right.valid)

and_covers : (signed : Bool) (width : ℕ) (s t : Shape) → Pair And signed width s t → Covers (Result_in And signed width s t) (long_and signed width s t)
unfolding long_and
and_covers signed width s t k = by_masks (and_by signed width t s) (and_by signed width s t) refl refl
  where
    by_masks : (o u : Option Shape) → and_by signed width t s ≡ o → and_by signed width s t ≡ u → Covers (Result_in And signed width s t) (or_else o (or_else u (bounds_value And (bounds_of s) (bounds_of t))))
    by_masks (Some r) u e f = fits_covers (Result_in And signed width s t) r (left_by signed width s t r k e)
    by_masks None (Some r) e f = fits_covers (Result_in And signed width s t) r (right_by signed width s t r k f)
    by_masks None None e f = bounds_of_both And signed width s t k

and_sharp : (signed : Bool) (width : ℕ) (s t : Shape) → Pair And signed width s t → IsSome (and_by signed width s t) ⊎ IsSome (and_by signed width t s) → Fits (Result_in And signed width s t) (long_and signed width s t)
unfolding long_and
and_sharp signed width s t k h = by_masks (and_by signed width t s) (and_by signed width s t) refl refl h
  where
    by_masks : (o u : Option Shape) → and_by signed width t s ≡ o → and_by signed width s t ≡ u → IsSome u ⊎ IsSome o → Fits (Result_in And signed width s t) (or_else o (or_else u (bounds_value And (bounds_of s) (bounds_of t))))
    by_masks (Some r) u e f h = left_by signed width s t r k e
    by_masks None (Some r) e f h = right_by signed width s t r k f
    by_masks None None e f (inl h) = absurd h
    by_masks None None e f (inr h) = absurd h

or_covers : (op : BinOp) (signed : Bool) (width : ℕ) (s t : Shape) → IsJoining op → Pair op signed width s t → Covers (Result_in op signed width s t) (long_or op s t)
unfolding long_or
or_covers op signed width s t i k = by_test (is_apart s t) refl
  where
    by_test : (b : Bool) → is_apart s t ≡ b → Covers (Result_in op signed width s t) (cond b (sums (neg_ℤ (pos (2 ^ 120))) (pos (2 ^ 120)) s t) (bounds_value op (bounds_of s) (bounds_of t)))
    by_test true e = fits_covers (Result_in op signed width s t) (sums (neg_ℤ (pos (2 ^ 120))) (pos (2 ^ 120)) s t) (apart_fits op signed width s t i k.width_is k.left k.right e)
    by_test false e = bounds_of_both op signed width s t k

or_sharp : (op : BinOp) (signed : Bool) (width : ℕ) (s t : Shape) → IsJoining op → Pair op signed width s t → is_apart s t ≡ true → Fits (Result_in op signed width s t) (long_or op s t)
unfolding long_or
or_sharp op signed width s t i k e = by_test (is_apart s t) e
  where
    by_test : (b : Bool) → b ≡ true → Fits (Result_in op signed width s t) (cond b (sums (neg_ℤ (pos (2 ^ 120))) (pos (2 ^ 120)) s t) (bounds_value op (bounds_of s) (bounds_of t)))
    by_test true f = apart_fits op signed width s t i k.width_is k.left k.right e
    by_test false f = cc

long_covers : (op : BinOp) (signed : Bool) (width : ℕ) (s t : Shape) → Pair op signed width s t → Covers (Result_in op signed width s t) (long_bits op signed width s t)
unfolding long_bits
long_covers And signed width s t k = and_covers signed width s t k
long_covers Or signed width s t k = or_covers Or signed width s t tt k
long_covers Xor signed width s t k = or_covers Xor signed width s t tt k
long_covers op signed width s t k = absurd k.bitwise

few_fits : (op : BinOp) (signed : Bool) (width : ℕ) (xs ys : List ℤ) → IsWidth width → Typed signed width (Among xs) → Fits (Made op signed width (Among xs) (Among ys)) (gathered (rows op signed width xs ys))
few_fits op signed width xs ys w t = Makes-fits (Made op signed width (Among xs) (Among ys)) (gathered (rows op signed width xs ys)) (rows-makes op signed width xs ys w t)

pub bits_value-covers : (op : BinOp) (signed : Bool) (width : ℕ) (s t : Shape) → Pair op signed width s t → Covers (Made op signed width (Has s) (Has t)) (bits_value op signed width s t)
unfolding bits_value
bits_value-covers op signed width (Few v) (Few u) k = fits_covers (Made op signed width (Among v.items) (Among u.items)) (gathered (rows op signed width v.items u.items)) (few_fits op signed width v.items u.items k.width_is k.left.typed)
bits_value-covers op signed width (Few v) (Many q) k = long_covers op signed width (Few v) (Many q) k
bits_value-covers op signed width (Many p) t k = long_covers op signed width (Many p) t k

pub bits_value-fits : (op : BinOp) (signed : Bool) (width : ℕ) (s t : Shape) → IsSharp op signed width s t → Pair op signed width s t → Fits (Made op signed width (Has s) (Has t)) (bits_value op signed width s t)
unfolding bits_value long_bits
bits_value-fits op signed width (Few v) (Few u) h k = few_fits op signed width v.items u.items k.width_is k.left.typed
bits_value-fits And signed width (Few v) (Many q) h k = and_sharp signed width (Few v) (Many q) k h
bits_value-fits And signed width (Many p) t h k = and_sharp signed width (Many p) t k h
bits_value-fits Or signed width (Few v) (Many q) h k = or_sharp Or signed width (Few v) (Many q) tt k h
bits_value-fits Or signed width (Many p) t h k = or_sharp Or signed width (Many p) t tt k h
bits_value-fits Xor signed width (Few v) (Many q) h k = or_sharp Xor signed width (Few v) (Many q) tt k h
bits_value-fits Xor signed width (Many p) t h k = or_sharp Xor signed width (Many p) t tt k h
bits_value-fits op signed width s t h k = absurd h
