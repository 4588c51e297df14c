-- What an operator gives on two sets of numbers of a type.
use Rattle.std.specs.Int.{int_min, int_max}
use Rattle.ival_core.specs.Views.{bounds_of}
use Rattle.std.specs.Prelude.{Option, Some, None, ℕ, zero, suc, ◌+◌, ◌-◌, ◌*◌, ◌/◌, ◌%◌, ◌^◌, ◌==◌, nat_lt, Bool, true, false, cond, ◌&&◌, ◌||◌, ℤ, pos, negsuc, neg_ℤ, ◌≤ℤ◌, ◌<ℤ◌, ◌+ℤ◌, ◌*ℤ◌, int_le, int_lt, unsigned_abs, max, min, List, [], ◌∷◌, ◌++◌, map, Result, Ok, Err}
use Rattle.c_base.specs.declared.operators.BinOp.{BinOp}
use Rattle.c_base.specs.declared.operators.BinOp.TheVariants.{Add, Sub, Mul, Div, Rem}
use Rattle.c_base.specs.declared.kind.Kind.{Kind}
use Rattle.c_base.specs.Integers.{residue, least_of, greatest_of}
use Rattle.c_base.specs.Operators.{operated, is_zero}
use Rattle.ival_core.specs.declared.value.Progression.{Progression}
use Rattle.ival_core.specs.declared.value.Shape.{Shape}
use Rattle.ival_core.specs.declared.value.Shape.TheVariants.{Few, Many}
use Rattle.ival_core.specs.Sets.{apart, steps_from, IsLongRun}
use Rattle.ival_core.specs.Joined.{joined, with_number, with_numbers}
use Rattle.ival_arith.specs.declared.pieces.Change.TheVariants.{Negative, Times}
use Rattle.ival_arith.specs.Pieces.{none, gathered, run, all_changed, clipped, run_negated, run_residues, cycle}
use Rattle.ival_arith.specs.Sums.{firsts, sums}
use Rattle.ival_arith.specs.Kinds.{holds_number}
use Rattle.ival_arith.specs.declared.divisions.Part.{Part}
use Rattle.ival_arith.specs.declared.divisions.Part.TheVariants.{Quotient, Remainder}
use Rattle.ival_arith.specs.Floors.{floored}

-- the result, if there is one, before others
abbrev pub kept : Result ℤ Kind → List ℤ → List ℤ
kept (Ok n) ns = n ∷ ns
kept (Err kind) ns = ns

-- the results of x with each of ys
unfoldable pub row : BinOp → Bool → ℕ → ℤ → List ℤ → List ℤ
row op signed width x [] = []
row op signed width x (y ∷ ys) = kept (operated op signed width x y) (row op signed width x ys)

-- the results of each of xs with each of ys
unfoldable pub rows : BinOp → Bool → ℕ → List ℤ → List ℤ → List ℤ
rows op signed width [] ys = []
rows op signed width (x ∷ xs) ys = row op signed width x ys ++ rows op signed width xs ys

-- what the numbers of a set leave modulo m
unfoldable pub residues : ℕ → Shape → Shape
residues m (Few v) = gathered (map (λ n. pos (residue m n)) v.items)
residues m (Many p) = run_residues m p

-- sums in a type: those that it can hold, or all of them reduced
unfoldable pub added : Bool → ℕ → Shape → Shape → Shape
added true width s t = sums (least_of true width) (greatest_of true width) s t
added false width s t = residues (2 ^ width) (sums (neg_ℤ (pos (2 ^ 120))) (pos (2 ^ 120)) s t)

-- the products of the numbers of a run with y that lie from -below to above
unfoldable pub product_line : ℕ → ℕ → Progression → ℤ → Shape
product_line below above p y =
    cond (is_zero y) (Few (record { items = pos 0 ∷ [] }))
    (all_changed (Times (unsigned_abs y))
    (clipped (neg_ℤ (pos (below / unsigned_abs y))) (pos (above / unsigned_abs y)) (cond (int_lt y (pos 0)) (run_negated p) (Many p))))

-- the products of the numbers of a run with y, in a type
unfoldable pub line : Bool → ℕ → Progression → ℤ → Shape
line true width p y = product_line (2 ^ (width - 1)) (2 ^ (width - 1) - 1) p y
line false width p y =
    cycle (2 ^ width) (residue (2 ^ width) (p.low *ℤ y)) ((p.stride * unsigned_abs y) % 2 ^ width) (apart p.low p.high / p.stride)

-- with the products of the numbers of a run with each of ys
unfoldable pub lines_onto : Bool → ℕ → Shape → Progression → List ℤ → Shape
lines_onto signed width all p [] = all
lines_onto signed width all p (y ∷ ys) = lines_onto signed width (joined all (line signed width p y)) p ys

-- how far numbers between the bounds are from 0, and whether none is negative
abbrev pub extent : Option (ℤ × ℤ) → ℕ
extent None = 0
extent (Some ends) = max (unsigned_abs ends.0) (unsigned_abs ends.1)

abbrev pub is_natural : Option (ℤ × ℤ) → Bool
is_natural None = true
is_natural (Some ends) = int_le (pos 0) ends.0

-- the numbers of the type that are at most m away from 0, without the negative ones where there are none
unfoldable pub spread : Bool → ℕ → Bool → ℕ → Shape
spread signed width natural m =
    run (int_max (least_of signed width) (cond natural (pos 0) (neg_ℤ (pos m)))) (int_min (greatest_of signed width) (pos m)) 1

-- how far from 0 the nearest number that is not 0 is, of the first above 0 and the last below it
abbrev pub nearest : Option (ℤ × ℤ) → Option (ℤ × ℤ) → ℕ
nearest None None = 1
nearest None (Some d) = unsigned_abs d.1
nearest (Some u) None = unsigned_abs u.0
nearest (Some u) (Some d) = min (unsigned_abs u.0) (unsigned_abs d.1)

unfoldable pub least_factor : Shape → ℕ
least_factor s = nearest (bounds_of (clipped (pos 1) (pos (2 ^ 120)) s)) (bounds_of (clipped (neg_ℤ (pos (2 ^ 120))) (negsuc 0) s))

-- with the products of the numbers of a run with each number of a set, if these are at most 64
unfoldable pub set_lines : Bool → ℕ → Shape → Progression → Shape → Option Shape
set_lines signed width all q (Few v) = Some (lines_onto signed width all q v.items)
set_lines signed width all q (Many p) =
    cond (nat_lt (apart p.low p.high / p.stride) 64) (Some (lines_onto signed width all q (steps_from p.low p.stride (apart p.low p.high / p.stride + 1)))) None

-- the products with 0
abbrev pub zero_products : Shape → Shape
zero_products s = cond (holds_number s (pos 0)) (Few (record { items = pos 0 ∷ [] })) none

abbrev pub or_else : Option Shape → Shape → Shape
or_else None rest = rest
or_else (Some s) rest = s

-- only numbers that are not far from 0 have products of two runs in a signed type, apart from those with 0
unfoldable pub near_products : ℕ → Shape → Progression → Option Shape
near_products width s q =
    set_lines true width (zero_products (Many q)) q
    (clipped (neg_ℤ (pos (2 ^ (width - 1) / least_factor (Many q)))) (pos (2 ^ (width - 1) / least_factor (Many q))) s)

abbrev pub product_hull : Bool → ℕ → Shape → Shape → Shape
product_hull signed width s t = spread signed width (is_natural (bounds_of s) && is_natural (bounds_of t)) (min (extent (bounds_of s) * extent (bounds_of t)) (2 ^ 65))

-- 8 steps of a run make no difference to its products with this factor modulo m
abbrev pub repeats : ℕ → ℕ → ℕ → Bool
repeats m stride factor = (8 * stride * factor) % m == 0

-- nor to those with any number of the other run
abbrev pub all_repeat : ℕ → Progression → Progression → Bool
all_repeat m p q =
    (repeats m p.stride (unsigned_abs q.low) && repeats m p.stride (unsigned_abs q.low + q.stride)) && (repeats m q.stride (unsigned_abs p.low) && repeats m q.stride (unsigned_abs p.low + p.stride))

-- a long run of numbers from 0 on below 2 to the 64
pub record IsShortRun (p : Progression) : Type 0 where
  pub long : IsLongRun p
  pub above : pos 0 ≤ℤ p.low
  pub below : p.high <ℤ pos (2 ^ 64)

-- what an operator gives on few numbers
abbrev pub few_value : BinOp → Bool → ℕ → Shape → Shape → Shape
few_value op signed width (Few v) (Few u) = gathered (rows op signed width v.items u.items)
few_value op signed width s t = none

-- products of two runs in a type
unfoldable pub runs_multiplied : Bool → ℕ → Progression → Progression → Shape
runs_multiplied true width p q = or_else (near_products width (Many p) q) (product_hull true width (Many p) (Many q))
runs_multiplied false width p q =
    cond (all_repeat (2 ^ width) p q) (gathered (rows Mul false width (firsts p) (firsts q))) (product_hull false width (Many p) (Many q))

-- products in a type, where one of the sets is long
unfoldable pub multiplied : Bool → ℕ → Shape → Shape → Shape
multiplied signed width (Many p) (Few u) = lines_onto signed width none p u.items
multiplied signed width (Few v) (Many q) = lines_onto signed width none q v.items
multiplied signed width (Few v) (Few u) = none
multiplied signed width (Many p) (Many q) = runs_multiplied signed width p q

-- quotients or remainders by d of numbers that are not negative
abbrev pub natural_part : Part → ℕ → Shape → Shape
natural_part Quotient d s = floored d s
natural_part Remainder d s = residues d s

-- the same of any numbers: the sign is that of what is divided
unfoldable pub parts : Part → ℕ → Shape → Shape
parts part d s =
    joined (natural_part part d (clipped (pos 0) (pos (2 ^ 120)) s))
    (all_changed Negative (natural_part part d (clipped (pos 1) (pos (2 ^ 120)) (all_changed Negative s))))

abbrev pub is_minus_one : ℤ → Bool
is_minus_one y = int_lt y (pos 0) && int_le (negsuc 0) y

-- the numbers whose quotient by y is of the type
abbrev pub dividends : Bool → ℕ → ℤ → Shape → Shape
dividends signed width y s = cond (is_minus_one y) (clipped (neg_ℤ (greatest_of signed width)) (greatest_of signed width) s) s

-- a negative divisor turns the sign of quotients
abbrev pub oriented : Part → ℤ → Shape → Shape
oriented Quotient y s = cond (int_lt y (pos 0)) (all_changed Negative s) s
oriented Remainder y s = s

-- the quotients or remainders of the numbers of a set by y, in a type
unfoldable pub part_line : Part → Bool → ℕ → Shape → ℤ → Shape
part_line part signed width s y = cond (is_zero y) none (parts part (unsigned_abs y) (oriented part y (dividends signed width y s)))

-- with those by each of ys
unfoldable pub part_lines : Part → Bool → ℕ → Shape → Shape → List ℤ → Shape
part_lines part signed width all s [] = all
part_lines part signed width all s (y ∷ ys) = part_lines part signed width (joined all (part_line part signed width s y)) s ys

-- where they lie
unfoldable pub part_spread : Part → Bool → ℕ → Shape → Shape → Shape
part_spread Quotient signed width s t = spread signed width (is_natural (bounds_of s) && is_natural (bounds_of t)) (extent (bounds_of s) / least_factor t)
part_spread Remainder signed width s t = spread signed width (is_natural (bounds_of s)) (min (extent (bounds_of s)) (extent (bounds_of t) - 1))

abbrev pub op_of : Part → BinOp
op_of Quotient = Div
op_of Remainder = Rem

-- a number between such bounds is farther from 0 than x
abbrev pub is_far : ℤ → Option (ℤ × ℤ) → Bool
is_far x None = false
is_far x (Some b) = int_lt b.0 (neg_ℤ (pos (unsigned_abs x))) || int_lt (pos (unsigned_abs x)) b.1

-- what x gives, divided by such a number
abbrev pub far_part : Part → ℤ → ℤ
far_part Quotient x = pos 0
far_part Remainder x = x

abbrev pub with_far : Part → ℤ → Shape → Shape → Shape
with_far part x t s = cond (is_far x (bounds_of t)) (with_number s (far_part part x)) s

-- how many steps of stride up from y on keep the quotient of y, in a number of this size
abbrev pub same_quotients : ℕ → ℤ → ℕ → ℕ
same_quotients size y stride =
    cond (is_zero y) 0
    (cond (int_lt y (pos 0)) ((unsigned_abs y - (size / (size / unsigned_abs y + 1) + 1)) / stride)
    ((size / max (size / unsigned_abs y) 1 - unsigned_abs y) / stride))

-- how many steps of stride up from y on are passed over, since they give what y gives
abbrev pub same_results : Part → ℤ → ℤ → ℕ → ℕ
same_results Quotient x y stride = same_quotients (unsigned_abs x) y stride
same_results Remainder x y stride = 0

-- a set, unless it has more than 8 numbers
abbrev pub few_alone : Shape → Option Shape
few_alone (Few v) = Some (Few v)
few_alone (Many p) = None

-- a set, unless it has more than 8 numbers while 64 or more are left to try
abbrev pub going_on : ℕ → Shape → Option Shape
going_on left s = cond (nat_lt left 64) (Some s) (few_alone s)

abbrev pub and_then : Option Shape → (Shape → Option Shape) → Option Shape
and_then None f = None
and_then (Some s) f = f s

-- the number at a place of a run
abbrev pub number_at : Progression → ℕ → ℤ
number_at p at = p.low +ℤ pos (at * p.stride)

-- s with what x gives with a number
abbrev pub with_outcome : Part → Bool → ℕ → ℤ → ℤ → Shape → Shape
with_outcome part signed width x y s = with_numbers s (kept (operated (op_of part) signed width x y) [])

-- s with the results of x with the numbers of a run from a place on, of which so many are left and `skip` are passed over,
-- unless there are more than 8 results while 64 or more are left
unfoldable pub with_places : ℕ → ℕ → Part → Bool → ℕ → ℤ → Progression → ℕ → Shape → Option Shape
with_places zero skip part signed width x p at s = Some s
with_places (suc left) (suc skip) part signed width x p at s = with_places left skip part signed width x p (suc at) s
with_places (suc left) zero part signed width x p at s =
    and_then (going_on left (with_outcome part signed width x (number_at p at) s)) (λ t. with_places left (same_results part x (number_at p at) p.stride) part signed width x p (suc at) t)

-- s with the results of x with each number of another set, unless a long set gives more than 8
unfoldable pub with_divisors : Part → Bool → ℕ → ℤ → Shape → Shape → Option Shape
with_divisors part signed width x (Few v) s = Some (with_numbers s (row (op_of part) signed width x v.items))
with_divisors part signed width x (Many p) s = with_places (apart p.low p.high / p.stride + 1) 0 part signed width x p 0 s

-- s with the quotients or remainders of x by the numbers of t
unfoldable pub number_divided : Part → Bool → ℕ → Shape → Shape → ℤ → Option Shape
number_divided part signed width t s x =
    with_divisors part signed width x (clipped (neg_ℤ (pos (unsigned_abs x))) (pos (unsigned_abs x)) t) (with_far part x t s)

-- the same of each of xs
unfoldable pub numbers_divided : Part → Bool → ℕ → Shape → Option Shape → List ℤ → Option Shape
numbers_divided part signed width t s [] = s
numbers_divided part signed width t None (x ∷ xs) = None
numbers_divided part signed width t (Some s) (x ∷ xs) = numbers_divided part signed width t (number_divided part signed width t s x) xs

-- quotients or remainders in a type, where one of the sets is long
unfoldable pub divided : Part → Bool → ℕ → Shape → Shape → Shape
divided part signed width s (Few u) = part_lines part signed width none s u.items
divided part signed width (Few v) (Many q) =
    or_else (numbers_divided part signed width (Many q) (Some none) v.items) (part_spread part signed width (Few v) (Many q))
divided part signed width (Many p) (Many q) = part_spread part signed width (Many p) (Many q)

-- results in a type, where one of the sets is long
unfoldable pub long_value : BinOp → Bool → ℕ → Shape → Shape → Shape
long_value Add signed width s t = added signed width s t
long_value Sub signed width s t = added signed width s (all_changed Negative t)
long_value Mul signed width s t = multiplied signed width s t
long_value Div signed width s t = divided Quotient signed width s t
long_value Rem signed width s t = divided Remainder signed width s t
long_value op signed width s t = none

-- what an operator gives on two sets of numbers of a type
unfoldable pub value : BinOp → Bool → ℕ → Shape → Shape → Shape
value op signed width (Few v) (Few u) = gathered (rows op signed width v.items u.items)
value op signed width (Few v) (Many q) = long_value op signed width (Few v) (Many q)
value op signed width (Many p) t = long_value op signed width (Many p) t
