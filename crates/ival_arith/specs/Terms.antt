-- Products, quotients and remainders that neither wrap nor leave the numbers that an `Ival` may hold.
use Rattle.std.specs.Prelude.{◌<◌, ℕ, ◌-◌, ◌*◌, ◌^◌, nat_lt, Bool, false, cond, ◌&&◌, ℤ, pos, neg_ℤ, ◌*ℤ◌, int_lt, int_div, int_rem, unsigned_abs, min, List, [], ◌∷◌, ◌++◌, Option, Some, None}
use Rattle.c_base.specs.Operators.{is_zero}
use Rattle.ival_core.specs.declared.value.Ival.{Ival}
use Rattle.ival_core.specs.declared.value.Shape.{Shape}
use Rattle.ival_core.specs.declared.value.Shape.TheVariants.{Few, Many}
use Rattle.ival_core.specs.Sets.{IsNumber}
use Rattle.ival_core.specs.Ivals.{Holds}
use Rattle.ival_core.specs.Joined.{joined}
use Rattle.ival_core.specs.Views.{bounds_of}
use Rattle.ival_arith.specs.declared.terms.Term.{Term}
use Rattle.ival_arith.specs.declared.terms.Term.TheVariants.{Product, Quotient, Remainder}
use Rattle.ival_arith.specs.declared.pieces.Change.TheVariants.{Negative, Times}
use Rattle.ival_arith.specs.Pieces.{none, gathered, run, all_changed}
use Rattle.ival_arith.specs.Values.{extent, is_natural}
use Rattle.ival_arith.specs.Kinds.{holds_number, holds_some, products_leave}

abbrev pub term : Term → ℤ → ℤ → ℤ
term Product x y = x *ℤ y
term Quotient x y = int_div x y
term Remainder x y = int_rem x y

-- where there is such a term
abbrev pub IsDefined : Term → ℤ → ℤ → Type 0
IsDefined Product x y = IsNumber (x *ℤ y)
IsDefined Quotient x y = 0 < unsigned_abs y
IsDefined Remainder x y = 0 < unsigned_abs y

-- the terms of x with each of ys
unfoldable pub terms : Term → ℤ → List ℤ → List ℤ
terms op x [] = []
terms op x (y ∷ ys) = term op x y ∷ terms op x ys

-- the terms of each of xs with each of ys
unfoldable pub crossed : Term → List ℤ → List ℤ → List ℤ
crossed op [] ys = []
crossed op (x ∷ xs) ys = terms op x ys ++ crossed op xs ys

-- the numbers that are at most m away from 0, without the negative ones where there are none
unfoldable pub around : Bool → ℕ → Shape
around natural m = run (cond natural (pos 0) (neg_ℤ (pos m))) (pos m) 1

-- the numbers of s, each y times
unfoldable pub scaled : ℤ → Shape → Shape
scaled y s =
    cond (is_zero y) (Few (record { items = pos 0 ∷ [] }))
    (cond (nat_lt (unsigned_abs y) (2 ^ 64))
    (all_changed (Times (unsigned_abs y)) (cond (int_lt y (pos 0)) (all_changed Negative s) s))
    (around false (min (extent (bounds_of s) * unsigned_abs y) (2 ^ 120))))

-- with the products of the numbers of s and each of ys
unfoldable pub scaled_onto : Shape → Shape → List ℤ → Shape
scaled_onto all s [] = all
scaled_onto all s (y ∷ ys) = scaled_onto (joined all (scaled y s)) s ys

-- the terms of two sets, one of them long
unfoldable pub long_term : Term → Shape → Shape → Shape
long_term Product (Few v) t = scaled_onto none t v.items
long_term Product (Many p) (Few u) = scaled_onto none (Many p) u.items
long_term Product (Many p) (Many q) =
    around (is_natural (bounds_of (Many p)) && is_natural (bounds_of (Many q))) (min (extent (bounds_of (Many p)) * extent (bounds_of (Many q))) (2 ^ 120))
long_term Quotient s t = around (is_natural (bounds_of s) && is_natural (bounds_of t)) (extent (bounds_of s))
long_term Remainder s t = around (is_natural (bounds_of s)) (min (extent (bounds_of s)) (extent (bounds_of t) - 1))

-- the terms of two sets
unfoldable pub term_value : Term → Shape → Shape → Shape
term_value op (Few v) (Few u) = gathered (crossed op v.items u.items)
term_value op (Few v) (Many q) = long_term op (Few v) (Many q)
term_value op (Many p) t = long_term op (Many p) t

-- some term of two sets is not defined
abbrev pub lacks : Term → Shape → Shape → Bool
lacks Product s t = products_leave (neg_ℤ (pos (2 ^ 120))) (pos (2 ^ 120)) (bounds_of s) (bounds_of t)
lacks Quotient s t = holds_some (bounds_of s) && holds_number t (pos 0)
lacks Remainder s t = holds_some (bounds_of s) && holds_number t (pos 0)

unfoldable pub exact_term : Term → Shape → Shape → Option Shape
exact_term op s t = cond (lacks op s t) None (Some (term_value op s t))

-- each term of numbers of a and b is defined
abbrev pub AllDefined : Term → Ival → Ival → Type 0
AllDefined op a b = (x y : ℤ) → Holds a x → Holds b y → IsDefined op x y

-- some term of numbers of a and b is not defined
pub record Lacks (op : Term) (a b : Ival) : Type 0 where
  pub left : ℤ
  pub right : ℤ
  pub in_left : Holds a left
  pub in_right : Holds b right
  pub undefined : IsDefined op left right → ⊥
