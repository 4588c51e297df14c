-- The numbers of sets as values of integer types of any width (C11 6.3.1.3).
use Rattle.std.specs.Prelude.{ℕ, ◌-◌, ◌^◌, Bool, true, false, cond, pos, neg_ℤ, ◌+ℤ◌, int_le}
use Rattle.c_base.specs.Integers.{greatest_of}
use Rattle.c_base.specs.Operators.{reduced}
use Rattle.ival_core.specs.declared.value.Progression.{Progression}
use Rattle.ival_core.specs.declared.value.Shape.{Shape}
use Rattle.ival_core.specs.declared.value.Shape.TheVariants.{Few, Many}
use Rattle.ival_core.specs.Sets.{apart}
use Rattle.ival_core.specs.Joined.{joined}
use Rattle.ival_arith.specs.declared.pieces.Change.TheVariants.{Plus}
use Rattle.ival_arith.specs.Pieces.{run, all_changed, clipped}
use Rattle.ival_arith.specs.Values.{residues}

-- what patterns of bits stand for
unfoldable pub resigned : Bool → ℕ → Shape → Shape
resigned false bits s = s
resigned true bits s =
    joined (clipped (pos 0) (pos (2 ^ (bits - 1) - 1)) s) (all_changed (Plus (neg_ℤ (pos (2 ^ bits)))) (clipped (pos (2 ^ (bits - 1))) (pos (2 ^ bits - 1)) s))

-- a run moves, where it does not pass the greatest number then
unfoldable pub run_wrapped : Bool → ℕ → Progression → Shape
run_wrapped signed bits p =
    cond (int_le (reduced signed bits p.low +ℤ pos (apart p.low p.high)) (greatest_of signed bits))
    (run (reduced signed bits p.low) (reduced signed bits p.low +ℤ pos (apart p.low p.high)) p.stride)
    (resigned signed bits (residues (2 ^ bits) (Many p)))

unfoldable pub wrapped : Bool → ℕ → Shape → Shape
wrapped signed bits (Few v) = resigned signed bits (residues (2 ^ bits) (Few v))
wrapped signed bits (Many p) = run_wrapped signed bits p
