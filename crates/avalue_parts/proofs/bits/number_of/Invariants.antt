use Rattle.std.proofs.Common.{◌≡◌, ◌≤◌, drop, length}
use Rattle.c_base.specs.Integers.{number_of_bits}
use Rattle.avalue_parts.proofs.bits.number_of.Given as goal

abbrev pub invariant-loop-left : goal.invariant-loop-left
invariant-loop-left l = record {
  value : l.number ≡ number_of_bits (drop l.left l.bits);
  inside : l.left ≤ length l.bits;
}

abbrev pub decreases-loop-left : goal.decreases-loop-left
decreases-loop-left l = l.left
