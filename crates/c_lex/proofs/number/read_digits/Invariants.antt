use Rattle.std.proofs.Common.{◌≡◌, ◌≤◌, drop}
use Rattle.c_lex.specs.Numbers.{number_after}
use Rattle.c_lex.proofs.number.read_digits.Given as goal

abbrev pub invariant-loop-byte : goal.invariant-loop-byte
invariant-loop-byte l = record {
  small : l.value ≤ 340282366920938463463374607431768211455;
  left : number_after l.fn.radix l.value (drop l.byte-index l.digits) ≡ number_after l.fn.radix 0 l.digits;
}
