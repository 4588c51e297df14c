use Rattle.std.proofs.Common.{◌≡◌, ◌+◌, drop}
use Rattle.c_lex.specs.Numbers.{digits_at}
use Rattle.c_lex.proofs.number.count_digits.Given as goal

-- the bytes so far are digits
abbrev pub invariant-loop-byte : goal.invariant-loop-byte
invariant-loop-byte l = record {
  count : l.count ≡ l.byte-index;
  left : l.byte-index + digits_at l.radix (drop l.byte-index l.bytes) ≡ digits_at l.radix l.bytes;
}
