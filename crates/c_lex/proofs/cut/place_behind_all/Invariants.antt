use Rattle.c_lex.proofs.Places.{IsPlace}
use Rattle.c_lex.proofs.cut.place_behind_all.Given as goal

abbrev pub invariant-loop-byte : goal.invariant-loop-byte
invariant-loop-byte l = IsPlace l.fn.at l.piece l.byte-index l.place
