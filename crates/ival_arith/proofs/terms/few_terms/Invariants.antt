use Rattle.std.proofs.Common.{◌≡◌, drop}
use Rattle.ival_core.specs.Joined.{with_numbers}
use Rattle.ival_arith.specs.Pieces.{gathered}
use Rattle.ival_arith.specs.Terms.{crossed}
use Rattle.ival_arith.proofs.terms.few_terms.Given as goal

abbrev pub invariant-loop-x : goal.invariant-loop-x
invariant-loop-x l = with_numbers l.all.shape (crossed l.op (drop l.x-index l.numbers) l.others) ≡ gathered (crossed l.op l.numbers l.others)
