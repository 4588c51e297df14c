use Rattle.std.proofs.Common.{ℕ, ◌<◌, length, get_or, ℤ, Option}
use Rattle.first_analysis.specs.declared.content.Content.{Content}
use Rattle.first_analysis.specs.Contents.{Holds, FitsInt}
use Rattle.first_analysis.proofs.row.everything.Given as goal

abbrev pub invariant-loop : goal.invariant-loop
invariant-loop l = (k : ℕ) (d : Content) (x : Option ℤ) → k < length l.row → FitsInt x → Holds (get_or l.row k d) x
