use Rattle.std.proofs.Common.{ℕ, ◌<◌, length, get_or, None}
use Rattle.first_analysis.specs.declared.content.Content.{Content}
use Rattle.first_analysis.specs.Contents.{Holds}
use Rattle.first_analysis.proofs.row.unwritten.Given as goal

abbrev pub invariant-loop : goal.invariant-loop
invariant-loop l = (k : ℕ) (d : Content) → k < length l.row → Holds (get_or l.row k d) None
