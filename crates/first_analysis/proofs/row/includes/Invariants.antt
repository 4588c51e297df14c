use Rattle.std.proofs.Common.{ℕ, ◌<◌, ◌≤◌, length, get_or}
use Rattle.first_analysis.specs.declared.content.Content.{Content}
use Rattle.first_analysis.specs.Contents.{Includes}
use Rattle.first_analysis.proofs.row.includes.Given as goal

abbrev pub invariant-loop-index : goal.invariant-loop-index
invariant-loop-index l = record {
  within : l.index ≤ length l.row;
  each : (k : ℕ) (d : Content) → k < l.index → Includes (get_or l.kept k d) (get_or l.row k d);
}
