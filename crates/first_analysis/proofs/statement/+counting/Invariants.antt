use Rattle.std.proofs.Common.{◌≡◌, ◌+◌, ◌<◌, ◌^◌, drop}
use Rattle.first_program.specs.Source.{Nothing, count, count_all}
use Rattle.first_program.specs.SourceViews.{trees_of}
use Rattle.first_analysis.specs.Tables.{choice}
use Rattle.first_analysis.proofs.statement.+counting.Given as goal

abbrev pub invariant-count_arms-loop-arm : goal.invariant-count_arms-loop-arm
invariant-count_arms-loop-arm l =
    count (choice l.arms Nothing) < 2 ^ 62 → l.total + count (choice (drop l.arm-index l.arms) Nothing) ≡ count (choice l.arms Nothing)

abbrev pub invariant-count_list-loop-stmt : goal.invariant-count_list-loop-stmt
invariant-count_list-loop-stmt l =
    count_all (trees_of l.stmts) < 2 ^ 62 → l.total + count_all (trees_of (drop l.stmt-index l.stmts)) ≡ count_all (trees_of l.stmts)
