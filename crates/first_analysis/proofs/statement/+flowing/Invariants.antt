use Rattle.std.proofs.Common.{◌≡◌, ◌+◌, List, ◌++◌, length, take, drop, map}
use Rattle.first_program.specs.Source.{Stmt, Nothing, count, count_all}
use Rattle.first_program.specs.SourceViews.{tree_of, trees_of}
use Rattle.first_analysis.specs.Contents.{HoldsReached}
use Rattle.first_analysis.specs.Flow.{Flow, FlowAll}
use Rattle.first_analysis.specs.Tables.{Reached, PlaceSpot, Rises, spot_of, choice}
use Rattle.first_analysis.proofs.statement.+flowing.Given as goal

abbrev pub invariant-take_arms-loop-arm : goal.invariant-take_arms-loop-arm
invariant-take_arms-loop-arm l = record {
  within : l.at + count (choice (drop l.arm-index l.arms) Nothing) ≡ length l.places;
  completes : (last : Stmt) (rest : List PlaceSpot) (right after : Reached) → Flow Reached HoldsReached (choice (drop l.arm-index l.arms) last) rest l.state right →
      Rises l.out after → Rises right after → Flow Reached HoldsReached (choice l.arms last) (take l.at (map spot_of l.places) ++ rest) l.fn.before after;
}

abbrev pub invariant-repeat-loop : goal.invariant-repeat-loop
invariant-repeat-loop l = record { arrived : Rises l.before l.head.row; long : length l.places ≡ count (tree_of l.body) }

abbrev pub invariant-statements-loop-stmt : goal.invariant-statements-loop-stmt
invariant-statements-loop-stmt l = record {
  within : l.at + count_all (trees_of (drop l.stmt-index l.stmts)) ≡ length l.places;
  completes : (rest : List PlaceSpot) (after : Reached) → FlowAll Reached HoldsReached (trees_of (drop l.stmt-index l.stmts)) rest l.row after →
      FlowAll Reached HoldsReached (trees_of l.stmts) (take l.at (map spot_of l.places) ++ rest) l.fn.before after;
}
