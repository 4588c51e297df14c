use Rattle.std.proofs.Common.{◌≡◌, ◌∷◌, [], drop, map}
use Rattle.grammar.specs.Reading.{groups}
use Rattle.c_grammar.specs.Leaves.{C}
use Rattle.c_unit_tree.specs.Views.{arm_kids}
use Rattle.first_program.specs.SourceViews.{tree_of}
use Rattle.first_units.specs.Language.{arms_in, stmts_in}
use Rattle.first_units.specs.Views.{arm_of, items_kids}
use Rattle.first_units.proofs.statements.+statements.Given as goal

abbrev pub invariant-arms_in-loop-each : goal.invariant-arms_in-loop-each
invariant-arms_in-loop-each l =
    arms_in l.variables.keys (map arm_of l.found) l.spans.items (groups C (map arm_kids (drop l.each-index l.all)))
    ≡ arms_in l.variables.keys (arm_of l.fn.first ∷ []) l.initial.spans.items (groups C (map arm_kids l.all))

abbrev pub invariant-statements_in-loop-each : goal.invariant-statements_in-loop-each
invariant-statements_in-loop-each l =
    stmts_in l.variables.keys (map tree_of l.found) l.spans.items (items_kids (drop l.each-index l.all)) ≡ stmts_in l.variables.keys [] l.initial.spans.items (items_kids l.all)
