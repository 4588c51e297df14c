use Rattle.std.proofs.Common.{◌≡◌, None, drop, map}
use Rattle.std.specs.Prelude.{option_map}
use Rattle.std.specs.Borrow.{Bor}
use Rattle.grammar.specs.Reading.{groups}
use Rattle.c_grammar.specs.Leaves.{C}
use Rattle.c_unit_tree.specs.Views.{external_kids, external_tree}
use Rattle.c_unit_tree.specs.declared.unit.External.{External}
use Rattle.first_units.specs.Language.{lone_in}
use Rattle.first_units.proofs.programs.lone_in.Given as goal

abbrev pub invariant-loop-each : goal.invariant-loop-each
invariant-loop-each l =
    lone_in (option_map (λ (e : Bor External). external_tree e.now) l.found) (groups C (map external_kids (drop l.each-index l.all))) ≡ lone_in None (groups C (map external_kids l.all))
