use Rattle.std.proofs.Common.{◌≡◌, ◌+◌, ◌-◌, ◌%◌, ◌<◌, pos, to_z, ap, ◌∙◌, arith}
use Rattle.std.specs.Int.{w128}
use Rattle.std.proofs.lemmas.Int.{to_z_pos}
use Rattle.ival_core.specs.declared.value.Ival.{Ival}
use Rattle.ival_core.specs.Joined.{with_number, with_numbers}
use Rattle.ival_arith.specs.Pieces.{residues_from}
use Rattle.ival_arith.proofs.Codes.{with_residues-step, with_residues-none}
use Rattle.ival_arith.proofs.pieces.+with_residues.Goals as goal

pub returns-then-count-eq0 : goal.returns-then-count-eq0
returns-then-count-eq0 t c = with_residues-none c.args.set.now.shape c.copy.result.shape c.args.m c.args.first c.args.stride c.args.count c.if-count-eq0.true (ap (λ (v : Ival). v.shape) c.copy.ensures)

pub returns : goal.returns
returns t c =
    let small : c.args.first % c.args.m < c.args.m = omega arith in
    let e : to_z w128 (c.args.first % c.args.m) ≡ pos (c.args.first % c.args.m) = to_z_pos w128 (c.args.first % c.args.m) (omega arith) in
    with_residues-step c.args.set.now.shape c.with_residues.result.shape c.args.m c.args.first c.args.stride c.args.count (omega arith)
    (c.with_residues.ensures ∙ ap (λ s. with_numbers s (residues_from c.args.m (c.args.first + c.args.stride) c.args.stride (c.args.count - 1))) (c.with-more.ensures ∙ ap (with_number c.args.set.now.shape) e))
