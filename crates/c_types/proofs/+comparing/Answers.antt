use Rattle.std.proofs.Common.{◌≡◌, ◌∙◌, sym, ◌≤◌, ◌<◌, length, arith}
use Rattle.c_types.proofs.Lists.{ends_first, ends_second, ends_both}
use Rattle.c_types.proofs.+comparing.Goals as goal

pub compatible::compatible_lists-returns-then-at-b : goal.compatible::compatible_lists-returns-then-at-b
compatible::compatible_lists-returns-then-at-b t c =
    sym (ends_second c.args.a.now c.args.b.now c.loop-at.at (omega arith) (omega arith)) ∙ c.loop-at.invariant

pub compatible::compatible_lists-returns-then-at-b-2 : goal.compatible::compatible_lists-returns-then-at-b-2
compatible::compatible_lists-returns-then-at-b-2 t c =
    sym (ends_first c.args.a.now c.args.b.now c.loop-at.at (omega arith) (omega arith)) ∙ c.loop-at.invariant

pub compatible::compatible_lists-returns : goal.compatible::compatible_lists-returns
compatible::compatible_lists-returns t c =
    sym (ends_both c.args.a.now c.args.b.now c.loop-at.at (omega arith) (omega arith)) ∙ c.loop-at.invariant
