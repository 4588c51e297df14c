use Rattle.std.proofs.Common.{arith, rules, ◌≡◌, ◌*◌, ◌∙◌, ap, replicate, false}
use Rattle.c_memory.specs.Values as values
use Rattle.stepper_values.proofs.Cells.{filled-next}
use Rattle.stepper_start.proofs.memories.zeros.Goals as goal

pub loop-preserved : goal.loop-preserved
loop-preserved c =
    filled-next (values.Bit false values.nowhere 0) c.zero_cell.result c.loop.cells c.push.new.self c.loop.counter c.zero_cell.ensures c.loop.invariant (search rules)

pub returns : goal.returns
returns c = let all : c.loop.counter ≡ 8 * c.args.bytes = omega arith in c.loop.invariant ∙ ap (λ n. replicate n (values.Bit false values.nowhere 0)) all
