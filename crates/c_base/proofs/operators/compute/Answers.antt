use Rattle.std.proofs.Common.{◌∙◌, to_z, of_z}
use Rattle.std.specs.Int.{w128}
use Rattle.c_base.specs.Operators.{operated}
use Rattle.c_base.proofs.Singles.{passed}
use Rattle.c_base.proofs.Within.{operated_within}
use Rattle.c_base.proofs.operators.compute.Goals as goal

pub returns-clause-within : goal.returns-clause-within
returns-clause-within c =
    let format = c.format_of.result in
    operated_within c.args.op format.signed format.width c.args.a c.args.b c.operate.result format.room c.requires.left
    (c.operate.ensures
    ∙ passed (λ n. operated c.args.op format.signed format.width n (to_z w128 (of_z w128 c.args.b))) c.args.a c.ranges.a
    ∙ passed (λ n. operated c.args.op format.signed format.width c.args.a n) c.args.b c.ranges.b)
