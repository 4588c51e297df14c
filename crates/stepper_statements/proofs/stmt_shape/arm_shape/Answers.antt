use Rattle.std.proofs.Common.{◌≡◌, get_or, subst}
use Rattle.stepper_statements.proofs.Arms.{arm_at}
use Rattle.stepper_statements.proofs.stmt_shape.arm_shape.Goals as goal

pub returns : goal.returns
returns c =
    let arm = c.index-as_slice-n.result in
    arm_at c.args.arms.now c.args.n c.arm_number.result arm _ c.requires
    (subst (λ xs. arm ≡ get_or xs c.args.n arm) c.as_slice.ensures c.index-as_slice-n.is) c.arm_number.ensures
