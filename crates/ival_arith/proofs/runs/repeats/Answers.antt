use Rattle.std.proofs.Common.{◌*◌, arith}
use Rattle.ival_arith.proofs.CrossCodes.{narrow_product}
use Rattle.ival_arith.proofs.runs.repeats.Goals as goal

pub overflow_mul-result : goal.overflow_mul-result
overflow_mul-result c = let h = c.requires.stride in omega arith

pub overflow_mul-result-2 : goal.overflow_mul-result-2
overflow_mul-result-2 c = let h = narrow_product (8 * c.args.stride) c.args.factor c.requires.stride c.requires.factor in omega arith
