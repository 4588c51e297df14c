use Rattle.std.specs.Prelude.{◌-ℤ◌}
use Rattle.aops_pointers.proofs.Images.{image_same}
use Rattle.aops_relations.proofs.differences.distances.Goals as goal

pub returns : goal.returns
returns c = image_same (λ m n. m -ℤ n) c.exact_sub.result c.args.a.now c.args.b.now c.exact_sub.ensures.stays c.exact_sub.ensures.least c.exact_sub.ensures.leaves
