use Rattle.std.proofs.Common.{rules, ◌*ℤ◌, FitsSigned}
use Rattle.ival_arith.proofs.kinds.product.Goals as goal
use Rattle.std.proofs.Common.{refl, arith}
use Rattle.std.specs.Int.{w128}
use Rattle.std.proofs.lemmas.Int.{ints, to_z-of_z}
use Rattle.ival_arith.proofs.KindCodes.{short_product}

-- src/kinds.rt:41:1
pub returns : goal.returns
returns c = let h = short_product c.args.a c.args.b c.requires.left c.requires.right in let i = h.least in let j = h.greatest in let f : FitsSigned w128 c.args.a = search rules in let g : FitsSigned w128 c.args.b = search rules in let k : FitsSigned w128 (c.args.a *ℤ c.args.b) = omega (arith, ints) in simp to_z-of_z refl
