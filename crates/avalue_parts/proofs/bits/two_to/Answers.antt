use Rattle.std.proofs.Common.{◌≤◌, ◌^◌, arith}
use Rattle.std.proofs.Math.Nat.{pow-le-pow_right}
use Rattle.avalue_parts.proofs.bits.two_to.Goals as goal

pub returns-clause-small : goal.returns-clause-small
returns-clause-small c = let p : 2 ^ c.args.exponent ≤ 2 ^ 121 = pow-le-pow_right (omega arith) c.requires in omega arith
