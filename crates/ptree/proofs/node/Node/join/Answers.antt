use Rattle.std.proofs.Common.{◌*◌, ◌/◌, ◌^◌, ◌<◌, arith}
use Rattle.std.proofs.Math.Nat.{mod-eq_of_lt, div-mul-le_self}
use Rattle.ptree.proofs.Bits.{join_fork}
use Rattle.ptree.proofs.node.Node.join.Goals as goal

-- no bit is lost where the high number is shifted back
pub fork-requires-clause-fork : goal.fork-requires-clause-fork
fork-requires-clause-fork g c =
    let bit = c.branch_bit-bit.result in
    let high = c.args.high in
    let small : high / 2 ^ bit * 2 ^ bit < 2 ^ 64 = omega (arith, div-mul-le_self high (2 ^ bit), c.ranges.high.fits) in
    rw (mod-eq_of_lt small) (join_fork bit c.args.low high _ _ c.branch_bit-bit.ensures c.requires.apart)
