use Rattle.std.proofs.Common.{◌≡◌, FitsSigned, arith}
use Rattle.std.specs.Prelude.{unsigned_abs}
use Rattle.std.specs.Int.{w128}
use Rattle.std.proofs.lemmas.Int.{to_z-of_z}
use Rattle.ival_core.proofs.Orders.{lt_false}
use Rattle.ival_bits.specs.Spans.{length_of}
use Rattle.ival_bits.proofs.Sizes.{mask_small}
use Rattle.ival_bits.proofs.masks.mask_of.Goals as goal

pub overflow_shl-bits : goal.overflow_shl-bits
overflow_shl-bits c =
    let f : FitsSigned w128 c.args.n = c.ranges.n in
    let e : c.length_of-bits.result ≡ length_of (unsigned_abs c.args.n) = simp to_z-of_z at c.length_of-bits.ensures in
    let s = mask_small c.args.n c.length_of-bits.result c.requires (lt_false c.args.n _ (simp to_z-of_z at c.if-n-lt0.false)) e in
    omega (arith, s)

pub returns-then-bits-n-clause-small : goal.returns-then-bits-n-clause-small
returns-then-bits-n-clause-small c =
    let f : FitsSigned w128 c.args.n = c.ranges.n in
    let e : c.length_of-bits.result ≡ length_of (unsigned_abs c.args.n) = simp to_z-of_z at c.length_of-bits.ensures in
    mask_small c.args.n c.length_of-bits.result c.requires (lt_false c.args.n _ (simp to_z-of_z at c.if-n-lt0.false)) e
