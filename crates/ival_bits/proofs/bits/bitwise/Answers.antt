use Rattle.std.proofs.Common.{◌≡◌, subst, sym, rules}
use Rattle.c_base.specs.Integers.{is_signed, width_of}
use Rattle.ival_core.specs.Sets.{Has}
use Rattle.ival_arith.proofs.Answering.{width_is}
use Rattle.ival_arith.proofs.Fits.{Fits}
use Rattle.ival_bits.specs.Bitwise.{bitwise_value}
use Rattle.ival_bits.proofs.SpanSets.{Pair}
use Rattle.ival_bits.proofs.Operating.{cut, ranged, Result_of, answer_holds, answer_exact}
use Rattle.ival_bits.proofs.BitSets.{bits_value-covers, bits_value-fits}
use Rattle.ival_bits.proofs.bits.bitwise.Goals as goal

pub returns-clause-holds : goal.returns-clause-holds
returns-clause-holds c =
    let a = c.args in
    let v = c.bits_value.result in
    let e : v.shape ≡ bitwise_value a.op a.k a.m a.a.now.shape a.b.now.shape = search rules in
    let k : Pair a.op (is_signed a.k) (width_of a.k a.m) (cut a.k a.m a.a.now) (cut a.k a.m a.b.now) = record { bitwise = c.requires; width_is = width_is a.k a.m; left = (ranged a.k a.m a.a.now).word; right = (ranged a.k a.m a.b.now).word } in
    answer_holds a.op a.k a.m a.a.now a.b.now v (λ n r. subst (λ s. Has s n) (sym e) ((bits_value-covers a.op (is_signed a.k) (width_of a.k a.m) (cut a.k a.m a.a.now) (cut a.k a.m a.b.now) k).holds n r))

pub returns-clause-exact : goal.returns-clause-exact
returns-clause-exact c = λ h.
    let a = c.args in
    let v = c.bits_value.result in
    let e : v.shape ≡ bitwise_value a.op a.k a.m a.a.now.shape a.b.now.shape = search rules in
    let k : Pair a.op (is_signed a.k) (width_of a.k a.m) (cut a.k a.m a.a.now) (cut a.k a.m a.b.now) = record { bitwise = c.requires; width_is = width_is a.k a.m; left = (ranged a.k a.m a.a.now).word; right = (ranged a.k a.m a.b.now).word } in
    answer_exact a.op a.k a.m a.a.now a.b.now v
    (subst (Fits (Result_of a.op a.k a.m a.a.now a.b.now)) (sym e) (bits_value-fits a.op (is_signed a.k) (width_of a.k a.m) (cut a.k a.m a.a.now) (cut a.k a.m a.b.now) h k))
