use Rattle.std.proofs.Common.{◌≡◌, ◌↔◌, IsTrue, Err, subst, sym, rules}
use Rattle.c_base.specs.Integers.{is_signed, width_of}
use Rattle.c_base.specs.KindSets.{allowed}
use Rattle.ival_bits.specs.Promises.{GivesShifted}
use Rattle.ival_arith.proofs.Answering.{width_is}
use Rattle.ival_arith.proofs.Fits.{Fits}
use Rattle.ival_bits.specs.Shifts.{shift_value, shift_kinds}
use Rattle.ival_bits.proofs.Operating.{cut, ranged}
use Rattle.ival_bits.proofs.Counted.{Shift_of, shift_holds, shift_exact, shift_undefined}
use Rattle.ival_bits.proofs.Shifting.{shift-fits}
use Rattle.ival_bits.proofs.ShiftKinds.{shift_kinds-are}
use Rattle.ival_bits.proofs.shifts.shift.Goals as goal

pub returns-clause-holds : goal.returns-clause-holds
returns-clause-holds c =
    let a = c.args in
    let v = c.shifts.result in
    let e : v.shape ≡ shift_value a.op a.k a.m a.a.now.shape a.b.now.shape = search rules in
    let f : Fits (Shift_of a.op a.k a.m a.a.now a.b.now) v.shape =
    subst (Fits (Shift_of a.op a.k a.m a.a.now a.b.now)) (sym e) (shift-fits a.op (is_signed a.k) (width_of a.k a.m) (cut a.k a.m a.a.now) a.b.now.shape c.requires (width_is a.k a.m) (ranged a.k a.m a.a.now).word) in
    shift_holds a.op a.k a.m a.a.now a.b.now v f.holds

pub returns-clause-exact : goal.returns-clause-exact
returns-clause-exact c =
    let a = c.args in
    let v = c.shifts.result in
    let e : v.shape ≡ shift_value a.op a.k a.m a.a.now.shape a.b.now.shape = search rules in
    shift_exact a.op a.k a.m a.a.now a.b.now v
    (subst (Fits (Shift_of a.op a.k a.m a.a.now a.b.now)) (sym e) (shift-fits a.op (is_signed a.k) (width_of a.k a.m) (cut a.k a.m a.a.now) a.b.now.shape c.requires (width_is a.k a.m) (ranged a.k a.m a.a.now).word))

pub returns-clause-kinds : goal.returns-clause-kinds
returns-clause-kinds c =
    let a = c.args in
    let e : c.shift_kind.result ≡ shift_kinds a.op a.k a.m a.a.now.shape a.b.now.shape = search rules in
    λ kind. subst (λ ks. IsTrue (allowed ks kind) ↔ GivesShifted a.op a.k a.m a.a.now a.b.now (Err kind)) (sym e)
    (shift_undefined a.op a.k a.m a.a.now a.b.now kind
    (shift_kinds-are a.op (is_signed a.k) (width_of a.k a.m) (cut a.k a.m a.a.now) a.b.now.shape kind c.requires (ranged a.k a.m a.a.now).word.valid a.b.now.valid))
