use Rattle.std.proofs.Common.{arith, refl, sym, map}
use Rattle.stepper_values.specs.Views.{layout_of}
use Rattle.stepper_accesses.specs.Arguments.{argument_of}
use Rattle.stepper_accesses.proofs.Births.{passed_next, passed_short, passed_all}
use Rattle.stepper_accesses.proofs.scopes.pass.Goals as goal

pub loop-n-preserved : goal.loop-n-preserved
loop-n-preserved c =
    passed_next (layout_of c.args.layout.now) c.args.formals.now c.args.arguments.now c.loop-n.n _ c.in-Some.argument.now _ _ _ (omega arith) refl (sym c.in-Some.ensures)
    c.loop-n.invariant c.in_ok-pass_one-in-Some.ensures

pub returns-in-None : goal.returns-in-None
returns-in-None c = passed_short (layout_of c.args.layout.now) c.args.formals.now c.args.arguments.now c.loop-n.n _ _ (sym c.in-None.ensures) c.loop-n.invariant

pub returns : goal.returns
returns c = passed_all (layout_of c.args.layout.now) c.args.formals.now (map argument_of c.args.arguments.now) c.loop-n.n _ _ (omega arith) c.loop-n.invariant
