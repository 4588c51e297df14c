use Rattle.std.proofs.Common.{sym, arith}
use Rattle.stepper_values.specs.Views.{layout_of}
use Rattle.stepper_memory.specs.Views.{plain}
use Rattle.stepper_accesses.proofs.Births.{pasted_next, pasted_done, pasted_out}
use Rattle.stepper_accesses.proofs.scopes.paste.Goals as goal

pub loop-n-preserved : goal.loop-n-preserved
loop-n-preserved c =
    pasted_next (layout_of c.args.layout.now) c.args.base c.args.image.now c.loop-n.n c.in-Some.item.now _ (plain c.loop-n.memory) _ (sym c.in-Some.ensures) c.loop-n.invariant
    c.in_ok-paste_one-in-Some.ensures

pub returns-in-None : goal.returns-in-None
returns-in-None c = pasted_out (layout_of c.args.layout.now) c.args.base c.args.image.now c.loop-n.n _ _ (sym c.in-None.ensures) c.loop-n.invariant

pub returns : goal.returns
returns c = pasted_done (layout_of c.args.layout.now) c.args.base c.args.image.now c.loop-n.n _ _ (omega arith) c.loop-n.invariant
