use Rattle.std.proofs.Common.{◌∙◌, IfOk, subst, sym}
use Rattle.stepper_work.specs.Effects.{Leads}
use Rattle.stepper_shapes.specs.Views.{implied_of}
use Rattle.stepper_values.specs.Views.{held_of, layout_of}
use Rattle.stepper_uses.proofs.Changing.{scalar_changes, other_changes}
use Rattle.stepper_uses.proofs.operators.change_held.Goals as goal

pub returns-in-Some : goal.returns-in-Some
returns-in-Some c =
    subst (λ f. IfOk c.convert.result (Leads f c.args.state.now c.convert.new.state))
    (scalar_changes (layout_of c.args.stepper.now.layout) (implied_of c.args.t) c.in-Some.field-0 (held_of c.args.held) (sym c.in-Some.is ∙ c.scalar_of.ensures)) c.convert.ensures

pub returns-in-None : goal.returns-in-None
returns-in-None c =
    subst (λ f. IfOk c.keep.result (Leads f c.args.state.now c.keep.new.state))
    (other_changes (layout_of c.args.stepper.now.layout) (implied_of c.args.t) (held_of c.args.held) (held_of c.kept-held.result) (sym c.in-None.is ∙ c.scalar_of.ensures) c.kept-held.ensures) c.keep.ensures
