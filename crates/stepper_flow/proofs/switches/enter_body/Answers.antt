use Rattle.std.proofs.Common.{◌≡◌, ap, sym, subst, IfOk}
use mathlib.Core.Path.{fun_ext}
use Rattle.c_machine.specs.Machine.{State, Outcome, Goes, enters}
use Rattle.stepper_work.specs.Effects.{Leads}
use Rattle.stepper_values.specs.Views.{number_of, layout_of}
use Rattle.stepper_flow.proofs.switches.enter_body.Goals as goal

pub returns-in-Some : goal.returns-in-Some
returns-in-Some c =
    subst (λ f. IfOk c.enter_selected.result (Leads f c.args.state.now c.enter_selected.new.state))
    (fun_ext (λ s. ap (λ e. Goes (enters (layout_of c.args.stepper.now.layout) s e)) (sym (c.in-Some.ensures (number_of c.args.n) s.control)))) c.enter_selected.ensures
