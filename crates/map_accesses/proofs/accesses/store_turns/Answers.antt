use Rattle.std.proofs.Common.{◌+◌, ◌-◌, ◌*◌, ◌/◌, ◌≤◌, ℕ, refl, sym, subst, arith}
use Rattle.cell_laws.specs.Elements.{width, AllFine}
use Rattle.cell_laws.specs.Access.{put}
use Rattle.cell_laws.proofs.Accesses.{width-put, fine_put}
use Rattle.map_accesses.proofs.Fitting.{turns_fit, turn_first, turn_inside, turns_small, turn_small}
use Rattle.map_accesses.proofs.Turning.{first_turn, after_turn, all_turns}
use Rattle.map_accesses.proofs.accesses.store_turns.Goals as goal

pub store_slots-requires-clause-inside : goal.store_slots-requires-clause-inside
store_slots-requires-clause-inside g c =
    let f = turns_fit c.args.bits c.args.steps.step c.requires.size.some c.requires.step in
    let q = f.quotient in
    let s = f.some in
    turn_first c.args.steps.first c.args.steps.step c.args.steps.more ((c.args.bits - 1) / c.args.steps.step + 1) c.args.bits (width c.args.map.now) (omega arith) c.requires.inside
    (subst (λ (x : ℕ). c.args.bits ≤ x * c.args.steps.step) (sym q) f.wide)

pub loop-done-init : goal.loop-done-init
loop-done-init g c =
    let f = turns_fit c.args.bits c.args.steps.step c.requires.size.some c.requires.step in
    first_turn g.C.Cells.ops g.C.Cells.fine g.met.C.Cells.fine_laws g.met.C.Cells.order_laws g.met.C.Cells.join_laws g.met.C.Cells.part_laws
    c.args.map.now c.args.bits c.args.steps.first c.args.steps.step c.args.steps.more (put g.C.Cells.ops c.args.bits c.args.cell.now)
    (fine_put g.C.Cells.ops g.C.Cells.fine g.met.C.Cells.part_laws c.args.bits c.args.cell.now c.requires.size) (width-put g.C.Cells.ops c.args.bits c.args.cell.now) f c.requires.inside
    c.in_ok-made.made ((c.args.bits - 1) / c.args.steps.step + 1) _ f.quotient refl c.requires.fine c.in_ok-made.ensures

pub store_slots-requires-in-loop-done-clause-inside : goal.store_slots-requires-in-loop-done-clause-inside
store_slots-requires-in-loop-done-clause-inside g c =
    let f = turns_fit c.args.bits c.args.steps.step c.requires.size.some c.requires.step in
    let q = f.quotient in
    let s = f.some in
    let few = f.few in
    let size = c.requires.size.few in
    let many = c.requires.many in
    let most = c.loop-done.invariant.most in
    let w = c.loop-done.invariant.wide in
    let i = c.requires.inside in
    turn_inside c.args.steps.first c.args.steps.step c.args.steps.more ((c.args.bits - 1) / c.args.steps.step + 1) c.loop-done.done c.args.bits (width c.loop-done.made) (omega arith) (omega arith) (omega arith)
    (subst (λ (x : ℕ). c.args.bits ≤ x * c.args.steps.step) (sym q) f.wide)

pub loop-done-preserved : goal.loop-done-preserved
loop-done-preserved g c =
    let f = turns_fit c.args.bits c.args.steps.step c.requires.size.some c.requires.step in
    let q = f.quotient in
    let few = f.few in
    let size = c.requires.size.few in
    let many = c.requires.many in
    let t = c.loop-done-test.true in
    let most = c.loop-done.invariant.most in
    after_turn g.C.Cells.ops g.C.Cells.fine g.met.C.Cells.fine_laws g.met.C.Cells.order_laws g.met.C.Cells.join_laws g.met.C.Cells.part_laws
    c.args.map.now c.args.bits c.args.steps.first c.args.steps.step c.args.steps.more (put g.C.Cells.ops c.args.bits c.args.cell.now)
    (fine_put g.C.Cells.ops g.C.Cells.fine g.met.C.Cells.part_laws c.args.bits c.args.cell.now c.requires.size) (width-put g.C.Cells.ops c.args.bits c.args.cell.now) f c.requires.inside
    c.loop-done.done c.loop-done.made c.in_ok-made-2.made ((c.args.bits - 1) / c.args.steps.step + 1) _ (omega arith) f.quotient refl
    (subst (AllFine g.C.Cells.fine) c.made.view_is c.made.invariant.fine) c.loop-done.invariant.wide c.loop-done.invariant.same c.in_ok-made-2.ensures (omega arith)

pub returns : goal.returns
returns g c =
    let f = turns_fit c.args.bits c.args.steps.step c.requires.size.some c.requires.step in
    let t = c.loop-done-test.false in
    all_turns g.C.Cells.ops c.args.map.now c.loop-done.made c.args.bits c.args.steps.first c.args.steps.step c.args.steps.more ((c.args.bits - 1) / c.args.steps.step + 1) c.loop-done.done
    (put g.C.Cells.ops c.args.bits c.args.cell.now) f.quotient (omega arith) c.loop-done.invariant
