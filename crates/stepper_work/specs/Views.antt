-- What the data of runs stand for: work, states, and the types of what calls have.
use Rattle.std.specs.Prelude.{ℕ, List, ◌++◌, map, Option, None, Some, option_map, Result, Ok, Err}
use Rattle.c_program.specs.Syntax.{ResultType, Void, Returns, ReturnsCells, Done}
use Rattle.c_program.specs.Views.{stmt_of, listed, number_of as base_number}
use Rattle.c_machine.specs.Machine.{Held, Work, Do, Evaluate, Locate, Fetch, Store, Apply, Discard, Choose, Loop, Turn, Deliver, Body, Brace, Close, Frame, Use, AsPlace, Reach, Index, IndexedBy, Sample, FetchCells, StoreCells, CopyCells, ApplyOne, Change, ApplyPointers, Decide, Settle, Pick, Again, Tuck, Increase, Drop, Enter, Put, Paste, Finish, ForHead, ForNext, ForTurn, DoTest, DoTurn, Select, Switched, State}
use Rattle.stepper_values.specs.Views.{held_of}
use Rattle.stepper_memory.specs.Views.{plain}
use Rattle.stepper_shapes.specs.Views.{implied_of, place_of, operand_of, statement_of, loop_of, head_of, body_of, begins_with}
use Rattle.stepper_work.specs.declared.work.ResultType.{ResultType as CodeResultType}
use Rattle.stepper_work.specs.declared.work.ResultType.TheVariants as result
use Rattle.stepper_work.specs.declared.work.Work.{Work as CodeWork}
use Rattle.stepper_work.specs.declared.work.Work.TheVariants as code
use Rattle.stepper_work.specs.declared.work.State.{State as CodeState}

abbrev pub result_of : CodeResultType → ResultType
result_of result.Void = Void
result_of (result.Returns type) = Returns type
result_of (result.ReturnsCells bytes) = ReturnsCells bytes

abbrev pub work_of : CodeWork → Work
work_of (code.Do s) = Do (statement_of s)
work_of (code.Evaluate e) = Evaluate (operand_of e)
work_of (code.Locate p) = Locate (place_of p)
work_of (code.Fetch type) = Fetch type
work_of (code.Store type) = Store type
work_of (code.Apply op kind) = Apply op kind
work_of (code.Discard id) = Discard id
work_of (code.Choose id s t) = Choose id (statement_of s) (statement_of t)
work_of (code.Loop l) = Loop (head_of (loop_of l.now)).id (begins_with (loop_of l.now)) (body_of (loop_of l.now))
work_of (code.Turn l) = Turn (head_of (loop_of l.now)).id (begins_with (loop_of l.now)) (body_of (loop_of l.now))
work_of (code.Deliver id) = Deliver id
work_of (code.Body stmts) = Body (listed (map stmt_of stmts.now))
work_of (code.Brace id result) = Brace id (result_of result)
work_of (code.Close locals stmts) = Close (map base_number locals.now) (listed (map stmt_of stmts.now))
work_of (code.CloseFunction formals locals) = Close (map base_number formals.now ++ map base_number locals.now) Done
work_of (code.Frame function site) = Frame function site
work_of code.Use = Use
work_of code.AsPlace = AsPlace
work_of (code.Reach c m) = Reach c m
work_of (code.Index t n end) = Index (implied_of t) n end
work_of (code.IndexedBy t n end) = IndexedBy (implied_of t) n end
work_of (code.Sample type) = Sample type
work_of (code.FetchCells t) = FetchCells (implied_of t)
work_of (code.StoreCells named t) = StoreCells named (implied_of t)
work_of (code.CopyCells named t) = CopyCells named (implied_of t)
work_of (code.ApplyOne op kind) = ApplyOne op kind
work_of (code.Change t) = Change (implied_of t)
work_of (code.ApplyPointers op left right) = ApplyPointers op (implied_of left) (implied_of right)
work_of (code.Decide is_and e) = Decide is_and (operand_of e)
work_of code.Settle = Settle
work_of (code.Pick b c) = Pick (operand_of b) (operand_of c)
work_of code.Again = Again
work_of code.Tuck = Tuck
work_of (code.Increase up t) = Increase up (implied_of t)
work_of code.Drop = Drop
work_of (code.Enter site t n) = Enter site (implied_of t) n
work_of (code.Put type) = Put type
work_of (code.Paste base image) = Paste base image.now
work_of (code.Finish id) = Finish id
work_of (code.ForHead l) = ForHead (head_of (loop_of l.now)) (body_of (loop_of l.now))
work_of (code.ForNext l) = ForNext (head_of (loop_of l.now)) (body_of (loop_of l.now))
work_of (code.ForTurn l) = ForTurn (head_of (loop_of l.now)) (body_of (loop_of l.now))
work_of (code.DoTest l) = DoTest (head_of (loop_of l.now)) (body_of (loop_of l.now))
work_of (code.DoTurn l) = DoTurn (head_of (loop_of l.now)) (body_of (loop_of l.now))
work_of (code.Select id body) = Select id (stmt_of body.now)
work_of code.Switched = Switched

abbrev pub control_of : List CodeWork → List Work
control_of control = map work_of control

abbrev pub state_of : CodeState → State
state_of s = record { control = control_of s.control; held = map held_of s.held; memory = plain s.memory }
