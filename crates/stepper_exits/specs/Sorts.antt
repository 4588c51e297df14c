-- Sorts of work, as ways out of scopes meet them.
use Rattle.std.specs.Prelude.{◌≡◌, ◌++◌, Bool, true, false, List, map}
use Rattle.c_program.specs.Syntax.{Done}
use Rattle.c_program.specs.Views.{stmt_of, listed, number_of as base_number}
use Rattle.c_machine.specs.Work.{Work, Loop, Body, Close, Frame, ForNext, DoTest, Switched}
use Rattle.stepper_exits.specs.declared.marks.Mark.{Mark}
use Rattle.stepper_exits.specs.declared.marks.Mark.TheVariants as mark

pub data Sort : Type 0 where
  Framing : Sort
  Closing : Sort
  Bodily : Sort
  -- the mark by which a body belongs to its loop
  Looping : Sort
  Switching : Sort
  Other : Sort

abbrev pub sort_of : Work → Sort
sort_of (Frame function site) = Framing
sort_of (Close bases stmts) = Closing
sort_of (Body stmts) = Bodily
sort_of (Loop id e s) = Looping
sort_of (ForNext h s) = Looping
sort_of (DoTest h s) = Looping
sort_of Switched = Switching
sort_of work = Other

-- what a mark tells of its work
abbrev pub HasMark : Work → Mark → Type 0
HasMark w (mark.Frame function site) = w ≡ Frame function site
HasMark w (mark.Close locals stmts) = w ≡ Close (map base_number locals.now) (listed (map stmt_of stmts.now))
HasMark w (mark.CloseFunction formals locals) = w ≡ Close (map base_number formals.now ++ map base_number locals.now) Done
HasMark w (mark.Body stmts) = w ≡ Body (listed (map stmt_of stmts.now))
HasMark w mark.Loop = sort_of w ≡ Looping
HasMark w mark.Switched = sort_of w ≡ Switching
HasMark w mark.Other = sort_of w ≡ Other
