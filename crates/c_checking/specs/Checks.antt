-- When an expression has a typed form: what the subset leaves out is looked for first, in the whole of it, and then what C11 forbids.
use Rattle.std.specs.Prelude.{Option, None, Some, Result, Ok, Err}
use Rattle.c_tree.specs.Trees.{Tree}
use Rattle.c_checking.specs.Faults.{Fault, Profile, ◌>>=◌}
use Rattle.c_checking.specs.Scopes.{Scopes, Checked, with}
use Rattle.c_checking.specs.Operands.{Value, Operand, valued}
use Rattle.c_checking.specs.Checking.{typed}
use Rattle.c_checking.specs.Profile.{Broken, earliest, faults, known_from}

abbrev pub unless_broken : {A : Type 0} → Option Broken → Checked A → Checked A
unless_broken None answer = answer
unless_broken (Some b) answer = Err (Profile b.rule b.at)

abbrev pub valued_behind : Tree → Scopes → Checked Value
valued_behind t s = do
  r ← typed t s
  with r.1 (valued r.1 r.0)

-- an expression as a value
abbrev pub checked : Scopes → Tree → Checked Value
checked s t = unless_broken (earliest (faults (known_from s.names) t)) (valued_behind t s)
