use Rattle.std.proofs.Common.{◌≡◌, ◌+◌, ◌≤◌, drop, length}
use Rattle.c_parse_base.proofs.names.TypeNames.leave.Given as goal

abbrev pub invariant-loop : goal.invariant-loop
invariant-loop l =
    (l.self.names ≡ drop l.counter l.initial.self.names)
    × (l.self.floor ≡ l.initial.self.floor)
    × (l.initial.self.floor + l.count ≤ length l.initial.self.names)
