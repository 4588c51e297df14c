use Rattle.std.proofs.Common.{length, ◌-◌, ◌≤◌, take}
use Rattle.eva_io.specs.Outside.{Appended, KeepsCounts}
use Rattle.eva_io.proofs.sink.write_whole.Given as goal

-- the first `done` bytes were appended, and no count fell
abbrev pub invariant-loop-done : goal.invariant-loop-done
invariant-loop-done g l =
    (l.done ≤ length l.bytes)
    × Appended (g.K.Sink.state l.fn.sink).written (take l.done l.bytes) (g.K.Sink.state l.sink).written
    × KeepsCounts (g.K.Sink.state l.fn.sink) (g.K.Sink.state l.sink)

abbrev pub decreases-loop-done : goal.decreases-loop-done
decreases-loop-done g l = length l.bytes - l.done
