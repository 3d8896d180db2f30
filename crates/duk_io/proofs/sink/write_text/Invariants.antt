use Rattle.std.proofs.Common.{◌-◌, ◌≤◌, length, take}
use Rattle.duk_io.specs.Sink.{IsWritten}
use Rattle.duk_io.proofs.sink.write_text.Given as goal

abbrev pub invariant-loop-done : goal.invariant-loop-done
invariant-loop-done g l =
    (l.done ≤ length l.text) × IsWritten (g.S.Sink.known l.initial.sink) (g.S.Sink.known l.sink) (take l.done l.text)

abbrev pub decreases-loop-done : goal.decreases-loop-done
decreases-loop-done g l = length l.text - l.done
