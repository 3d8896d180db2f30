use Rattle.std.proofs.Common.{◌-◌, ◌≤◌}
use Rattle.duk_commands.specs.Progress.{AreTried}
use Rattle.dukpt.specs.inner.Progress.{progress_lines}
use Rattle.dukpt.proofs.progress.meter.tell_items.Given as goal

-- the lines stand up to this item
abbrev pub invariant-loop-item : goal.invariant-loop-item
invariant-loop-item g l =
    (l.fn.before ≤ l.told) × (l.told ≤ l.done)
    × AreTried (g.E.Sink.known l.initial.errors) (g.E.Sink.known l.errors) (progress_lines l.pace.total l.fn.before l.told)

abbrev pub decreases-loop-item : goal.decreases-loop-item
decreases-loop-item g l = l.done - l.told
