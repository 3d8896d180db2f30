use Rattle.std.proofs.Common.{◌≤◌, length}
use Rattle.duk_store.specs.Disk.{StaysArmed}
use Rattle.duk_store.specs.inner.GroupSteps.{WritesContents}
use Rattle.duk_store.proofs.group_steps.write_contents.Given as goal

abbrev pub invariant-loop-index : goal.invariant-loop-index
invariant-loop-index g l = record {
  written : WritesContents (g.F.Format.meaning l.format) l.identity l.index l.group l.place (g.D.Disk.meaning.state_of l.fn.disk) (g.D.Disk.meaning.state_of l.disk);
  arming : StaysArmed (g.D.Disk.meaning.state_of l.fn.disk) (g.D.Disk.meaning.state_of l.disk);
  piece : (g.F.Format.meaning l.format).record_length ≤ length l.piece;
}
