use Rattle.std.proofs.Common.{◌≤◌, ◌-◌}
use Rattle.duk_journal_copy.specs.inner.Blank.{AreZerosWritten, LeavesOutside}
use Rattle.duk_journal_copy.proofs.blank.write_zeros.Given as goal

abbrev pub invariant-loop-at : goal.invariant-loop-at
invariant-loop-at g l = record {
  behind : l.from ≤ l.at;
  inside : l.at ≤ l.to;
  so_far : AreZerosWritten l.from l.at (g.D.Disk.meaning.state_of l.fn.disk) (g.D.Disk.meaning.state_of l.disk);
  outside : LeavesOutside l.from l.to (g.D.Disk.meaning.state_of l.fn.disk) (g.D.Disk.meaning.state_of l.disk);
}

abbrev pub decreases-loop-at : goal.decreases-loop-at
decreases-loop-at g l = l.to - l.at
