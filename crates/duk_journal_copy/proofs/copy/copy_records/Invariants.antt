use Rattle.std.proofs.Common.{◌≡◌, ◌≤◌, ◌+◌, ◌*◌, ◌-◌, length}
use Rattle.duk_journal_copy.specs.inner.Blank.{LeavesOutside}
use Rattle.duk_journal_copy.specs.inner.Copy.{AreRecordsCopied}
use Rattle.duk_journal_copy.proofs.copy.copy_records.Given as goal

abbrev pub invariant-loop-place : goal.invariant-loop-place
invariant-loop-place g l = record {
  inside : l.place ≤ l.kept.count;
  piece : length l.piece ≡ 65536;
  so_far : AreRecordsCopied l.kept.version l.own l.identity 0 l.place (g.D.Disk.meaning.state_of l.fn.old) (g.D.Disk.meaning.state_of l.old)
      (g.E.Disk.meaning.state_of l.fn.new) (g.E.Disk.meaning.state_of l.new);
  outside : LeavesOutside 32 (32 * (1 + l.kept.count)) (g.E.Disk.meaning.state_of l.fn.new) (g.E.Disk.meaning.state_of l.new);
}

abbrev pub decreases-loop-place : goal.decreases-loop-place
decreases-loop-place g l = l.kept.count - l.place
