use Rattle.std.proofs.Common.{◌≡◌, ◌≤◌, ◌+◌, ◌*◌, ◌-◌, true}
use Rattle.duk_journal_copy.specs.inner.Blank.{LeavesOutside}
use Rattle.duk_journal_copy.specs.inner.Ledger.{AreNumbersCopied}
use Rattle.duk_store.specs.Disk.{PreservesBytes}
use Rattle.duk_store.specs.DiskRecords.{are_running, count_in, records_meaning}
use Rattle.duk_store.specs.LogFormat.{log_format}
use Rattle.duk_store.specs.declared.log_format.LogFormat.{LogFormat}
use Rattle.duk_store.specs.StoreState.{Stays}
use Rattle.duk_journal_copy.proofs.ledger.copy_numbers.Given as goal

abbrev pub invariant-loop-place : goal.invariant-loop-place
invariant-loop-place g l =
    let log = records_meaning g.D.Disk.meaning (λ (format : LogFormat). log_format) in
    record {
      inside : l.place ≤ l.count;
      running : are_running l.old.kept ≡ true;
      counted : count_in l.old.kept ≡ l.count;
      stays : Stays (log.state_of l.fn.old) (log.state_of l.old);
      bytes : PreservesBytes (g.D.Disk.meaning.state_of l.fn.old.disk) (g.D.Disk.meaning.state_of l.old.disk);
      so_far : AreNumbersCopied l.identity l.place (log.state_of l.fn.old) (g.E.Disk.meaning.state_of l.fn.new) (g.E.Disk.meaning.state_of l.new);
      outside : LeavesOutside 32 (32 * (1 + l.count)) (g.E.Disk.meaning.state_of l.fn.new) (g.E.Disk.meaning.state_of l.new);
    }

abbrev pub decreases-loop-place : goal.decreases-loop-place
decreases-loop-place g l = l.count - l.place
