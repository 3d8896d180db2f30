use Rattle.std.proofs.Common.{◌≡◌, ◌≤◌, length}
use Rattle.duk_store.specs.Disk.{PreservesBytes, PreservesDisk, StaysArmed}
use Rattle.duk_service.specs.inner.LeftRecords.{HasNone}
use Rattle.duk_service.proofs.left_records.find_last.Given as goal

abbrev pub invariant-loop-end : goal.invariant-loop-end
invariant-loop-end g l = record {
  inside : l.end ≤ l.below;
  piece : length l.piece ≡ 65536;
  nature : PreservesDisk (g.D.Disk.meaning.state_of l.fn.disk) (g.D.Disk.meaning.state_of l.disk);
  arming : StaysArmed (g.D.Disk.meaning.state_of l.fn.disk) (g.D.Disk.meaning.state_of l.disk);
  bytes : PreservesBytes (g.D.Disk.meaning.state_of l.fn.disk) (g.D.Disk.meaning.state_of l.disk);
  no_failure : (g.D.Disk.meaning.state_of l.disk).failures ≡ (g.D.Disk.meaning.state_of l.fn.disk).failures;
  none : (g.D.Disk.meaning.state_of l.disk).honest → HasNone l.layout l.mark l.end l.below (g.D.Disk.meaning.state_of l.disk).reads;
}

abbrev pub decreases-loop-end : goal.decreases-loop-end
decreases-loop-end g l = l.end
