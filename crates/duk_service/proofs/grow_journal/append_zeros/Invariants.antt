use Rattle.std.proofs.Common.{◌≡◌, ◌≤◌, ◌-◌, ◌++◌, replicate}
use Rattle.duk_service.specs.FileEnd.{LeavesLonger, PreservesEnd}
use Rattle.duk_service.specs.GrowJournal.{HasZerosBehind}
use Rattle.duk_service.proofs.grow_journal.append_zeros.Given as goal

abbrev pub invariant-loop-left : goal.invariant-loop-left
invariant-loop-left g l = record {
  within : l.left ≤ l.count;
  nature : PreservesEnd (g.E.FileEnd.state l.fn.end) (g.E.FileEnd.state l.end);
  longer : LeavesLonger (HasZerosBehind (l.count - l.left)) (g.E.FileEnd.state l.fn.end) (g.E.FileEnd.state l.end);
  appended : (g.E.FileEnd.state l.fn.end).honest
      → (g.E.FileEnd.state l.end).reads ≡ (g.E.FileEnd.state l.fn.end).reads ++ replicate (l.count - l.left) 0;
}

abbrev pub decreases-loop-left : goal.decreases-loop-left
decreases-loop-left g l = l.left
