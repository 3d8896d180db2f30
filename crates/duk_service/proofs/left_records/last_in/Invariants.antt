use Rattle.std.proofs.Common.{◌≤◌}
use Rattle.duk_service.specs.inner.LeftRecords.{HasNone}
use Rattle.duk_service.proofs.left_records.last_in.Given as goal

abbrev pub invariant-loop-end : goal.invariant-loop-end
invariant-loop-end l = record {
  inside : l.end ≤ l.fn.count;
  none : HasNone l.fn.layout l.mark l.end l.fn.count l.piece;
}

abbrev pub decreases-loop-end : goal.decreases-loop-end
decreases-loop-end l = l.end
