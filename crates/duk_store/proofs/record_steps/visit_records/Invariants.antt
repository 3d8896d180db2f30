use Rattle.std.proofs.Common.{◌≤◌, ◌-◌, ◌<◌, ◌^◌, length}
use Rattle.duk_store.specs.inner.Reading.{ReadsOn}
use Rattle.duk_store.specs.inner.RecordSteps.{IsReadFrom, StaysSame}
use Rattle.duk_store.specs.declared.reading.Reading.TheVariants.{Groups}
use Rattle.duk_store.proofs.record_steps.visit_records.Given as goal

abbrev pub invariant-loop-place : goal.invariant-loop-place
invariant-loop-place g l =
    let format = g.F.Format.meaning l.format in
    let old = g.D.Disk.meaning.state_of l.fn.disk in
    record {
      same : StaysSame old (g.D.Disk.meaning.state_of l.disk);
      size : old.size < 2 ^ 64;
      piece : format.record_length ≤ length l.piece;
      above : format.headers ≤ l.place;
      in_front : l.place ≤ l.records;
      reads : ReadsOn format g.V.Visitor.takes (Groups 0 0) (l.place - format.headers) (IsReadFrom old format.headers) l.fn.visitor l.visitor l.reading;
    }

abbrev pub decreases-loop-place : goal.decreases-loop-place
decreases-loop-place g l = l.records - l.place
