use Rattle.std.proofs.Common.{◌≡◌, ◌≤◌, ◌/◌, inl, length, subst, arith}
use Rattle.std.proofs.lemmas.Result.{err_from_is_err_and}
use Rattle.duk_journal.specs.RecordFormat.{IsOpen}
use Rattle.duk_show.specs.Stored.{stored_record}
use Rattle.duk_show.specs.inner.Journal.{AreCutAt, IsRecordNotTaken, IsRecordTaken}
use Rattle.duk_show.proofs.JournalRecords.{not_taken, same_record, taken}
use Rattle.duk_show.proofs.journal.read_groups.Goals.{else-left-eq0-via-then-left-eq0+else-record-ne-OPEN, else-left-eq0-via-else-left-eq0}
use Rattle.duk_show.proofs.journal.read_groups.Goals as goal

pub returns-in_err-left-clause-refused : goal.returns-in_err-left-clause-refused
returns-in_err-left-clause-refused c =
    let stored = c.args.stored in
    let place = c.loop-place.place in
    let entries = c.loop-place.entries.items in
    let p = err_from_is_err_and c.from_residual.result c.from_residual.ensures.1 in
    rw (p.1, p.2) (not_taken stored c.laws.ensures place c.loop-place.left entries c.in_err-left.field-0.0 c.loop-place.invariant.0 c.loop-place.invariant.2
    c.loop-place-test.true
    (subst (λ bytes. IsRecordNotTaken stored c.loop-place.left bytes entries c.in_err-left.field-0.0) (same_record stored.records.now place) c.in_err-left.ensures.refused))

pub returns-then-left-ne0-clause-refused : goal.returns-then-left-ne0-clause-refused
returns-then-left-ne0-clause-refused c =
    let stored = c.args.stored in
    let place = c.loop-place.place in
    let end : place ≡ length stored.records.now / 32 = omega (arith, c.loop-place.auto, c.loop-place-test.false) in
    let some : 1 ≤ c.loop-place.left = omega (arith, c.if-left-ne0.true) in
    subst (λ n. AreCutAt stored n) end
    (record { left = c.loop-place.left; entries = c.loop-place.entries.items; begins = c.loop-place.invariant.0; wrong = inl (end, some) })

pub loop-place-preserved : goal.loop-place-preserved
loop-place-preserved c =
    let stored = c.args.stored in
    let place = c.loop-place.place in
    let left = c.loop-place.left in
    let old = c.loop-place.entries.items in
    let new = c.take_record.new.entries.items in
    let first : left ≡ 0 → IsOpen (stored_record place stored) = λ none. elim c.else-left-eq0.branch [
      | else-left-eq0-via-then-left-eq0+else-record-ne-OPEN w ↦ subst IsOpen (same_record stored.records.now place) w.if-record-ne-OPEN.false
      | else-left-eq0-via-else-left-eq0 w ↦ absurd (w.if-left-eq0.false none)
    ] in
    let now = c.in_ok-left.ensures in
    let read = taken stored place left c.in_ok-left.left old new c.loop-place.invariant.0 c.loop-place.invariant.2 first
    (subst (λ cut. IsRecordTaken stored left cut old new c.in_ok-left.left) (same_record stored.records.now place) now.taken) now.listed.new_numbers in
    (read.0, now.listed, read.1)
