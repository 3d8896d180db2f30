use Rattle.std.proofs.Common.{◌≡◌, ◌+◌, ◌*◌, ◌/◌, ◌≤◌, ℕ, true, None, Some, length, ap, arith, subst, sym}
use Rattle.std.proofs.lemmas.Result.{err_from_is_err_and}
use Rattle.duk_store.specs.Disk.{DiskMeaning}
use Rattle.duk_store.specs.DiskRecords.{RecordsOf, are_running, capacity_of, count_in, records_meaning}
use Rattle.duk_store.specs.Format.{FormatMeaning}
use Rattle.duk_store.specs.Listed.{GroupAppendFailed, IsGroupAppended}
use Rattle.duk_store.specs.inner.GroupSteps.{GroupFailed, WritesGroup}
use Rattle.duk_store.specs.inner.RecordSteps.{KnowsRecords}
use Rattle.duk_store.proofs.Places.{inside_size}
use Rattle.duk_store.proofs.RecordsOnDisk.{knows_group, list_append_failed, list_appended}
use Rattle.duk_store.proofs.records.Records.append.Goals as goal

-- there is room for the group behind the header and what is kept
inside : {D F I : Type 0} (meaning : DiskMeaning D) (format_of : F → FormatMeaning I) (old now : RecordsOf D F) (count more : ℕ) → old ≡ now → old.kept ≡ Some count → 1 ≤ more
    → (are_running now.kept ≡ true → count_in now.kept + more ≤ capacity_of (format_of now.format) (meaning.state_of now.disk).size)
    → (format_of old.format).record_length * ((format_of old.format).headers + count + more) ≤ (meaning.state_of old.disk).size
inside meaning format_of old now count more same is some asked =
    let size = (meaning.state_of old.disk).size in
    let format = format_of old.format in
    let room = subst (λ records. are_running records.kept ≡ true → count_in records.kept + more ≤ capacity_of (format_of records.format) (meaning.state_of records.disk).size) (sym same) asked in
    let less = subst (λ kept. count_in kept + more ≤ capacity_of format size) is (room (ap are_running is)) in
    inside_size format.record_length (format.headers + count + more) size (let whole : ℕ = size / format.record_length in omega (arith, less, some))

pub returns-in_err-write_group-clause-failed : goal.returns-in_err-write_group-clause-failed
returns-in_err-write_group-clause-failed g c =
    let p = err_from_is_err_and c.from_residual.result c.from_residual.ensures.1 in
    let m = g.D.Disk.meaning in
    let own = c.self.inside in
    let format = g.F.Format.meaning own.format in
    let group = c.args.group.now in
    let count = c.in-Some.count in
    let why = c.in_err-write_group.field-0.0 in
    let knows = subst (λ kept. KnowsRecords format own.identity (m.state_of own.disk) kept) c.in-Some.is c.self.invariant.1 in
    let failed = subst (λ (n : ℕ). GroupFailed format own.identity group (n + count) (m.state_of own.disk) (m.state_of c.write_group.new.disk) why) c.headers.ensures c.in_err-write_group.ensures.failed in
    rw (p.1, p.2)
    (subst (λ records. GroupAppendFailed (records_meaning m g.F.Format.meaning) records (record { disk = c.write_group.new.disk; format = own.format; kept = None }) group why) c.self.view_is
    (list_append_failed m g.F.Format.meaning own.format c.self.invariant.0 own.disk c.write_group.new.disk own.identity group count c.requires.group.some knows own.kept c.in-Some.is why (g.D.Disk.reads_may_stay c.write_group.new.disk) failed))

pub invariant_of-self-2 : goal.invariant_of-self-2
invariant_of-self-2 g c = (
  c.self.invariant.0,
  (let m = g.D.Disk.meaning in
      let own = c.self.inside in
      let format = g.F.Format.meaning own.format in
      let group = c.args.group.now in
      let count = c.in-Some.count in
      let knows = subst (λ kept. KnowsRecords format own.identity (m.state_of own.disk) kept) c.in-Some.is c.self.invariant.1 in
      let done = subst (λ (n : ℕ). WritesGroup format own.identity group (n + count) (m.state_of own.disk) (m.state_of c.write_group.new.disk)) c.headers.ensures c.in_ok-write_group.ensures.written in
      let room = inside m g.F.Format.meaning (record { disk = own.disk; format = own.format; kept = own.kept }) _ count (length group) c.self.view_is c.in-Some.is c.requires.group.some c.requires.room in
      knows_group format c.self.invariant.0 (m.state_of own.disk) (m.state_of c.write_group.new.disk) own.identity group count c.requires.group.some knows room done),
)

pub returns-clause-appended : goal.returns-clause-appended
returns-clause-appended g c =
    let m = g.D.Disk.meaning in
    let own = c.self.inside in
    let format = g.F.Format.meaning own.format in
    let group = c.args.group.now in
    let count = c.in-Some.count in
    let knows = subst (λ kept. KnowsRecords format own.identity (m.state_of own.disk) kept) c.in-Some.is c.self.invariant.1 in
    let done = subst (λ (n : ℕ). WritesGroup format own.identity group (n + count) (m.state_of own.disk) (m.state_of c.write_group.new.disk)) c.headers.ensures c.in_ok-write_group.ensures.written in
    subst (λ records. IsGroupAppended (records_meaning m g.F.Format.meaning) records (record { disk = c.write_group.new.disk; format = own.format; kept = Some (count + length group) }) group) c.self.view_is
    (list_appended m g.F.Format.meaning own.format c.self.invariant.0 own.disk c.write_group.new.disk own.identity group count c.requires.group.some knows own.kept c.in-Some.is done)
