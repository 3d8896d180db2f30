use Rattle.std.proofs.Common.{◌≡◌, ◌∙◌, ◌+◌, ◌*◌, ◌≤◌, ℕ, ap, subst, sym}
use Rattle.duk_journal_copy.specs.Version.{format_of, journal_records_meaning}
use Rattle.duk_journal_host.specs.Check.{IsChecked}
use Rattle.duk_service.specs.CopyJournal.{HasCopiedJournal, IsCopyJournalRefused, IsNoSize, copy_size}
use Rattle.duk_service.specs.inner.CopyJournal.{CopyNotMade, IsCopyMade, IsNotChecked}
use Rattle.duk_service.proofs.CopiedJournal.{copy_room, has_copied, kept_inside, no_size, not_checked, not_copied, not_opened}
use Rattle.duk_service.proofs.Results.{if_err, on_ok}
use Rattle.duk_service.proofs.SeenDisks.{bytes_none, keeps_none}
use Rattle.duk_service.proofs.copy_journal.copy_journal.Goals as goal

pub returns-in-Err-clause-refused : goal.returns-in-Err-clause-refused
returns-in-Err-clause-refused g c =
    not_opened c.args.identity g.S.Disk.Disk.meaning (g.S.LogFiles.disks c.args.files.now c.args.old.now) (g.S.LogFiles.making c.args.files.now c.args.new.now) c.in-Err.why c.in-Err.ensures.refused

pub returns-in-Err-check-clause-refused : goal.returns-in-Err-check-clause-refused
returns-in-Err-check-clause-refused g c =
    let meaning = g.S.Disk.Disk.meaning in
    let known = g.S.LogFiles.disks c.args.files.now c.args.old.now in
    let making = g.S.LogFiles.making c.args.files.now c.args.new.now in
    not_checked c.args.identity meaning known making c.in-Ok.journal.version c.in-Ok.journal.disk c.check.new.records c.in-Err-check.why c.in-Ok.ensures.opened
    (subst (λ records. IsNotChecked (journal_records_meaning meaning) records c.check.new.records c.in-Err-check.why) c.new-records.ensures.records c.in-Err-check.ensures.refused)

pub make_new-requires-clause-inside : goal.make_new-requires-clause-inside
make_new-requires-clause-inside g c =
    let meaning = g.S.Disk.Disk.meaning in
    let version = c.in-Ok.journal.version in
    let same = c.check.ensures.version ∙ ap (λ records. records.format) c.new-records.ensures.records in
    kept_inside meaning version c.new-records.result c.check.new.records (meaning.state_of c.into_disk-disk.result).size c.in-Ok-check.checked c.in-Ok-check.ensures.checked same c.into_disk-disk.ensures.inside

pub make_new-requires-clause-room : goal.make_new-requires-clause-room
make_new-requires-clause-room g c =
    let meaning = g.S.Disk.Disk.meaning in
    let version = c.in-Ok.journal.version in
    let same = c.check.ensures.version ∙ ap (λ records. records.format) c.new-records.ensures.records in
    let inside = kept_inside meaning version c.new-records.result c.check.new.records (meaning.state_of c.into_disk-disk.result).size c.in-Ok-check.checked c.in-Ok-check.ensures.checked same c.into_disk-disk.ensures.inside in
    let sizes : (meaning.state_of c.into_disk-disk.result).size ≡ c.size-size.result =
    ap (λ disk. (meaning.state_of disk).size) c.into_disk-disk.ensures.disk ∙ c.check.ensures.size
    ∙ ap (λ records. (meaning.state_of records.disk).size) c.new-records.ensures.records ∙ sym c.size-size.ensures in
    rw c.in-Some.ensures.found (copy_room version c.in-Ok-check.checked.count c.size-size.result (subst (λ (n : ℕ). 32 * ((format_of version).headers + c.in-Ok-check.checked.count) ≤ n) sizes inside))

pub returns-clause-made : goal.returns-clause-made
returns-clause-made g c =
    let meaning = g.S.Disk.Disk.meaning in
    let known = g.S.LogFiles.disks c.args.files.now c.args.old.now in
    let making = g.S.LogFiles.making c.args.files.now c.args.new.now in
    let version = c.in-Ok.journal.version in
    let opened = c.in-Ok.journal.disk in
    let disk = c.into_disk-disk.result in
    let found = c.in-Ok-check.checked in
    let same = c.check.ensures.version ∙ ap (λ records. records.format) c.new-records.ensures.records in
    let checked = subst (λ records. IsChecked (journal_records_meaning meaning) records c.check.new.records found) c.new-records.ensures.records c.in-Ok-check.ensures.checked in
    let size_is : c.in-Some.size ≡ copy_size version (meaning.state_of opened).size = c.in-Some.ensures.found ∙ ap (copy_size version) c.size-size.ensures in
    on_ok (IsCopyMade (record { version = version; checked = found }) c.args.identity meaning making c.in-Some.size (meaning.state_of disk))
    (HasCopiedJournal c.args.identity meaning known making) c.make_new.result
    (λ copy. has_copied c.args.identity meaning known making version opened c.check.new.records disk c.make_new.new.old found c.in-Ok.ensures.opened checked same c.into_disk-disk.ensures.disk
    c.make_new.ensures.nature c.make_new.ensures.bytes c.into_disk-disk.ensures.one
    (subst (λ (size : ℕ). IsCopyMade (record { version = version; checked = found }) c.args.identity meaning making size (meaning.state_of disk)) size_is copy))
    c.make_new.ensures.made

pub returns-clause-refused : goal.returns-clause-refused
returns-clause-refused g c =
    let meaning = g.S.Disk.Disk.meaning in
    let known = g.S.LogFiles.disks c.args.files.now c.args.old.now in
    let making = g.S.LogFiles.making c.args.files.now c.args.new.now in
    let version = c.in-Ok.journal.version in
    let opened = c.in-Ok.journal.disk in
    let disk = c.into_disk-disk.result in
    let found = c.in-Ok-check.checked in
    let same = c.check.ensures.version ∙ ap (λ records. records.format) c.new-records.ensures.records in
    let checked = subst (λ records. IsChecked (journal_records_meaning meaning) records c.check.new.records found) c.new-records.ensures.records c.in-Ok-check.ensures.checked in
    let size_is : c.in-Some.size ≡ copy_size version (meaning.state_of opened).size = c.in-Some.ensures.found ∙ ap (copy_size version) c.size-size.ensures in
    if_err (CopyNotMade (record { version = version; checked = found }) c.args.identity meaning making c.in-Some.size (meaning.state_of disk) (meaning.state_of c.make_new.new.old))
    (IsCopyJournalRefused c.args.identity meaning known making) c.make_new.result
    (λ why refused. not_copied c.args.identity meaning known making version opened c.check.new.records disk c.make_new.new.old found c.in-Ok.ensures.opened checked same c.into_disk-disk.ensures.disk
    why c.make_new.ensures.bytes c.make_new.ensures.nature c.into_disk-disk.ensures.one
    (subst (λ (size : ℕ). CopyNotMade (record { version = version; checked = found }) c.args.identity meaning making size (meaning.state_of disk) (meaning.state_of c.make_new.new.old) why) size_is refused))
    c.make_new.ensures.refused

pub returns-in_default-size_of_copy-clause-refused : goal.returns-in_default-size_of_copy-clause-refused
returns-in_default-size_of_copy-clause-refused g c =
    let meaning = g.S.Disk.Disk.meaning in
    let known = g.S.LogFiles.disks c.args.files.now c.args.old.now in
    let making = g.S.LogFiles.making c.args.files.now c.args.new.now in
    let version = c.in-Ok.journal.version in
    let opened = c.in-Ok.journal.disk in
    let disk = c.into_disk-disk.result in
    let found = c.in-Ok-check.checked in
    let same = c.check.ensures.version ∙ ap (λ records. records.format) c.new-records.ensures.records in
    let checked = subst (λ records. IsChecked (journal_records_meaning meaning) records c.check.new.records found) c.new-records.ensures.records c.in-Ok-check.ensures.checked in
    no_size c.args.identity meaning known making version opened c.check.new.records disk disk found c.in-Ok.ensures.opened checked same c.into_disk-disk.ensures.disk
    (keeps_none (meaning.state_of disk)) (bytes_none (meaning.state_of disk))
    (subst (λ (size : ℕ). IsNoSize (copy_size version size)) c.size-size.ensures c.in_default-size_of_copy.ensures.none)
