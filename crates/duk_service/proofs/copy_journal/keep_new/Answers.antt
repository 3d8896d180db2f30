use Rattle.std.proofs.Common.{◌∙◌, ap, subst}
use Rattle.duk_journal_copy.specs.Version.{journal_records_meaning}
use Rattle.duk_journal_host.specs.Check.{IsChecked}
use Rattle.duk_service.specs.inner.CopyJournal.{CheckedNotKept, IsReadOver}
use Rattle.duk_service.proofs.copy_journal.keep_new.Goals as goal

pub returns-in-Ok-clause-checked : goal.returns-in-Ok-clause-checked
returns-in-Ok-clause-checked g c =
    let meaning = g.S.Disk.Disk.meaning in
    record {
      last = c.keep_checked.new.records;
      version = c.keep_checked.ensures.version ∙ ap (λ records. records.format) c.new-records.ensures.records;
      checked = subst (λ records. IsChecked (journal_records_meaning meaning) records c.keep_checked.new.records c.args.kept) c.new-records.ensures.records c.in-Ok.ensures.checked;
    }

pub returns-in-Err-clause-refused : goal.returns-in-Err-clause-refused
returns-in-Err-clause-refused g c =
    let meaning = g.S.Disk.Disk.meaning in
    let folder = (g.S.LogFiles.making c.args.files.now c.args.file.now).folder in
    let state = (journal_records_meaning meaning).state_of in
    record {
      last = c.keep_checked.new.records;
      version = c.keep_checked.ensures.version ∙ ap (λ records. records.format) c.new-records.ensures.records;
      read_over = subst (λ records. IsReadOver (state records) (state c.keep_checked.new.records)) c.new-records.ensures.records c.keep_checked.ensures.read_over;
      cause = subst (λ records. CheckedNotKept (journal_records_meaning meaning) folder c.args.kept records c.keep_checked.new.records c.in-Err.why) c.new-records.ensures.records c.in-Err.ensures.refused;
    }
