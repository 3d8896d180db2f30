use Rattle.duk_service.specs.inner.CopyJournal.{CopyNotMade, NewNotKept}
use Rattle.duk_service.proofs.CopiedJournal.{not_kept, not_made}
use Rattle.duk_service.proofs.Results.{if_err}
use Rattle.duk_service.proofs.copy_journal.make_new.Goals as goal

pub returns-in-Ok-write_new-clause-refused : goal.returns-in-Ok-write_new-clause-refused
returns-in-Ok-write_new-clause-refused g c =
    let meaning = g.S.Disk.Disk.meaning in
    let making = g.S.LogFiles.making c.args.files.now c.args.file.now in
    if_err (NewNotKept meaning making.folder c.args.source.checked c.write_new.new.disk)
    (CopyNotMade c.args.source c.args.identity meaning making c.args.size (meaning.state_of c.args.old.now) (meaning.state_of c.write_new.new.old)) c.keep_new.result
    (λ why refused. not_kept c.args.source c.args.identity meaning making c.args.size (meaning.state_of c.args.old.now) (meaning.state_of c.write_new.new.old)
    c.in-Ok.disk c.write_new.new.disk why c.in-Ok.ensures.made c.in-Ok-write_new.ensures.written.copied refused)
    c.keep_new.ensures.refused

pub returns-in-Err-clause-refused : goal.returns-in-Err-clause-refused
returns-in-Err-clause-refused g c =
    let meaning = g.S.Disk.Disk.meaning in
    not_made c.args.source c.args.identity meaning (g.S.LogFiles.making c.args.files.now c.args.file.now) c.args.size (meaning.state_of c.args.old.now) (meaning.state_of c.write_new.new.old)
    c.in-Ok.disk c.write_new.new.disk c.in-Err.why c.in-Ok.ensures.made c.in-Err.ensures.refused c.write_new.ensures.left
