use Rattle.std.proofs.lemmas.Result.{err_from_is_err_and}
use Rattle.duk_journal.specs.Header.{journal_kind}
use Rattle.duk_journal_copy.proofs.Copied.{both_copied, copied_in_part, why_not}
use Rattle.duk_journal_copy.proofs.InPart.{in_part_behind}
use Rattle.duk_journal_copy.proofs.WrittenDisks.{outside_none}
use Rattle.duk_journal_copy.proofs.copy.write_copy.Goals as goal

pub returns-in_default-clause-in_part : goal.returns-in_default-clause-in_part
returns-in_default-clause-in_part g c =
    let before = g.E.Disk.meaning.state_of c.args.new.now in
    λ h entries keeps counted. in_part_behind entries 2 before before (outside_none 2 2 before)

pub returns-in_err-copy_rest-clause-failed : goal.returns-in_err-copy_rest-clause-failed
returns-in_err-copy_rest-clause-failed g c =
    let p = err_from_is_err_and c.from_residual.result c.from_residual.ensures.1 in
    rw (p.1, p.2) (why_not c.args.kept c.in-Ok.own (g.D.Disk.meaning.state_of c.args.old.now) (g.D.Disk.meaning.state_of c.read_identity.new.disk) (g.D.Disk.meaning.state_of c.copy_rest.new.old)
    (g.E.Disk.meaning.state_of c.args.new.now) (g.E.Disk.meaning.state_of c.copy_rest.new.new) c.in_err-copy_rest.field-0.0
    c.read_identity.ensures.nature c.read_identity.ensures.bytes c.in-Ok.ensures.identity c.in_err-copy_rest.ensures.failed)

pub returns-in_err-copy_rest-clause-in_part : goal.returns-in_err-copy_rest-clause-in_part
returns-in_err-copy_rest-clause-in_part g c =
    let before = g.E.Disk.meaning.state_of c.args.new.now in
    let after = g.E.Disk.meaning.state_of c.copy_rest.new.new in
    λ h entries keeps counted. in_part_behind entries before.size before after c.copy_rest.ensures.outside

pub returns-in-Ok-settle_head-clause-copied : goal.returns-in-Ok-settle_head-clause-copied
returns-in-Ok-settle_head-clause-copied g c =
    both_copied c.one_list.ensures c.args.kept c.laws.ensures c.args.identity c.in-Ok.own c.ranges.identity.fits
    (c.headers.ensures.length journal_kind c.args.identity) (c.headers.ensures.identity journal_kind c.args.identity c.ranges.identity.fits)
    (g.D.Disk.meaning.state_of c.args.old.now) (g.D.Disk.meaning.state_of c.read_identity.new.disk) (g.D.Disk.meaning.state_of c.copy_rest.new.old)
    (g.E.Disk.meaning.state_of c.args.new.now) (g.E.Disk.meaning.state_of c.copy_rest.new.new) (g.E.Disk.meaning.state_of c.settle_head.new.disk)
    c.requires.room c.read_identity.ensures.nature c.read_identity.ensures.bytes c.in-Ok.ensures.identity c.in_ok-copy_rest.ensures.copied c.in-Ok-settle_head.ensures.settled

pub returns-in-Ok-settle_head-clause-in_part : goal.returns-in-Ok-settle_head-clause-in_part
returns-in-Ok-settle_head-clause-in_part g c = λ h entries keeps counted.
    copied_in_part c.one_list.ensures c.args.kept c.laws.ensures c.args.identity c.in-Ok.own c.ranges.identity.fits
    (c.headers.ensures.length journal_kind c.args.identity) (c.headers.ensures.identity journal_kind c.args.identity c.ranges.identity.fits)
    (g.D.Disk.meaning.state_of c.args.old.now) (g.D.Disk.meaning.state_of c.read_identity.new.disk) (g.D.Disk.meaning.state_of c.copy_rest.new.old)
    (g.E.Disk.meaning.state_of c.args.new.now) (g.E.Disk.meaning.state_of c.copy_rest.new.new) (g.E.Disk.meaning.state_of c.settle_head.new.disk)
    c.requires.room c.read_identity.ensures.nature c.read_identity.ensures.bytes c.in-Ok.ensures.identity c.in_ok-copy_rest.ensures.copied
    c.copy_rest.ensures.outside c.settle_head.ensures.in_turn h entries keeps counted

pub returns-in-Err-clause-in_part : goal.returns-in-Err-clause-in_part
returns-in-Err-clause-in_part g c = λ h entries keeps counted.
    copied_in_part c.one_list.ensures c.args.kept c.laws.ensures c.args.identity c.in-Ok.own c.ranges.identity.fits
    (c.headers.ensures.length journal_kind c.args.identity) (c.headers.ensures.identity journal_kind c.args.identity c.ranges.identity.fits)
    (g.D.Disk.meaning.state_of c.args.old.now) (g.D.Disk.meaning.state_of c.read_identity.new.disk) (g.D.Disk.meaning.state_of c.copy_rest.new.old)
    (g.E.Disk.meaning.state_of c.args.new.now) (g.E.Disk.meaning.state_of c.copy_rest.new.new) (g.E.Disk.meaning.state_of c.settle_head.new.disk)
    c.requires.room c.read_identity.ensures.nature c.read_identity.ensures.bytes c.in-Ok.ensures.identity c.in_ok-copy_rest.ensures.copied
    c.copy_rest.ensures.outside c.settle_head.ensures.in_turn h entries keeps counted
