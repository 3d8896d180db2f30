use Rattle.std.proofs.lemmas.Result.{err_from_is_err_and}
use Rattle.duk_store.proofs.BroughtUp.{brought_up, no_header, not_opened, not_visited}
use Rattle.duk_store.proofs.Identity.{identity_stays}
use Rattle.duk_store.proofs.record_steps.bring_up.Goals as goal

pub visit_records-requires-clause-identity : goal.visit_records-requires-clause-identity
visit_records-requires-clause-identity g c =
    let same = c.in_ok-identity.ensures.same in
    identity_stays (g.F.Format.meaning c.args.format.now) c.in_ok-identity.identity (g.D.Disk.meaning.state_of c.open_disk.new.disk) (g.D.Disk.meaning.state_of c.read_header.new.disk) same.nature same.bytes c.in_ok-identity.ensures.identity

pub returns-clause-up : goal.returns-clause-up
returns-clause-up g c =
    let format = g.F.Format.meaning c.args.format.now in
    let old = g.D.Disk.meaning.state_of c.args.disk.now in
    let one = g.D.Disk.meaning.state_of c.open_disk.new.disk in
    let two = g.D.Disk.meaning.state_of c.read_header.new.disk in
    let new = g.D.Disk.meaning.state_of c.visit_records.new.disk in
    brought_up format g.V.Visitor.takes g.V.Visitor.refuses c.args.visitor.now old one c.in_ok-open_disk.ensures.open_now two new c.in_ok-identity.ensures.same c.visit_records.new.visitor c.in_ok-count.count
    c.in_ok-identity.ensures.header c.in_ok-count.ensures.read

pub returns-clause-identity : goal.returns-clause-identity
returns-clause-identity g c =
    let format = g.F.Format.meaning c.args.format.now in
    let identity = c.in_ok-identity.identity in
    let one = g.D.Disk.meaning.state_of c.open_disk.new.disk in
    let two = g.D.Disk.meaning.state_of c.read_header.new.disk in
    let new = g.D.Disk.meaning.state_of c.visit_records.new.disk in
    let same = c.in_ok-identity.ensures.same in
    let read = c.in_ok-count.ensures.read in
    identity_stays format identity two new read.stays.nature read.stays.bytes (identity_stays format identity one two same.nature same.bytes c.in_ok-identity.ensures.identity)

pub returns-in_err-count-clause-failed : goal.returns-in_err-count-clause-failed
returns-in_err-count-clause-failed g c =
    let p = err_from_is_err_and c.from_residual-in_err-count.result c.from_residual-in_err-count.ensures.1 in
    let format = g.F.Format.meaning c.args.format.now in
    let old = g.D.Disk.meaning.state_of c.args.disk.now in
    let one = g.D.Disk.meaning.state_of c.open_disk.new.disk in
    let two = g.D.Disk.meaning.state_of c.read_header.new.disk in
    let new = g.D.Disk.meaning.state_of c.visit_records.new.disk in
    rw (p.1, p.2)
    (not_visited format g.V.Visitor.takes g.V.Visitor.refuses c.args.visitor.now old one c.in_ok-open_disk.ensures.open_now two new c.in_ok-identity.ensures.same c.in_err-count.field-0.0 c.in_err-count.ensures.failed)

pub returns-in_err-open_disk-clause-failed : goal.returns-in_err-open_disk-clause-failed
returns-in_err-open_disk-clause-failed g c =
    let p = err_from_is_err_and c.from_residual.result c.from_residual.ensures.1 in
    rw (p.1, p.2)
    (not_opened (g.F.Format.meaning c.args.format.now) g.V.Visitor.takes g.V.Visitor.refuses c.args.visitor.now (g.D.Disk.meaning.state_of c.args.disk.now) (g.D.Disk.meaning.state_of c.open_disk.new.disk) c.in_err-open_disk.field-0.0 c.in_err-open_disk.ensures.failed)

pub returns-in_err-identity-clause-failed : goal.returns-in_err-identity-clause-failed
returns-in_err-identity-clause-failed g c =
    let p = err_from_is_err_and c.from_residual-in_err-identity.result c.from_residual-in_err-identity.ensures.1 in
    rw (p.1, p.2)
    (no_header (g.F.Format.meaning c.args.format.now) g.V.Visitor.takes g.V.Visitor.refuses c.args.visitor.now (g.D.Disk.meaning.state_of c.args.disk.now) (g.D.Disk.meaning.state_of c.open_disk.new.disk) c.in_ok-open_disk.ensures.open_now
    (g.D.Disk.meaning.state_of c.read_header.new.disk) c.in_err-identity.field-0.0 c.in_err-identity.ensures.failed)
