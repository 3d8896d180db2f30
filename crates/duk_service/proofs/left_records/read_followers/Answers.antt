use Rattle.std.proofs.Common.{◌≡◌, ◌∙◌, ◌+◌, ◌*◌, List, ℕ, ap, subst, sym}
use Rattle.duk_store.specs.Disk.{range_of}
use Rattle.duk_service.specs.LeftRecords.{followers_in, record_at}
use Rattle.duk_service.specs.declared.left_records.Layout.{Layout}
use Rattle.duk_service.proofs.LeftFollowers.{followers_read, header_has_none}
use Rattle.duk_service.proofs.left_records.read_followers.Goals as goal

pub returns-then-is_header-clause-read : goal.returns-then-is_header-clause-read
returns-then-is_header-clause-read g c honest =
    let d = g.D.Disk.meaning.state_of c.args.disk.now in
    subst (λ (l : Layout). 0 ≡ followers_in l c.args.place (record_at l c.args.place d.reads)) (sym c.in-Journal.is)
    (header_has_none c.in-Journal.version c.args.place d.reads (c.is_header.ensures.0 c.if-is_header.true))

pub returns-in_ok-read_at-in-Journal-clause-read :
    goal.returns-in_ok-read_at-in-Journal-clause-read
returns-in_ok-read_at-in-Journal-clause-read g c honest =
    let read = c.in_ok-read_at-in-Journal.ensures in
    let d = g.D.Disk.meaning.state_of c.read_at.new.self in
    subst (λ (l : Layout). c.from_be_bytes.result ≡ followers_in l c.args.place (record_at l c.args.place d.reads)) (sym c.in-Journal.is)
    (followers_read c.in-Journal.version c.args.place c.from_be_bytes.result d.reads c.read_at.new.bytes
    (λ two zero. let is = c.is_header.ensures.1 (two, zero) in let not = c.if-is_header.false in cc)
    c.from_be_bytes.ensures
    (read.read (read.nature.honest.1 honest)
    ∙ ap (λ (b : List ℕ). range_of (32 * c.args.place + 2) 2 b) (sym read.bytes.reads)))
