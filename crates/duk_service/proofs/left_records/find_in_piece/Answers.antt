use Rattle.std.proofs.Common.{◌∙◌, ◌*◌, List, ℕ, ap, length, sym}
use Rattle.duk_store.specs.Disk.{range_of}
use Rattle.duk_service.specs.LeftRecords.{record_length}
use Rattle.duk_service.proofs.LeftRecords.{last_of_piece, none_of_piece}
use Rattle.duk_service.proofs.left_records.find_in_piece.Goals as goal

pub returns-in-None-clause-found : goal.returns-in-None-clause-found
returns-in-None-clause-found g c honest =
    let read = c.in_ok-read_at.ensures in
    none_of_piece c.args.layout c.args.mark c.args.start c.args.count _ c.read_at.new.bytes
    (read.read (read.nature.honest.1 honest)
    ∙ ap (λ (n : ℕ). range_of (n * c.args.start) (length c.args.piece.now) (g.D.Disk.meaning.state_of c.args.disk.now).reads) c.record_length.ensures
    ∙ ap (λ (n : ℕ). range_of (record_length c.args.layout * c.args.start) n (g.D.Disk.meaning.state_of c.args.disk.now).reads) c.requires.whole
    ∙ ap (λ (b : List ℕ). range_of (record_length c.args.layout * c.args.start) (record_length c.args.layout * c.args.count) b) (sym read.bytes.reads))
    c.in-None.ensures.found

pub returns-in-Some-clause-found : goal.returns-in-Some-clause-found
returns-in-Some-clause-found g c honest =
    let read = c.in_ok-read_at.ensures in
    last_of_piece c.args.layout c.args.mark c.args.start c.args.count c.in-Some.place _ c.read_at.new.bytes
    (read.read (read.nature.honest.1 honest)
    ∙ ap (λ (n : ℕ). range_of (n * c.args.start) (length c.args.piece.now) (g.D.Disk.meaning.state_of c.args.disk.now).reads) c.record_length.ensures
    ∙ ap (λ (n : ℕ). range_of (record_length c.args.layout * c.args.start) n (g.D.Disk.meaning.state_of c.args.disk.now).reads) c.requires.whole
    ∙ ap (λ (b : List ℕ). range_of (record_length c.args.layout * c.args.start) (record_length c.args.layout * c.args.count) b) (sym read.bytes.reads))
    c.in-Some.ensures.found
