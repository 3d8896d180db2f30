use Rattle.std.proofs.Common.{◌≡◌, ◌∙◌, ◌*◌, ◌/◌, ℕ, subst, sym}
use Rattle.std.proofs.lemmas.Result.{IfOk-weaker}
use Rattle.duk_service.specs.LeftRecords.{IsWhole, record_length}
use Rattle.duk_service.proofs.Fronts.{whole_seen, whole_size_of}
use Rattle.duk_service.proofs.LeftRecords.{cut_not_whole, empty_not_left, size_not_left, some_bytes}
use Rattle.duk_service.proofs.left_records.look_at.Goals as goal

pub returns-then-size-eq0-clause-seen : goal.returns-then-size-eq0-clause-seen
returns-then-size-eq0-clause-seen g c =
    let d = g.D.Disk.meaning.state_of c.args.disk.now in
    let none : d.size ≡ 0 = sym c.size-size.ensures ∙ c.if-size-eq0.true in (
      none,
      λ honest. empty_not_left c.args.layout d.reads
          (g.D.Disk.leaves_its_size c.args.disk.now honest d.reads (g.D.Disk.reads_may_stay c.args.disk.now honest) ∙ none),
    )

pub returns-then-size-length-ne0-clause-seen : goal.returns-then-size-length-ne0-clause-seen
returns-then-size-length-ne0-clause-seen g c =
    let d = g.D.Disk.meaning.state_of c.args.disk.now in
    let not_whole : ¬ IsWhole c.args.layout d.size =
    subst (λ (n : ℕ). ¬ IsWhole c.args.layout n) c.size-size.ensures
    (cut_not_whole c.args.layout c.size-size.result c.record_length-length.result c.record_length-length.ensures c.if-size-length-ne0.true) in (
      record { some = some_bytes d.size (λ none. c.if-size-eq0.false (c.size-size.ensures ∙ none)); not_whole = not_whole },
      λ honest. size_not_left c.args.layout d.size d.reads
          (g.D.Disk.leaves_its_size c.args.disk.now honest d.reads (g.D.Disk.reads_may_stay c.args.disk.now honest)) not_whole,
    )

pub returns-clause-seen : goal.returns-clause-seen
returns-clause-seen g c =
    let disk = c.look_at_records.new.disk in
    let d = g.D.Disk.meaning.state_of disk in
    let records : ℕ = c.size-size.result / c.record_length-length.result in
    let size : (g.D.Disk.meaning.state_of c.args.disk.now).size ≡ record_length c.args.layout * records =
    sym c.size-size.ensures ∙ whole_size_of c.args.layout c.size-size.result c.record_length-length.result c.record_length-length.ensures c.if-size-length-ne0.false in
    IfOk-weaker c.look_at_records.result _ _
    (whole_seen c.args.layout records d
    (λ honest. g.D.Disk.leaves_its_size disk honest d.reads (g.D.Disk.reads_may_stay disk honest)
    ∙ c.look_at_records.ensures.nature.size ∙ c.in_ok-has_front.ensures.nature.size ∙ size))
    c.look_at_records.ensures.seen
