use Rattle.std.proofs.Common.{◌≡◌, ◌∙◌, ◌≤◌, arith, length, sym}
use Rattle.duk_service.specs.declared.left_records.Seen.TheVariants.{Cut, Empty, Foreign, OtherFront}
use Rattle.duk_service.proofs.Fronts.{foreign_to_grow, grown_parts, left_to_grow, not_to_grow, other_bytes, other_front, zeros_seen}
use Rattle.duk_service.proofs.growable.may_be_grown.Goals as goal

pub returns-then-records-eq0-clause-seen : goal.returns-then-records-eq0-clause-seen
returns-then-records-eq0-clause-seen g c =
    let disk = c.args.disk.now in
    let d = g.D.Disk.meaning.state_of disk in
    let long : d.honest → length d.reads ≡ c.size-size.result =
    (λ honest. g.D.Disk.leaves_its_size disk honest d.reads (g.D.Disk.reads_may_stay disk honest) ∙ sym c.size-size.ensures) in
    not_to_grow c.args.layout (g.D.Disk.meaning.state_of disk) (λ honest growable.
    let some = (grown_parts c.args.layout c.size-size.result c.record_length-length.result c.record_length-length.ensures (g.D.Disk.meaning.state_of disk).reads (long honest) growable).0 in omega (arith, some, c.if-records-eq0.true))

pub returns-then-not-branch-clause-seen : goal.returns-then-not-branch-clause-seen
returns-then-not-branch-clause-seen g c =
    let disk = c.has_front.new.disk in
    other_front c.args.layout c.size-size.result c.record_length-length.result c.record_length-length.ensures (g.D.Disk.meaning.state_of disk)
    (λ honest. g.D.Disk.leaves_its_size disk honest (g.D.Disk.meaning.state_of disk).reads (g.D.Disk.reads_may_stay disk honest) ∙ c.in_ok-has_front.ensures.nature.size ∙ sym c.size-size.ensures)
    c.in_ok-has_front.field-0 c.if-not-branch.true c.in_ok-has_front.ensures.seen

pub returns-then-not-branch-2-clause-seen : goal.returns-then-not-branch-2-clause-seen
returns-then-not-branch-2-clause-seen g c =
    let disk = c.are_zeros.new.disk in
    other_bytes c.args.layout c.size-size.result c.record_length-length.result c.record_length-length.ensures (g.D.Disk.meaning.state_of disk)
    (λ honest. g.D.Disk.leaves_its_size disk honest (g.D.Disk.meaning.state_of disk).reads (g.D.Disk.reads_may_stay disk honest) ∙ c.in_ok-are_zeros.ensures.nature.size ∙ c.in_ok-has_front.ensures.nature.size ∙ sym c.size-size.ensures)
    c.in_ok-are_zeros.field-0 c.if-not-branch-2.true c.in_ok-are_zeros.ensures.are

pub returns-in-Left-clause-seen : goal.returns-in-Left-clause-seen
returns-in-Left-clause-seen g c =
    let mid = c.are_zeros.new.disk in
    let disk = c.look_at_records.new.disk in
    left_to_grow c.args.layout c.size-size.result c.record_length-length.result c.record_length-length.ensures (g.D.Disk.meaning.state_of disk)
    (λ honest. g.D.Disk.leaves_its_size disk honest (g.D.Disk.meaning.state_of disk).reads (g.D.Disk.reads_may_stay disk honest) ∙ c.in_ok-look_at_records.ensures.nature.size ∙ c.in_ok-are_zeros.ensures.nature.size ∙ c.in_ok-has_front.ensures.nature.size ∙ sym c.size-size.ensures)
    (zeros_seen c.args.layout c.size-size.result c.record_length-length.result c.record_length-length.ensures (g.D.Disk.meaning.state_of mid) (g.D.Disk.meaning.state_of disk)
    (λ honest. g.D.Disk.leaves_its_size mid honest (g.D.Disk.meaning.state_of mid).reads (g.D.Disk.reads_may_stay mid honest) ∙ c.in_ok-are_zeros.ensures.nature.size ∙ c.in_ok-has_front.ensures.nature.size ∙ sym c.size-size.ensures)
    c.in_ok-look_at_records.ensures.nature.honest.1 c.in_ok-look_at_records.ensures.bytes.reads c.in_ok-are_zeros.field-0 c.if-not-branch-2.false c.in_ok-are_zeros.ensures.are)
    c.in_ok-look_at_records.field-0 c.in-Left.is c.in_ok-look_at_records.ensures.seen

pub returns-in-Empty-clause-seen : goal.returns-in-Empty-clause-seen
returns-in-Empty-clause-seen g c =
    let mid = c.are_zeros.new.disk in
    let disk = c.look_at_records.new.disk in
    foreign_to_grow c.args.layout c.size-size.result c.record_length-length.result c.record_length-length.ensures (g.D.Disk.meaning.state_of disk)
    (λ honest. g.D.Disk.leaves_its_size disk honest (g.D.Disk.meaning.state_of disk).reads (g.D.Disk.reads_may_stay disk honest) ∙ c.in_ok-look_at_records.ensures.nature.size ∙ c.in_ok-are_zeros.ensures.nature.size ∙ c.in_ok-has_front.ensures.nature.size ∙ sym c.size-size.ensures)
    (zeros_seen c.args.layout c.size-size.result c.record_length-length.result c.record_length-length.ensures (g.D.Disk.meaning.state_of mid) (g.D.Disk.meaning.state_of disk)
    (λ honest. g.D.Disk.leaves_its_size mid honest (g.D.Disk.meaning.state_of mid).reads (g.D.Disk.reads_may_stay mid honest) ∙ c.in_ok-are_zeros.ensures.nature.size ∙ c.in_ok-has_front.ensures.nature.size ∙ sym c.size-size.ensures)
    c.in_ok-look_at_records.ensures.nature.honest.1 c.in_ok-look_at_records.ensures.bytes.reads c.in_ok-are_zeros.field-0 c.if-not-branch-2.false c.in_ok-are_zeros.ensures.are)
    c.in_ok-look_at_records.field-0 Empty c.in-Empty.is tt c.in_ok-look_at_records.ensures.seen

pub returns-in-Cut-clause-seen : goal.returns-in-Cut-clause-seen
returns-in-Cut-clause-seen g c =
    let mid = c.are_zeros.new.disk in
    let disk = c.look_at_records.new.disk in
    foreign_to_grow c.args.layout c.size-size.result c.record_length-length.result c.record_length-length.ensures (g.D.Disk.meaning.state_of disk)
    (λ honest. g.D.Disk.leaves_its_size disk honest (g.D.Disk.meaning.state_of disk).reads (g.D.Disk.reads_may_stay disk honest) ∙ c.in_ok-look_at_records.ensures.nature.size ∙ c.in_ok-are_zeros.ensures.nature.size ∙ c.in_ok-has_front.ensures.nature.size ∙ sym c.size-size.ensures)
    (zeros_seen c.args.layout c.size-size.result c.record_length-length.result c.record_length-length.ensures (g.D.Disk.meaning.state_of mid) (g.D.Disk.meaning.state_of disk)
    (λ honest. g.D.Disk.leaves_its_size mid honest (g.D.Disk.meaning.state_of mid).reads (g.D.Disk.reads_may_stay mid honest) ∙ c.in_ok-are_zeros.ensures.nature.size ∙ c.in_ok-has_front.ensures.nature.size ∙ sym c.size-size.ensures)
    c.in_ok-look_at_records.ensures.nature.honest.1 c.in_ok-look_at_records.ensures.bytes.reads c.in_ok-are_zeros.field-0 c.if-not-branch-2.false c.in_ok-are_zeros.ensures.are)
    c.in_ok-look_at_records.field-0 Cut c.in-Cut.is tt c.in_ok-look_at_records.ensures.seen

pub returns-in-OtherFront-clause-seen : goal.returns-in-OtherFront-clause-seen
returns-in-OtherFront-clause-seen g c =
    let mid = c.are_zeros.new.disk in
    let disk = c.look_at_records.new.disk in
    foreign_to_grow c.args.layout c.size-size.result c.record_length-length.result c.record_length-length.ensures (g.D.Disk.meaning.state_of disk)
    (λ honest. g.D.Disk.leaves_its_size disk honest (g.D.Disk.meaning.state_of disk).reads (g.D.Disk.reads_may_stay disk honest) ∙ c.in_ok-look_at_records.ensures.nature.size ∙ c.in_ok-are_zeros.ensures.nature.size ∙ c.in_ok-has_front.ensures.nature.size ∙ sym c.size-size.ensures)
    (zeros_seen c.args.layout c.size-size.result c.record_length-length.result c.record_length-length.ensures (g.D.Disk.meaning.state_of mid) (g.D.Disk.meaning.state_of disk)
    (λ honest. g.D.Disk.leaves_its_size mid honest (g.D.Disk.meaning.state_of mid).reads (g.D.Disk.reads_may_stay mid honest) ∙ c.in_ok-are_zeros.ensures.nature.size ∙ c.in_ok-has_front.ensures.nature.size ∙ sym c.size-size.ensures)
    c.in_ok-look_at_records.ensures.nature.honest.1 c.in_ok-look_at_records.ensures.bytes.reads c.in_ok-are_zeros.field-0 c.if-not-branch-2.false c.in_ok-are_zeros.ensures.are)
    c.in_ok-look_at_records.field-0 OtherFront c.in-OtherFront.is tt c.in_ok-look_at_records.ensures.seen

pub returns-in-Foreign-clause-seen : goal.returns-in-Foreign-clause-seen
returns-in-Foreign-clause-seen g c =
    let mid = c.are_zeros.new.disk in
    let disk = c.look_at_records.new.disk in
    foreign_to_grow c.args.layout c.size-size.result c.record_length-length.result c.record_length-length.ensures (g.D.Disk.meaning.state_of disk)
    (λ honest. g.D.Disk.leaves_its_size disk honest (g.D.Disk.meaning.state_of disk).reads (g.D.Disk.reads_may_stay disk honest) ∙ c.in_ok-look_at_records.ensures.nature.size ∙ c.in_ok-are_zeros.ensures.nature.size ∙ c.in_ok-has_front.ensures.nature.size ∙ sym c.size-size.ensures)
    (zeros_seen c.args.layout c.size-size.result c.record_length-length.result c.record_length-length.ensures (g.D.Disk.meaning.state_of mid) (g.D.Disk.meaning.state_of disk)
    (λ honest. g.D.Disk.leaves_its_size mid honest (g.D.Disk.meaning.state_of mid).reads (g.D.Disk.reads_may_stay mid honest) ∙ c.in_ok-are_zeros.ensures.nature.size ∙ c.in_ok-has_front.ensures.nature.size ∙ sym c.size-size.ensures)
    c.in_ok-look_at_records.ensures.nature.honest.1 c.in_ok-look_at_records.ensures.bytes.reads c.in_ok-are_zeros.field-0 c.if-not-branch-2.false c.in_ok-are_zeros.ensures.are)
    c.in_ok-look_at_records.field-0 (Foreign c.in-Foreign.field-0) c.in-Foreign.is tt c.in_ok-look_at_records.ensures.seen
