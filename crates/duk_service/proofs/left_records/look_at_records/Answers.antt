use Rattle.std.proofs.Common.{◌≡◌, ◌∙◌, ◌+◌, ◌*◌, ◌<◌, ◌≤◌, List, ℕ, true, false, ap, arith, length, subst, sym}
use Rattle.duk_service.specs.LeftRecords.{AreClosedFrom, AreInGroups, HasFront, record_length}
use Rattle.duk_service.specs.inner.GrowJournal.{front_of}
use Rattle.duk_service.specs.inner.LeftRecords.{HasLast}
use Rattle.duk_service.specs.declared.left_records.Mark.TheVariants.{Gated, Used}
use Rattle.duk_service.proofs.Fronts.{counted_part, front_length, last_in_front, part_begins}
use Rattle.duk_service.proofs.LeftRecords.{blank_seen, foreign_seen, last_used, used_left}
use Rattle.duk_service.proofs.left_records.look_at_records.Goals as goal
use Rattle.duk_service.proofs.left_records.look_at_records.Goals.{else-last-kept-via-then-last-kept+else-may_stand, else-last-kept-via-else-last-kept}

pub returns-in-None-clause-seen : goal.returns-in-None-clause-seen
returns-in-None-clause-seen g c honest zeros =
    let disk = c.find_last.new.disk in
    let d = g.D.Disk.meaning.state_of disk in
    let long : length d.reads ≡ (g.D.Disk.meaning.state_of c.args.disk.now).size =
    g.D.Disk.leaves_its_size disk honest d.reads (g.D.Disk.reads_may_stay disk honest) ∙ c.in_ok-find_last.ensures.nature.size in
    let inside : record_length c.args.layout * c.args.records ≤ length d.reads =
    subst (λ (n : ℕ). record_length c.args.layout * c.args.records ≤ n) (sym long) c.requires.size in
    blank_seen c.args.layout c.args.records (front_of c.args.layout c.args.records d.reads) c.in_ok-find_last.field-0 c.in-None.is c.requires.some
    (front_length c.args.layout c.args.records d.reads inside)
    (part_begins c.args.layout c.args.records d.reads c.requires.some
    (subst (λ (b : List ℕ). HasFront c.args.layout b) (sym c.in_ok-find_last.ensures.bytes.reads) (c.requires.front (c.in_ok-find_last.ensures.nature.honest.1 honest))))
    (last_in_front c.args.layout c.args.records d.reads Used c.args.records c.in_ok-find_last.field-0 (omega arith) (c.in_ok-find_last.ensures.found honest))

pub returns-then-may_stand-clause-seen : goal.returns-then-may_stand-clause-seen
returns-then-may_stand-clause-seen g c honest zeros =
    let disk = c.find_last-2.new.disk in
    let d = g.D.Disk.meaning.state_of disk in
    let one = c.in_ok-find_last.ensures in
    let two = c.in_ok-kept.ensures in
    let three = c.in_ok-gated.ensures in
    let honest_two = three.nature.honest.1 honest in
    let honest_one = two.nature.honest.1 honest_two in
    let long : length d.reads ≡ (g.D.Disk.meaning.state_of c.args.disk.now).size =
    g.D.Disk.leaves_its_size disk honest d.reads (g.D.Disk.reads_may_stay disk honest) ∙ three.nature.size ∙ two.nature.size ∙ one.nature.size in
    let inside : record_length c.args.layout * c.args.records ≤ length d.reads =
    subst (λ (n : ℕ). record_length c.args.layout * c.args.records ≤ n) (sym long) c.requires.size in
    let part : List ℕ = front_of c.args.layout c.args.records d.reads in
    let size : length part ≡ record_length c.args.layout * c.args.records = front_length c.args.layout c.args.records d.reads inside in
    let same = sym (three.bytes.reads ∙ two.bytes.reads) in
    let found = one.found honest_one in
    let used : HasLast c.args.layout Used 0 c.args.records part c.in-Some.last =
    last_used c.args.layout c.args.records c.in-Some.last _ part c.in_ok-find_last.field-0 c.in-Some.is (ap (front_of c.args.layout c.args.records) same)
    (last_in_front c.args.layout c.args.records _ Used c.args.records c.in_ok-find_last.field-0 (omega arith) found) in
    let counted : AreClosedFrom c.args.layout (c.in-Some.last + 1) d.reads → AreInGroups c.args.layout c.in_ok-kept.kept d.reads =
    subst (λ (b : List ℕ). AreClosedFrom c.args.layout (c.in-Some.last + 1) b → AreInGroups c.args.layout c.in_ok-kept.kept b) (sym three.bytes.reads) (two.counted honest_two) in
    let counted_in = counted_part c.args.layout c.args.records d.reads inside zeros (c.in-Some.last + 1) c.in_ok-kept.kept counted in
    let gated = last_in_front c.args.layout c.args.records d.reads Gated (c.in-Some.last + 1) c.in_ok-gated.gated (omega (arith, used.before)) (three.found honest) in
    used_left c.args.layout c.args.records c.in-Some.last c.in_ok-kept.kept c.in_ok-gated.gated part size used counted_in gated
    (part_begins c.args.layout c.args.records d.reads c.requires.some
    (subst (λ (b : List ℕ). HasFront c.args.layout b) (sym (three.bytes.reads ∙ two.bytes.reads ∙ one.bytes.reads)) (c.requires.front (one.nature.honest.1 honest_one))))
    (subst (λ (n : ℕ). c.in-Some.last < c.in_ok-kept.kept + n) c.most_of_group.ensures c.if-last-kept.true)
    (c.may_stand.ensures.0 c.if-may_stand.true)

pub returns-else-last-kept-clause-seen : goal.returns-else-last-kept-clause-seen
returns-else-last-kept-clause-seen g c honest zeros =
    let disk = c.find_last-2.new.disk in
    let d = g.D.Disk.meaning.state_of disk in
    let one = c.in_ok-find_last.ensures in
    let two = c.in_ok-kept.ensures in
    let three = c.in_ok-gated.ensures in
    let honest_two = three.nature.honest.1 honest in
    let honest_one = two.nature.honest.1 honest_two in
    let long : length d.reads ≡ (g.D.Disk.meaning.state_of c.args.disk.now).size =
    g.D.Disk.leaves_its_size disk honest d.reads (g.D.Disk.reads_may_stay disk honest) ∙ three.nature.size ∙ two.nature.size ∙ one.nature.size in
    let inside : record_length c.args.layout * c.args.records ≤ length d.reads =
    subst (λ (n : ℕ). record_length c.args.layout * c.args.records ≤ n) (sym long) c.requires.size in
    let part : List ℕ = front_of c.args.layout c.args.records d.reads in
    let size : length part ≡ record_length c.args.layout * c.args.records = front_length c.args.layout c.args.records d.reads inside in
    let same = sym (three.bytes.reads ∙ two.bytes.reads) in
    let found = one.found honest_one in
    let used : HasLast c.args.layout Used 0 c.args.records part c.in-Some.last =
    last_used c.args.layout c.args.records c.in-Some.last _ part c.in_ok-find_last.field-0 c.in-Some.is (ap (front_of c.args.layout c.args.records) same)
    (last_in_front c.args.layout c.args.records _ Used c.args.records c.in_ok-find_last.field-0 (omega arith) found) in
    let counted : AreClosedFrom c.args.layout (c.in-Some.last + 1) d.reads → AreInGroups c.args.layout c.in_ok-kept.kept d.reads =
    subst (λ (b : List ℕ). AreClosedFrom c.args.layout (c.in-Some.last + 1) b → AreInGroups c.args.layout c.in_ok-kept.kept b) (sym three.bytes.reads) (two.counted honest_two) in
    let counted_in = counted_part c.args.layout c.args.records d.reads inside zeros (c.in-Some.last + 1) c.in_ok-kept.kept counted in
    let gated = last_in_front c.args.layout c.args.records d.reads Gated (c.in-Some.last + 1) c.in_ok-gated.gated (omega (arith, used.before)) (three.found honest) in
    foreign_seen c.args.layout c.args.records c.in-Some.last c.in_ok-kept.kept c.in_ok-gated.gated part size used counted_in gated
    (part_begins c.args.layout c.args.records d.reads c.requires.some
    (subst (λ (b : List ℕ). HasFront c.args.layout b) (sym (three.bytes.reads ∙ two.bytes.reads ∙ one.bytes.reads)) (c.requires.front (one.nature.honest.1 honest_one))))
    (λ so. elim c.else-last-kept.branch [
      | else-last-kept-via-then-last-kept+else-may_stand w ↦
          let never : true ≡ false = sym (w.may_stand.ensures.1 so.1) ∙ w.if-may_stand.false in cc
      | else-last-kept-via-else-last-kept w ↦
          let far = w.if-last-kept.false in
          let near = subst (λ (n : ℕ). c.in-Some.last < c.in_ok-kept.kept + n) (sym c.most_of_group.ensures) so.0 in
          omega (arith, far, near)
    ])
