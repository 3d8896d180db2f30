use Rattle.std.proofs.Common.{◌≡◌, ◌∙◌, ◌-◌, ◌≤◌, ℕ, ap, arith, inl, length, replicate, sym}
use Rattle.duk_journal_copy.specs.Blank.{begun_bytes}
use Rattle.duk_journal_copy.specs.inner.Blank.{LeavesOutside}
use Rattle.duk_journal_copy.specs.inner.Head.{HasRestOf}
use Rattle.duk_store.specs.Disk.{written}
use Rattle.duk_journal_copy.proofs.Begun.{begun_in_front, rest_of_begun}
use Rattle.duk_journal_copy.proofs.HeaderBytes.{gate_in, length_in, mark_in, third_in}
use Rattle.duk_journal_copy.proofs.InPart.{file_behind, file_settled}
use Rattle.duk_journal_copy.proofs.Results.{on_ok}
use Rattle.duk_journal_copy.proofs.WrittenDisks.{byte_outside, byte_then, keeps_on, outside_then, outside_wider}
use Rattle.duk_journal_copy.proofs.WrittenLists.{differs_then, whole_by_head}
use Rattle.duk_journal_copy.proofs.begin.begin_file.Goals as goal

pub returns-in_err-write_front-clause-in_part : goal.returns-in_err-write_front-clause-in_part
returns-in_err-write_front-clause-in_part g c =
    let old = g.D.Disk.meaning.state_of c.args.disk.now in
    let front = g.D.Disk.meaning.state_of c.write_front.new.disk in
    file_behind (begun_bytes c.args.kind c.args.identity old.size) 32 old front c.write_front.ensures.outside c.write_front.ensures.stays

pub returns-in_err-write_synced-clause-in_part : goal.returns-in_err-write_synced-clause-in_part
returns-in_err-write_synced-clause-in_part g c =
    let old = g.D.Disk.meaning.state_of c.args.disk.now in
    let front = g.D.Disk.meaning.state_of c.write_front.new.disk in
    let mid = g.D.Disk.meaning.state_of c.write_synced.new.disk in
    let size = c.size-size.result in
    let room : 32 ≤ size = omega (arith, c.size-size.ensures, c.requires.room) in
    file_behind (begun_bytes c.args.kind c.args.identity old.size) size old mid
    (outside_then 2 size old front mid c.write_front.ensures.nature
    (outside_wider 2 size 2 30 old front (omega arith) (omega (arith, room)) c.write_front.ensures.outside)
    (outside_wider 2 size 32 (size - 32) front mid (omega arith) (omega (arith, room)) c.write_synced.ensures.outside))
    (λ right. byte_then 15 old front mid c.write_front.ensures.nature (c.write_front.ensures.stays right)
    (byte_outside 15 32 (size - 32) front mid (inl (omega arith)) c.write_synced.ensures.outside))

pub returns-clause-begun : goal.returns-clause-begun
returns-clause-begun g c =
    let old = g.D.Disk.meaning.state_of c.args.disk.now in
    let front = g.D.Disk.meaning.state_of c.write_front.new.disk in
    let mid = g.D.Disk.meaning.state_of c.write_synced.new.disk in
    let new = g.D.Disk.meaning.state_of c.settle_head.new.disk in
    let first = c.in_ok-write_front.ensures.written in
    let second = c.in_ok-write_synced.ensures.written in
    let size_is : c.size-size.result ≡ old.size = c.size-size.ensures in
    on_ok _ _ c.settle_head.result
    (λ settled. record {
      identity_fits = c.write_front.ensures.fits;
      nature = keeps_on old front new first.nature (keeps_on front mid new second.written.nature settled.nature);
      no_failure = settled.no_failure ∙ second.written.no_failure ∙ first.no_failure;
      reads = λ h.
          let h1 = first.nature.honest.0 h in
          let h2 = second.written.nature.honest.0 h1 in
          let long : length old.reads ≡ old.size = g.D.Disk.leaves_its_size c.args.disk.now h old.reads (g.D.Disk.reads_may_stay c.args.disk.now h) in
          let rest : HasRestOf (begun_bytes c.args.kind c.args.identity old.size) mid.reads =
          rest_of_begun c.args.kind c.args.identity (c.headers.ensures.length c.args.kind c.args.identity) old.size c.requires.room old.reads front.reads mid.reads long (first.front h)
          (second.written.zeros h1 ∙ ap (λ (n : ℕ). written front.reads 32 (replicate (n - 32) 0)) size_is) in
          whole_by_head (begun_bytes c.args.kind c.args.identity old.size) new.reads (differs_then 0 2 (begun_bytes c.args.kind c.args.identity old.size) mid.reads new.reads rest (settled.rest h2))
          (settled.gate_is h2 ∙ sym (begun_in_front c.args.kind c.args.identity (c.headers.ensures.length c.args.kind c.args.identity) old.size c.requires.room 0 (omega arith) ∙ gate_in c.args.kind c.args.identity))
          (settled.mark_is h2 ∙ sym (begun_in_front c.args.kind c.args.identity (c.headers.ensures.length c.args.kind c.args.identity) old.size c.requires.room 1 (omega arith) ∙ mark_in c.args.kind c.args.identity));
      leaves = λ h. settled.leaves (second.written.nature.honest.0 (first.nature.honest.0 h)) (second.leaves (first.nature.honest.0 h));
    })
    c.settle_head.ensures.settled

pub returns-clause-in_part : goal.returns-clause-in_part
returns-clause-in_part g c =
    let old = g.D.Disk.meaning.state_of c.args.disk.now in
    let front = g.D.Disk.meaning.state_of c.write_front.new.disk in
    let mid = g.D.Disk.meaning.state_of c.write_synced.new.disk in
    let new = g.D.Disk.meaning.state_of c.settle_head.new.disk in
    let size = c.size-size.result in
    let room : 32 ≤ size = omega (arith, c.size-size.ensures, c.requires.room) in
    let first = c.in_ok-write_front.ensures.written in
    let second = c.in_ok-write_synced.ensures.written in
    let outside : LeavesOutside 2 size old mid =
    outside_then 2 size old front mid c.write_front.ensures.nature
    (outside_wider 2 size 2 30 old front (omega arith) (omega (arith, room)) c.write_front.ensures.outside)
    (outside_wider 2 size 32 (size - 32) front mid (omega arith) (omega (arith, room)) c.write_synced.ensures.outside) in
    let rest : old.honest → HasRestOf (begun_bytes c.args.kind c.args.identity old.size) mid.reads = λ h.
    let long : length old.reads ≡ old.size = g.D.Disk.leaves_its_size c.args.disk.now h old.reads (g.D.Disk.reads_may_stay c.args.disk.now h) in
    rest_of_begun c.args.kind c.args.identity (c.headers.ensures.length c.args.kind c.args.identity) old.size c.requires.room old.reads front.reads mid.reads long (first.front h)
    (second.written.zeros (first.nature.honest.0 h) ∙ ap (λ (n : ℕ). written front.reads 32 (replicate (n - 32) 0)) c.size-size.ensures) in
    file_settled size old mid new (keeps_on old front mid first.nature second.written.nature) outside (λ h. second.leaves (first.nature.honest.0 h))
    (begun_bytes c.args.kind c.args.identity old.size)
    (begun_in_front c.args.kind c.args.identity (c.headers.ensures.length c.args.kind c.args.identity) old.size c.requires.room 0 (omega arith) ∙ gate_in c.args.kind c.args.identity)
    (begun_in_front c.args.kind c.args.identity (c.headers.ensures.length c.args.kind c.args.identity) old.size c.requires.room 1 (omega arith) ∙ mark_in c.args.kind c.args.identity)
    (begun_in_front c.args.kind c.args.identity (c.headers.ensures.length c.args.kind c.args.identity) old.size c.requires.room 2 (omega arith) ∙ third_in c.args.kind c.args.identity)
    (begun_in_front c.args.kind c.args.identity (c.headers.ensures.length c.args.kind c.args.identity) old.size c.requires.room 15 (omega arith) ∙ length_in c.args.kind c.args.identity)
    rest c.settle_head.ensures.in_turn
