use Rattle.std.proofs.Common.{◌≡◌, ◌-◌, ◌*◌, ◌/◌, ◌≤◌, ◌∙◌, ℕ, length, ap, arith, refl, rules, subst}
use Rattle.std.proofs.lemmas.Result.{IfErr-weaker, err_from_is_err_and}
use Rattle.duk_store.specs.inner.Reading.{ReadsOn}
use Rattle.duk_store.specs.inner.RecordSteps.{IsReadFrom}
use Rattle.duk_store.specs.declared.reading.Reading.TheVariants.{Groups}
use Rattle.duk_store.proofs.DiskRead.{all_taken, none_listed, piece_read, piece_unread, same_on, same_self}
use Rattle.duk_store.proofs.Places.{records_in}
use Rattle.duk_store.proofs.ReadInTurn.{reads_none}
use Rattle.duk_store.proofs.StepsInTurn.{both_if_ok}
use Rattle.duk_store.proofs.record_steps.visit_records.Goals as goal

pub loop-place-init : goal.loop-place-init
loop-place-init g c =
    let format = g.F.Format.meaning c.args.format.now in
    let old = g.D.Disk.meaning.state_of c.args.disk.now in
    let records = c.requires.size in
    let count_is = records_in format.record_length c.record_length-long.result old.size c.size.result records.0 c.requires.format.has_contents c.record_length-long.ensures c.size.ensures records.2 in
    let none : 0 ≡ c.headers-place.result - format.headers = omega (arith, c.headers-place.ensures) in
    record {
      same = same_self old;
      size = search rules;
      piece = c.requires.piece;
      above = omega (arith, c.headers-place.ensures);
      in_front = omega (arith, count_is, c.headers-place.ensures, c.requires.format.one_header, records.1);
      reads = subst (λ (n : ℕ). ReadsOn format g.V.Visitor.takes (Groups 0 0) n (IsReadFrom old format.headers) c.args.visitor.now c.args.visitor.now (Groups 0 0)) none
          (reads_none format g.V.Visitor.takes (Groups 0 0) (IsReadFrom old format.headers) c.args.visitor.now);
    }

pub returns-in_err-reading-clause-failed : goal.returns-in_err-reading-clause-failed
returns-in_err-reading-clause-failed g c =
    let p = err_from_is_err_and c.from_residual.result c.from_residual.ensures.1 in
    let format = g.F.Format.meaning c.args.format.now in
    let old = g.D.Disk.meaning.state_of c.args.disk.now in
    let mid = g.D.Disk.meaning.state_of c.loop-place.disk in
    let new = g.D.Disk.meaning.state_of c.read_records.new.disk in
    let i = c.loop-place.invariant in
    rw (p.1, p.2)
    (piece_unread format g.V.Visitor.takes old mid c.loop-place.place c.args.visitor.now c.loop-place.visitor c.loop-place.reading i.above i.same i.reads g.V.Visitor.refuses new c.in_err-reading.field-0.0 c.in_err-reading.ensures.failed)

pub loop-place-preserved : goal.loop-place-preserved
loop-place-preserved g c =
    let format = g.F.Format.meaning c.args.format.now in
    let old = g.D.Disk.meaning.state_of c.args.disk.now in
    let mid = g.D.Disk.meaning.state_of c.loop-place.disk in
    let new = g.D.Disk.meaning.state_of c.read_records.new.disk in
    let i = c.loop-place.invariant in
    let more = c.in_ok-reading.ensures.read in
    record {
      same = same_on old mid new i.same more.stays;
      size = i.size;
      piece = search rules;
      above = omega (arith, i.above);
      in_front = search rules;
      reads = piece_read format g.V.Visitor.takes old mid c.loop-place.place c.args.visitor.now c.loop-place.visitor c.loop-place.reading i.above i.same i.reads c.min-count.result new c.read_records.new.visitor c.in_ok-reading.reading more;
    }

pub returns-clause-read : goal.returns-clause-read
returns-clause-read g c =
    let format = g.F.Format.meaning c.args.format.now in
    let old = g.D.Disk.meaning.state_of c.args.disk.now in
    let mid = g.D.Disk.meaning.state_of c.loop-place.disk in
    let i = c.loop-place.invariant in
    let place = c.loop-place.place in
    let records = c.requires.size in
    let some = c.requires.format.has_contents in
    let count_is = records_in format.record_length c.record_length-long.result old.size c.size.result records.0 some c.record_length-long.ensures c.size.ensures records.2 in
    let size_is = records_in format.record_length format.record_length old.size old.size records.0 some refl refl records.2 in
    let place_is : records.0 ≡ place = omega (arith, count_is, i.in_front, c.loop-place-test.false) in
    let within : place ≤ old.size / format.record_length = omega (arith, size_is, place_is) in
    let whole : old.honest → length old.reads ≡ format.record_length * place =
    λ h. g.D.Disk.leaves_its_size c.args.disk.now h old.reads (g.D.Disk.reads_may_stay c.args.disk.now h) ∙ records.2 ∙ ap (λ (n : ℕ). format.record_length * n) place_is in
    both_if_ok c.finish_reading.result c.finish_reading.ensures.kept c.finish_reading.ensures.whole
    (λ count is listed. all_taken format g.V.Visitor.takes old mid place c.args.visitor.now c.loop-place.visitor c.loop-place.reading i.above i.same i.reads whole count is within listed)

pub returns-clause-failed : goal.returns-clause-failed
returns-clause-failed g c =
    let format = g.F.Format.meaning c.args.format.now in
    let old = g.D.Disk.meaning.state_of c.args.disk.now in
    let mid = g.D.Disk.meaning.state_of c.loop-place.disk in
    let i = c.loop-place.invariant in
    let place = c.loop-place.place in
    let records = c.requires.size in
    let count_is = records_in format.record_length c.record_length-long.result old.size c.size.result records.0 c.requires.format.has_contents c.record_length-long.ensures c.size.ensures records.2 in
    let place_is : records.0 ≡ place = omega (arith, count_is, i.in_front, c.loop-place-test.false) in
    let whole : old.honest → length old.reads ≡ format.record_length * place =
    λ h. g.D.Disk.leaves_its_size c.args.disk.now h old.reads (g.D.Disk.reads_may_stay c.args.disk.now h) ∙ records.2 ∙ ap (λ (n : ℕ). format.record_length * n) place_is in
    IfErr-weaker c.finish_reading.result _ _
    (λ fault refused. none_listed format g.V.Visitor.takes old mid place c.args.visitor.now c.loop-place.visitor c.loop-place.reading i.above i.same i.reads whole g.V.Visitor.refuses fault refused)
    c.finish_reading.ensures.refused
