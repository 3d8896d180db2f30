use Rattle.std.proofs.Common.{◌∙◌, ◌+◌, ◌*◌, ◌≤◌, length, arith}
use Rattle.std.proofs.lemmas.Result.{err_from_is_err_and}
use Rattle.duk_store.proofs.GroupWritten.{item_got, next_torn, next_written}
use Rattle.duk_store.proofs.StepsInTurn.{fails_later, keeps_on}
use Rattle.duk_store.proofs.group_steps.write_contents.Goals as goal

pub returns-in_err-write_record-clause-failed : goal.returns-in_err-write_record-clause-failed
returns-in_err-write_record-clause-failed g c =
    let p = err_from_is_err_and c.from_residual.result c.from_residual.ensures.1 in
    let format = g.F.Format.meaning c.args.format.now in
    let i = c.loop-index.invariant.written in
    let old = g.D.Disk.meaning.state_of c.args.disk.now in
    let mid = g.D.Disk.meaning.state_of c.loop-index.disk in
    let new = g.D.Disk.meaning.state_of c.write_record.new.disk in
    rw (p.1, p.2) (record {
      nature = keeps_on old mid new i.nature c.write_record.ensures.nature;
      failed = fails_later old mid new c.in_err-write_record.field-0.0 i.nature i.no_failure c.in_err-write_record.ensures.failed;
      torn = next_torn format c.requires.format c.args.group.now c.args.place c.loop-index.index c.loop-index-test.true old mid new i.nature.honest.0 i.torn c.write_record.ensures.torn;
    })

pub loop-index-preserved : goal.loop-index-preserved
loop-index-preserved g c =
    let format = g.F.Format.meaning c.args.format.now in
    let group = c.args.group.now in
    let place = c.args.place in
    let index = c.loop-index.index in
    let i = c.loop-index.invariant.written in
    let old = g.D.Disk.meaning.state_of c.args.disk.now in
    let mid = g.D.Disk.meaning.state_of c.loop-index.disk in
    let new = g.D.Disk.meaning.state_of c.write_record.new.disk in
    record {
      written = record {
        nature = keeps_on old mid new i.nature c.write_record.ensures.nature;
        no_failure = c.in_ok-write_record.ensures.no_failure ∙ i.no_failure;
        torn = next_torn format c.requires.format group place index c.loop-index-test.true old mid new i.nature.honest.0 i.torn c.write_record.ensures.torn;
        reads = λ h.
            let honest = i.nature.honest.0 h in
            let size = g.D.Disk.leaves_its_size c.loop-index.disk honest mid.reads (g.D.Disk.reads_may_stay c.loop-index.disk honest) in
            let inside : format.record_length * (place + length group) ≤ length mid.reads = omega (arith, size, i.nature.size, c.requires.room.inside) in
            next_written format c.requires.format group place index c.loop-index-test.true c.args.identity c.index-group-index.result c.followers_of-followers.result old.reads mid.reads new.reads
            (item_got group index c.index-group-index.result c.loop-index-test.true c.index-group-index.is) c.followers_of-followers.ensures.followers inside (c.in_ok-write_record.ensures.written honest) (i.reads h);
      };
      arming = λ disarmed. c.loop-index.invariant.arming (c.write_record.ensures.arming disarmed);
      piece = omega (arith, c.write_record.ensures.length, c.loop-index.invariant.piece);
    }
