use Rattle.std.proofs.Common.{◌≡◌, ◌<◌, [], length, take, refl, arith, rules, length-take}
use Rattle.std.proofs.KnownBytes.{Consumes-kept, Consumes-nil}
use Rattle.std.proofs.lemmas.Result.{err_from_is_err_and}
use Rattle.duk_host.specs.Serve.{supply}
use Rattle.duk_journal_host.specs.Host.{host_meaning_of}
use Rattle.duk_journal_host.specs.Serve.{service}
use Rattle.duk_journal_host.proofs.ReadAndServed.{ReadLaws, broken_off, cut_off, ended, next_piece, piece_failed, read_up, start_serving}
use Rattle.duk_journal_host.proofs.Serving.{WriteLaws}
use Rattle.duk_journal_host.proofs.service.serve.Goals as goal

pub loop-init : goal.loop-init
loop-init g c =
    let meaning = host_meaning_of g.J.Journal.meaning g.I.Issuer.decides in
    let writes : WriteLaws = record { none = c.writes.ensures.none; next = c.writes.ensures.then } in
    let reads : ReadLaws = record { none = c.reads.ensures.none; next = c.reads.ensures.then; broken = c.reads.ensures.broken_later; no_reads = c.reads.ensures.no_reads; more_reads = c.reads.ensures.more_reads } in
    let now = service c.args.host.now (g.W.Sink.known c.args.writer.now) in
    let input = supply (g.R.Source.known c.args.reader.now) (g.R.Source.reads c.args.reader.now) in
    rw c.new-feeder.ensures (record { goes_on = refl; cleared = c.clear.ensures; serving = start_serving meaning writes reads now input })

pub returns-in_err-served-clause-refused : goal.returns-in_err-served-clause-refused
returns-in_err-served-clause-refused g c =
    let meaning = host_meaning_of g.J.Journal.meaning g.I.Issuer.decides in
    let writes : WriteLaws = record { none = c.writes.ensures.none; next = c.writes.ensures.then } in
    let reads : ReadLaws = record { none = c.reads.ensures.none; next = c.reads.ensures.then; broken = c.reads.ensures.broken_later; no_reads = c.reads.ensures.no_reads; more_reads = c.reads.ensures.more_reads } in
    let known = g.W.Sink.known in
    let refused =
    piece_failed meaning writes reads (service c.args.host.now (known c.args.writer.now)) (service c.loop.host (known c.loop.writer)) (service c.serve_piece-served.new.host (known c.serve_piece-served.new.writer))
    (supply (g.R.Source.known c.args.reader.now) (g.R.Source.reads c.args.reader.now)) (supply (g.R.Source.known c.loop.reader) (g.R.Source.reads c.loop.reader)) (supply (g.R.Source.known c.get.new.self) (g.R.Source.reads c.get.new.self))
    c.loop.feeder.rest (take c.in-Ok.count c.get.new.buffer) c.loop.counter _ c.loop.invariant.serving
    (record { given = c.in-Ok.ensures.bytes.0; unfailed = c.in-Ok.ensures.counted }) c.in_err-served.ensures.refused in
    let p = err_from_is_err_and c.from_residual.result c.from_residual.ensures.1 in
    rw (p.1, p.2) refused

pub loop-preserved : goal.loop-preserved
loop-preserved g c =
    let meaning = host_meaning_of g.J.Journal.meaning g.I.Issuer.decides in
    let writes : WriteLaws = record { none = c.writes.ensures.none; next = c.writes.ensures.then } in
    let reads : ReadLaws = record { none = c.reads.ensures.none; next = c.reads.ensures.then; broken = c.reads.ensures.broken_later; no_reads = c.reads.ensures.no_reads; more_reads = c.reads.ensures.more_reads } in
    let known = g.W.Sink.known in
    let given : length (take c.in-Ok.count c.get.new.buffer) ≡ c.in-Ok.count = omega (arith, length-take c.in-Ok.count c.get.new.buffer, c.in-Ok.ensures.bound) in
    record {
      goes_on = c.in_ok-served.ensures.goes_on;
      cleared = c.serve_piece-served.ensures.cleared;
      serving =
          next_piece meaning writes reads (service c.args.host.now (known c.args.writer.now)) (service c.loop.host (known c.loop.writer)) (service c.serve_piece-served.new.host (known c.serve_piece-served.new.writer))
          (supply (g.R.Source.known c.args.reader.now) (g.R.Source.reads c.args.reader.now)) (supply (g.R.Source.known c.loop.reader) (g.R.Source.reads c.loop.reader)) (supply (g.R.Source.known c.get.new.self) (g.R.Source.reads c.get.new.self))
          c.loop.feeder.rest (take c.in-Ok.count c.get.new.buffer) c.serve_piece-served.new.feeder.rest c.loop.counter c.loop.invariant.serving
          (record { given = c.in-Ok.ensures.bytes.0; unfailed = c.in-Ok.ensures.counted }) c.get.ensures.one_read (grind (arith, given)) c.in_ok-served.ensures.served c.in_ok-served.ensures.part;
    }

pub returns-in_default-clause-refused : goal.returns-in_default-clause-refused
returns-in_default-clause-refused g c =
    let meaning = host_meaning_of g.J.Journal.meaning g.I.Issuer.decides in
    let reads : ReadLaws = record { none = c.reads.ensures.none; next = c.reads.ensures.then; broken = c.reads.ensures.broken_later; no_reads = c.reads.ensures.no_reads; more_reads = c.reads.ensures.more_reads } in
    let known = g.W.Sink.known in
    let before = (g.R.Source.known c.loop.reader).contents in
    broken_off meaning reads (service c.args.host.now (known c.args.writer.now)) (service c.loop.host (known c.loop.writer))
    (supply (g.R.Source.known c.args.reader.now) (g.R.Source.reads c.args.reader.now)) (supply (g.R.Source.known c.loop.reader) (g.R.Source.reads c.loop.reader)) (supply (g.R.Source.known c.get.new.self) (g.R.Source.reads c.get.new.self))
    c.loop.feeder.rest c.loop.counter c.loop.invariant.serving c.get.ensures.one_read
    (record { given = Consumes-kept before before (g.R.Source.known c.get.new.self).contents [] (Consumes-nil before) c.in_default.ensures.bytes; failed = c.in_default.ensures.counted })

pub returns-then-count-eq0-clause-served : goal.returns-then-count-eq0-clause-served
returns-then-count-eq0-clause-served g c =
    let meaning = host_meaning_of g.J.Journal.meaning g.I.Issuer.decides in
    let reads : ReadLaws = record { none = c.reads.ensures.none; next = c.reads.ensures.then; broken = c.reads.ensures.broken_later; no_reads = c.reads.ensures.no_reads; more_reads = c.reads.ensures.more_reads } in
    let known = g.W.Sink.known in
    let given = rw c.if-count-eq0.true at c.in-Ok.ensures.bytes in
    let room : 0 < length c.get.new.buffer = omega (arith, c.get.ensures.room) in
    let read =
    read_up meaning reads (service c.args.host.now (known c.args.writer.now)) (service c.loop.host (known c.loop.writer))
    (supply (g.R.Source.known c.args.reader.now) (g.R.Source.reads c.args.reader.now)) (supply (g.R.Source.known c.loop.reader) (g.R.Source.reads c.loop.reader)) (supply (g.R.Source.known c.get.new.self) (g.R.Source.reads c.get.new.self))
    c.loop.feeder.rest c.loop.counter c.loop.invariant.serving c.get.ensures.one_read
    (record { given = given.0; unfailed = c.in-Ok.ensures.counted }) (given.1 refl room) in
    ended _ _ _ _ _ c.loop.feeder.rest _ (search rules) read

pub returns-then-count-eq0-clause-refused : goal.returns-then-count-eq0-clause-refused
returns-then-count-eq0-clause-refused g c =
    let meaning = host_meaning_of g.J.Journal.meaning g.I.Issuer.decides in
    let reads : ReadLaws = record { none = c.reads.ensures.none; next = c.reads.ensures.then; broken = c.reads.ensures.broken_later; no_reads = c.reads.ensures.no_reads; more_reads = c.reads.ensures.more_reads } in
    let known = g.W.Sink.known in
    let given = rw c.if-count-eq0.true at c.in-Ok.ensures.bytes in
    let room : 0 < length c.get.new.buffer = omega (arith, c.get.ensures.room) in
    let read =
    read_up meaning reads (service c.args.host.now (known c.args.writer.now)) (service c.loop.host (known c.loop.writer))
    (supply (g.R.Source.known c.args.reader.now) (g.R.Source.reads c.args.reader.now)) (supply (g.R.Source.known c.loop.reader) (g.R.Source.reads c.loop.reader)) (supply (g.R.Source.known c.get.new.self) (g.R.Source.reads c.get.new.self))
    c.loop.feeder.rest c.loop.counter c.loop.invariant.serving c.get.ensures.one_read
    (record { given = given.0; unfailed = c.in-Ok.ensures.counted }) (given.1 refl room) in
    cut_off _ _ _ _ _ c.loop.feeder.rest _ (search rules) read
