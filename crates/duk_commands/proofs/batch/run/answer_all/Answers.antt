use Rattle.std.proofs.Common.{◌≡◌, ◌<◌, [], ℕ, Bool, List, length, take, refl, sym, subst, ◌∙◌, length-take, arith}
use Rattle.std.proofs.KnownBytes.{Consumes-kept, Consumes-nil}
use Rattle.duk_commands.specs.Batch.{input_of}
use Rattle.duk_commands.specs.declared.batch.run.End.{End}
use Rattle.duk_commands.specs.inner.Batch.{IsEnd, IsUnderWay}
use Rattle.duk_commands.proofs.AnswersInTurn.{WriteLaws}
use Rattle.duk_commands.proofs.BatchOutcomes.{of_err, of_ok}
use Rattle.duk_commands.proofs.ReadInTurn.{IsReading, ReadLaws, all_read, piece_cut, piece_read, read_broken, reads_made, start_reading}
use Rattle.duk_commands.proofs.batch.run.answer_all.Goals as goal

pub loop-init : goal.loop-init
loop-init g c =
    let writes : WriteLaws = record { none = c.writes.ensures.none; next = c.writes.ensures.then; cut = c.writes.ensures.cut_later } in
    let reads : ReadLaws = record { none = c.reads.ensures.none; next = c.reads.ensures.then; broken = c.reads.ensures.broken_later; no_reads = c.reads.ensures.no_reads; more_reads = c.reads.ensures.more_reads } in
    let command = g.I.Items.command c.args.items.now in
    let known = g.R.Source.known c.args.input.now in
    let count = g.R.Source.reads c.args.input.now in
    let output = g.W.Sink.known c.args.output.now in
    record {
      written = c.new-batch.ensures.answers;
      reading =
          subst (λ (l : List ℕ). IsReading command (input_of known known count count) 0 l c.new-batch.result.done output output) (sym c.new-batch.ensures.line)
          (subst (λ (d : Bool). IsReading command (input_of known known count count) 0 [] d output output) (sym c.new-batch.ensures.done)
          (start_reading command writes reads known count output));
    }

pub returns-in_default : goal.returns-in_default
returns-in_default g c =
    let reads : ReadLaws = record { none = c.reads.ensures.none; next = c.reads.ensures.then; broken = c.reads.ensures.broken_later; no_reads = c.reads.ensures.no_reads; more_reads = c.reads.ensures.more_reads } in
    let known = g.R.Source.known in
    let count = g.R.Source.reads in
    let before = (known c.loop.input).contents in
    read_broken (g.I.Items.command c.args.items.now) reads (known c.args.input.now) (known c.loop.input) (known c.get.new.self) (count c.args.input.now) (count c.loop.input) (count c.get.new.self)
    c.loop.counter c.loop.batch.line.items c.loop.batch.done (g.W.Sink.known c.args.output.now) (g.W.Sink.known c.loop.output) c.loop.invariant.reading
    (record { given = Consumes-kept before before (known c.get.new.self).contents [] (Consumes-nil before) c.in_default.ensures.bytes; failed = c.in_default.ensures.counted }) c.get.ensures.one_read

pub returns-then-count-eq0 : goal.returns-then-count-eq0
returns-then-count-eq0 g c =
    let reads : ReadLaws = record { none = c.reads.ensures.none; next = c.reads.ensures.then; broken = c.reads.ensures.broken_later; no_reads = c.reads.ensures.no_reads; more_reads = c.reads.ensures.more_reads } in
    let command = g.I.Items.command c.args.items.now in
    let known = g.R.Source.known in
    let count = g.R.Source.reads in
    let before = g.W.Sink.known c.args.output.now in
    let now = g.W.Sink.known c.loop.output in
    let given = rw c.if-count-eq0.true at c.in-Ok.ensures.bytes in
    let room : 0 < length c.get.new.buffer = omega (arith, c.get.ensures.room) in
    let end =
    all_read command reads (known c.args.input.now) (known c.loop.input) (known c.get.new.self) (count c.args.input.now) (count c.loop.input) (count c.get.new.self)
    c.loop.counter c.loop.batch.line.items c.loop.batch.done before now (g.W.Sink.known c.end.new.output) c.end.result c.loop.invariant.reading
    (record { given = given.0; unfailed = c.in-Ok.ensures.counted }) (given.1 refl room) c.get.ensures.one_read
    (λ bytes way. c.end.ensures bytes before (subst (λ (h : List ℕ). IsUnderWay command bytes c.loop.batch.line.items c.loop.batch.done h before now) (sym c.loop.invariant.written) way)) in
    subst (λ (e : End). IsEnd command (input_of (known c.args.input.now) (known c.get.new.self) (count c.args.input.now) (count c.get.new.self)) before (g.W.Sink.known c.end.new.output) e) (sym c.answered.ensures) end

pub returns-then-is_err : goal.returns-then-is_err
returns-then-is_err g c =
    let reads : ReadLaws = record { none = c.reads.ensures.none; next = c.reads.ensures.then; broken = c.reads.ensures.broken_later; no_reads = c.reads.ensures.no_reads; more_reads = c.reads.ensures.more_reads } in
    let command = g.I.Items.command c.args.items.now in
    let known = g.R.Source.known in
    let count = g.R.Source.reads in
    let before = g.W.Sink.known c.args.output.now in
    let now = g.W.Sink.known c.loop.output in
    let piece = take c.in-Ok.count c.get.new.buffer in
    piece_cut command reads (known c.args.input.now) (known c.loop.input) (known c.get.new.self) (count c.args.input.now) (count c.loop.input) (count c.get.new.self)
    c.loop.counter c.loop.batch.line.items c.loop.batch.done before now (g.W.Sink.known c.take_piece.new.output) piece c.loop.invariant.reading
    (record { given = c.in-Ok.ensures.bytes.0; unfailed = c.in-Ok.ensures.counted })
    (λ bytes way. of_err c.take_piece.result _ (sym c.is_err.ensures.value ∙ c.if-is_err.true)
    (c.take_piece.ensures.cut bytes before (subst (λ (h : List ℕ). IsUnderWay command bytes c.loop.batch.line.items c.loop.batch.done h before now) (sym c.loop.invariant.written) way)))

pub loop-preserved : goal.loop-preserved
loop-preserved g c =
    let reads : ReadLaws = record { none = c.reads.ensures.none; next = c.reads.ensures.then; broken = c.reads.ensures.broken_later; no_reads = c.reads.ensures.no_reads; more_reads = c.reads.ensures.more_reads } in
    let command = g.I.Items.command c.args.items.now in
    let known = g.R.Source.known in
    let count = g.R.Source.reads in
    let before = g.W.Sink.known c.args.output.now in
    let now = g.W.Sink.known c.loop.output in
    let piece = take c.in-Ok.count c.get.new.buffer in
    let succeeded = sym c.is_err.ensures.value ∙ c.if-is_err.false in
    let given : length piece ≡ c.in-Ok.count = omega (arith, length-take c.in-Ok.count c.get.new.buffer, c.in-Ok.ensures.bound) in
    record {
      written = of_ok c.take_piece.result _ succeeded c.take_piece.ensures.written;
      reading =
          piece_read command reads (known c.args.input.now) (known c.loop.input) (known c.get.new.self) (count c.args.input.now) (count c.loop.input) (count c.get.new.self)
          c.loop.counter c.loop.batch.line.items c.take_piece.new.self.line.items c.loop.batch.done c.take_piece.new.self.done before now (g.W.Sink.known c.take_piece.new.output) piece c.loop.invariant.reading
          (record { given = c.in-Ok.ensures.bytes.0; unfailed = c.in-Ok.ensures.counted }) c.get.ensures.one_read (grind (arith, given))
          (λ bytes way. of_ok c.take_piece.result _ succeeded
          (c.take_piece.ensures.goes_on bytes before (subst (λ (h : List ℕ). IsUnderWay command bytes c.loop.batch.line.items c.loop.batch.done h before now) (sym c.loop.invariant.written) way)));
    }

pub returns : goal.returns
returns g c =
    let known = g.R.Source.known in
    let count = g.R.Source.reads in
    reads_made (g.I.Items.command c.args.items.now) (input_of (known c.args.input.now) (known c.loop.input) (count c.args.input.now) (count c.loop.input))
    c.loop.counter c.loop.batch.line.items c.loop.batch.done (g.W.Sink.known c.args.output.now) (g.W.Sink.known c.loop.output) (omega arith) c.loop.invariant.reading
