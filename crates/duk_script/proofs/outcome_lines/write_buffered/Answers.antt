use Rattle.std.proofs.Common.{◌++◌, [], sym}
use Rattle.duk_io.specs.Sink.{IsCut, IsWritten}
use Rattle.duk_script.specs.OutcomeText.{line_of, lines_of}
use Rattle.duk_script.proofs.LinesInTurn.{as_err, cut_among, lines_more, on_err, written_all}
use Rattle.duk_script.proofs.PlayedScripts.{on_ok}
use Rattle.duk_script.proofs.outcome_lines.write_buffered.Goals as goal

pub loop-outcome-init : goal.loop-outcome-init
loop-outcome-init g c = record {
  written = [];
  was_written = c.writes.ensures.none (g.W.Sink.known c.args.writer.now);
  so_far = sym c.new-lines.ensures;
}

pub loop-outcome-preserved : goal.loop-outcome-preserved
loop-outcome-preserved g c =
    let loop = c.loop-outcome.invariant in
    let drained = c.in_ok-make_room.ensures.written in
    record {
      written = loop.written ++ drained.front;
      was_written = c.writes.ensures.then _ _ _ loop.written drained.front loop.was_written drained.written;
      so_far = lines_more line_of c.args.outcomes.now c.loop-outcome.outcome-index c.outcome-item.result loop.written
          c.loop-outcome.lines.items drained.front c.make_room.new.buffer.items c.push_outcome.new.lines.items
          c.loop-outcome-test.true c.outcome-item.is loop.so_far drained.split c.push_outcome.ensures;
    }

pub returns-in_err-make_room-clause-cut : goal.returns-in_err-make_room-clause-cut
returns-in_err-make_room-clause-cut g c =
    let loop = c.loop-outcome.invariant in
    let cut = c.writes.ensures.cut_later _ _ _ loop.written _ loop.was_written c.in_err-make_room.ensures.cut in
    as_err _ _ (cut_among line_of _ _ c.args.outcomes.now c.loop-outcome.outcome-index _ loop.so_far cut)

pub returns-clause-written : goal.returns-clause-written
returns-clause-written g c =
    let known = g.W.Sink.known in
    let loop = c.loop-outcome.invariant in
    on_ok (IsWritten (known c.loop-outcome.writer) (known c.write_out.new.sink) c.loop-outcome.lines.items)
    (IsWritten (known c.args.writer.now) (known c.write_out.new.sink) (lines_of c.args.outcomes.now))
    (λ rest. written_all line_of _ _ c.args.outcomes.now c.loop-outcome.outcome-index _ c.loop-outcome-test.false loop.so_far
    (c.writes.ensures.then _ _ _ loop.written c.loop-outcome.lines.items loop.was_written rest))
    c.write_out.result c.write_out.ensures.written

pub returns-clause-cut : goal.returns-clause-cut
returns-clause-cut g c =
    let known = g.W.Sink.known in
    let loop = c.loop-outcome.invariant in
    on_err (IsCut (known c.loop-outcome.writer) (known c.write_out.new.sink) c.loop-outcome.lines.items)
    (IsCut (known c.args.writer.now) (known c.write_out.new.sink) (lines_of c.args.outcomes.now))
    (λ rest. cut_among line_of _ _ c.args.outcomes.now c.loop-outcome.outcome-index _ loop.so_far
    (c.writes.ensures.cut_later _ _ _ loop.written c.loop-outcome.lines.items loop.was_written rest))
    c.write_out.result c.write_out.ensures.cut
