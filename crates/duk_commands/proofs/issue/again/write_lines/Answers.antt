use Rattle.std.proofs.Common.{◌∙◌, subst, sym}
use Rattle.duk_commands.proofs.MadeAgain.{one_written}
use Rattle.duk_commands.proofs.Tried.{not_failed}
use Rattle.duk_commands.proofs.issue.again.write_lines.Goals as goal
use Rattle.duk_io.specs.Sink.{IsWritten}

pub loop-place-preserved : goal.loop-place-preserved
loop-place-preserved g c =
    let old = g.W.Sink.known c.args.output.now in
    let mid = g.W.Sink.known c.loop-place.output in
    let new = g.W.Sink.known c.write_text.new.sink in
    let line = c.line-line.result.0.items in
    let written = subst (λ text. IsWritten mid new text) c.as_slice.ensures.value (not_failed c.write_text.result (sym c.is_err.ensures.value ∙ c.if-is_err.false) c.write_text.ensures.written) in
    record {
      written = one_written c.args.order.now c.args.padding.now old mid new c.loop-place.place line (λ text. c.writes.ensures.then old mid new text line) c.loop-place.invariant.written c.line-line.ensures.line written;
      group = c.line-line.ensures.group;
    }
