use Rattle.std.proofs.lemmas.Result.{err_from_is_err_and}
use Rattle.duk_commands.proofs.AnswersInTurn.{WriteLaws, all_written}
use Rattle.duk_commands.proofs.BatchUnderWay.{cut_lines, told, told_cut}
use Rattle.duk_commands.proofs.batch.under_way.Batch.end.Goals as goal
use Rattle.std.specs.Str.Lines.{lines}

pub returns-in_err-end_line : goal.returns-in_err-end_line
returns-in_err-end_line g c bytes before way =
    let command = g.I.Items.command c.args.items.now in
    let cut = cut_lines command bytes before (g.W.Sink.known c.end_line.new.output) (c.in_err-end_line.ensures.cut bytes before way) in
    let p = err_from_is_err_and c.from_residual.result c.from_residual.ensures.1 in
    rw p.1 cut

pub returns-in_err-write_out : goal.returns-in_err-write_out
returns-in_err-write_out g c bytes before way =
    let laws : WriteLaws = record { none = c.writes.ensures.none; next = c.writes.ensures.then; cut = c.writes.ensures.cut_later } in
    let command = g.I.Items.command c.args.items.now in
    let cut = told_cut command laws bytes c.end_line.new.self.done c.end_line.new.self.answers.items before (g.W.Sink.known c.end_line.new.output) (g.W.Sink.known c.write_out.new.sink)
    c.in_err-write_out.ensures.cut (c.in_ok-end_line.ensures.answered bytes before way) in
    let p = err_from_is_err_and c.from_residual-in_err-write_out.result c.from_residual-in_err-write_out.ensures.1 in
    rw p.1 cut

pub returns : goal.returns
returns g c bytes before way =
    let laws : WriteLaws = record { none = c.writes.ensures.none; next = c.writes.ensures.then; cut = c.writes.ensures.cut_later } in
    let command = g.I.Items.command c.args.items.now in
    told command bytes c.end_line.new.self.done before (g.W.Sink.known c.write_out.new.sink)
    (all_written command laws (lines bytes) c.end_line.new.self.done c.end_line.new.self.answers.items before (g.W.Sink.known c.end_line.new.output) (g.W.Sink.known c.write_out.new.sink)
    (c.in_ok-end_line.ensures.answered bytes before way) c.in_ok-write_out.ensures.written)
