use Rattle.std.proofs.Common.{◌≡◌, ◌++◌, ℕ, List, take, drop, ap, subst, ◌∙◌, append_assoc, take-append-drop, arith}
use Rattle.std.proofs.lemmas.List.{take_all}
use Rattle.std.proofs.lemmas.Result.{on_err_weaker, on_ok_weaker}
use Rattle.duk_commands.specs.inner.Batch.{IsCutOff, IsUnderWay}
use Rattle.duk_commands.proofs.AnswersInTurn.{WriteLaws}
use Rattle.duk_commands.proofs.BatchOutcomes.{on_err}
use Rattle.duk_commands.proofs.BatchUnderWay.{cut_earlier, cut_off, piece_written}
use Rattle.duk_commands.proofs.batch.under_way.Batch.take_piece.Goals as goal

pub returns-in_err-take-clause-cut : goal.returns-in_err-take-clause-cut
returns-in_err-take-clause-cut g c bytes before way =
    let command = g.I.Items.command c.args.items.now in
    let piece = c.args.piece.now in
    let i = c.loop-i.i in
    let now = g.W.Sink.known c.take.new.output in
    let cut = cut_earlier command (bytes ++ take i piece) (drop i piece) before now (c.in_err-take.ensures.cut (bytes ++ take i piece) before (c.loop-i.invariant bytes before way)) in
    let whole : (bytes ++ take i piece) ++ drop i piece ≡ bytes ++ piece = append_assoc bytes (take i piece) (drop i piece) ∙ ap (λ p. bytes ++ p) (take-append-drop i piece) in
    on_err c.from_residual.result _ (subst (λ (b : List ℕ). IsCutOff command b before now) whole cut)

pub returns-clause-goes_on : goal.returns-clause-goes_on
returns-clause-goes_on g c bytes before way =
    let laws : WriteLaws = record { none = c.writes.ensures.none; next = c.writes.ensures.then; cut = c.writes.ensures.cut_later } in
    let command = g.I.Items.command c.args.items.now in
    let piece = c.args.piece.now in
    let whole : take c.loop-i.i piece ≡ piece = take_all c.loop-i.i piece (omega arith) in
    let before_end = subst (λ (p : List ℕ). IsUnderWay command (bytes ++ p) c.loop-i.self.line.items c.loop-i.self.done c.loop-i.self.answers.items before (g.W.Sink.known c.loop-i.output)) whole (c.loop-i.invariant bytes before way) in
    on_ok_weaker c.write_out.result
    (λ written. piece_written command laws (bytes ++ piece) c.loop-i.self.line.items c.loop-i.self.done c.loop-i.self.answers.items before (g.W.Sink.known c.loop-i.output) (g.W.Sink.known c.write_out.new.sink) written before_end)
    c.write_out.ensures.written

pub returns-clause-cut : goal.returns-clause-cut
returns-clause-cut g c bytes before way =
    let laws : WriteLaws = record { none = c.writes.ensures.none; next = c.writes.ensures.then; cut = c.writes.ensures.cut_later } in
    let command = g.I.Items.command c.args.items.now in
    let piece = c.args.piece.now in
    let whole : take c.loop-i.i piece ≡ piece = take_all c.loop-i.i piece (omega arith) in
    let before_end = subst (λ (p : List ℕ). IsUnderWay command (bytes ++ p) c.loop-i.self.line.items c.loop-i.self.done c.loop-i.self.answers.items before (g.W.Sink.known c.loop-i.output)) whole (c.loop-i.invariant bytes before way) in
    on_err_weaker c.write_out.result
    (λ cut. cut_off command laws (bytes ++ piece) c.loop-i.self.line.items c.loop-i.self.done c.loop-i.self.answers.items before (g.W.Sink.known c.loop-i.output) (g.W.Sink.known c.write_out.new.sink) cut before_end)
    c.write_out.ensures.cut
