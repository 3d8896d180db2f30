use Rattle.std.proofs.Common.{◌≡◌, ◌++◌, ◌∷◌, ◌&&◌, [], ℕ, List, ap, subst, sym, ◌∙◌}
use Rattle.std.specs.Str.Lines.{strip_carriage_return}
use Rattle.duk_commands.specs.inner.Batch.{IsUnderWay, answer_text}
use Rattle.duk_commands.specs.Item.{IsItemAnswer}
use Rattle.duk_commands.proofs.AnswersInTurn.{WriteLaws}
use Rattle.duk_commands.proofs.BatchOutcomes.{on_err}
use Rattle.duk_commands.proofs.BatchUnderWay.{byte_kept, cut_off, line_answered}
use Rattle.duk_commands.proofs.batch.under_way.Batch.take.Goals as goal

pub returns-then-byte-ne10-clause-goes_on : goal.returns-then-byte-ne10-clause-goes_on
returns-then-byte-ne10-clause-goes_on g c bytes before way =
    byte_kept (g.I.Items.command c.args.items.now) bytes c.args.self.now.line.items c.keep.new.line.items c.args.byte c.args.self.now.done c.args.self.now.answers.items before _ c.if-byte-ne10.true c.keep.ensures way

pub returns-in_err-push_answer-clause-cut : goal.returns-in_err-push_answer-clause-cut
returns-in_err-push_answer-clause-cut g c bytes before way =
    let laws : WriteLaws = record { none = c.writes.ensures.none; next = c.writes.ensures.then; cut = c.writes.ensures.cut_later } in
    on_err c.from_residual.result _
    (cut_off (g.I.Items.command c.args.items.now) laws bytes c.args.self.now.line.items c.args.self.now.done c.args.self.now.answers.items before (g.W.Sink.known c.args.output.now) (g.W.Sink.known c.push_answer.new.output)
    c.in_err-push_answer.ensures.cut way)

pub returns-clause-goes_on : goal.returns-clause-goes_on
returns-clause-goes_on g c bytes before way =
    let laws : WriteLaws = record { none = c.writes.ensures.none; next = c.writes.ensures.then; cut = c.writes.ensures.cut_later } in
    let command = g.I.Items.command c.args.items.now in
    let answer = c.answer_line-answer.result in
    let done = c.args.self.now.done && answer.done in
    let held = c.push_answer.new.answers.items in
    let now = g.W.Sink.known c.push_answer.new.output in
    let stripped : c.strip_return-line.result.now ≡ strip_carriage_return c.args.self.now.line.items = c.strip_return-line.ensures ∙ ap strip_carriage_return c.as_slice.ensures.value in
    let right = subst (λ (l : List ℕ). IsItemAnswer command l (answer_text answer) answer.done) stripped c.answer_line-answer.ensures in
    let after = line_answered command laws bytes c.args.self.now.line.items c.args.self.now.done c.args.self.now.answers.items held (answer_text answer) answer.done before (g.W.Sink.known c.args.output.now) now
    right c.in_ok-push_answer.ensures.pushed way in
    subst (λ (l : List ℕ). IsUnderWay command (bytes ++ c.args.byte ∷ []) l done held before now) (sym c.clear.ensures)
    (subst (λ (b : ℕ). IsUnderWay command (bytes ++ b ∷ []) [] done held before now) (sym c.if-byte-ne10.false) after)
