use Rattle.std.proofs.Common.{◌≡◌, ◌<◌, ◌==◌, ℕ, zero, suc, Bool, true, false, List, length, subst, sym, ◌∙◌, eqb-true, arith}
use Rattle.duk_commands.specs.Item.{IsItemAnswer}
use Rattle.duk_commands.specs.inner.Batch.{answer_text}
use Rattle.duk_commands.proofs.AnswersInTurn.{WriteLaws}
use Rattle.duk_commands.proofs.BatchOutcomes.{on_err}
use Rattle.duk_commands.proofs.BatchUnderWay.{cut_off, last_line_answered, no_last_line}
use Rattle.duk_commands.proofs.batch.under_way.Batch.end_line.Goals as goal

some_kept : (count : ℕ) (is_empty : Bool) → is_empty ≡ (count == 0) → is_empty ≡ false → 0 < count
some_kept zero is_empty is full = cc
some_kept (suc count) is_empty is full = omega arith

none_kept : (count : ℕ) (is_empty : Bool) → is_empty ≡ (count == 0) → is_empty ≡ true → count ≡ 0
none_kept count is_empty is none = eqb-true count 0 (sym is ∙ none)

pub returns-then-is_empty-clause-answered : goal.returns-then-is_empty-clause-answered
returns-then-is_empty-clause-answered g c bytes before way =
    no_last_line (g.I.Items.command c.args.items.now) bytes c.args.self.now.line.items c.args.self.now.done c.args.self.now.answers.items before (g.W.Sink.known c.args.output.now)
    (none_kept (length c.args.self.now.line.items) c.is_empty.result c.is_empty.ensures c.if-is_empty.true) way

pub returns-in_err-push_answer-clause-cut : goal.returns-in_err-push_answer-clause-cut
returns-in_err-push_answer-clause-cut g c bytes before way =
    let laws : WriteLaws = record { none = c.writes.ensures.none; next = c.writes.ensures.then; cut = c.writes.ensures.cut_later } in
    on_err c.from_residual.result _
    (cut_off (g.I.Items.command c.args.items.now) laws bytes c.args.self.now.line.items c.args.self.now.done c.args.self.now.answers.items before (g.W.Sink.known c.args.output.now) (g.W.Sink.known c.push_answer.new.output)
    c.in_err-push_answer.ensures.cut way)

pub returns-clause-answered : goal.returns-clause-answered
returns-clause-answered g c bytes before way =
    let laws : WriteLaws = record { none = c.writes.ensures.none; next = c.writes.ensures.then; cut = c.writes.ensures.cut_later } in
    let command = g.I.Items.command c.args.items.now in
    let answer = c.answer_line-answer.result in
    let right = subst (λ (l : List ℕ). IsItemAnswer command l (answer_text answer) answer.done) c.as_slice-line.ensures.value c.answer_line-answer.ensures in
    let some : 0 < length c.args.self.now.line.items = some_kept (length c.args.self.now.line.items) c.is_empty.result c.is_empty.ensures c.if-is_empty.false in
    last_line_answered command laws bytes c.args.self.now.line.items c.args.self.now.done c.args.self.now.answers.items c.push_answer.new.answers.items (answer_text answer) answer.done before (g.W.Sink.known c.args.output.now) (g.W.Sink.known c.push_answer.new.output)
    some right c.in_ok-push_answer.ensures.pushed way
