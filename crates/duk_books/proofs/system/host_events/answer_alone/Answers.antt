use Rattle.std.proofs.Common.{◌∷◌, [], map, subst, sym, ap, ◌∙◌}
use Rattle.duk_journal_host.specs.Group.{AnswersFrames}
use Rattle.duk_journal_host.specs.Host.{host_meaning_of}
use Rattle.duk_books.proofs.moves.HostAnswers.{IsAnswerBytes, answer_alone, not_none}
use Rattle.duk_books.proofs.system.host_events.answer_alone.Goals as goal

pub first_answer-requires : goal.first_answer-requires
first_answer-requires g c =
    let meaning = host_meaning_of g.J.Journal.meaning g.I.Issuer.decides in
    let given = c.answer.new.group.answers in
    let answered = subst (λ frames. AnswersFrames meaning (map (λ frame. frame.items) frames) c.args.host.now c.answer.new.self given) c.from_ref.ensures.value c.in_ok-answer.ensures.answered in
    not_none given (answer_alone c.answers.ensures meaning c.args.host.now c.answer.new.self c.args.frame.now.items given answered c.judges.ensures)

pub returns-clause-answered : goal.returns-clause-answered
returns-clause-answered g c =
    let meaning = host_meaning_of g.J.Journal.meaning g.I.Issuer.decides in
    let given = c.answer.new.group.answers in
    let answered = subst (λ frames. AnswersFrames meaning (map (λ frame. frame.items) frames) c.args.host.now c.answer.new.self given) c.from_ref.ensures.value c.in_ok-answer.ensures.answered in
    let one = answer_alone c.answers.ensures meaning c.args.host.now c.answer.new.self c.args.frame.now.items given answered c.judges.ensures in
    subst (λ answers. AnswersFrames meaning (c.args.frame.now.items ∷ []) c.args.host.now c.answer.new.self answers)
    (one.alone ∙ ap (λ answer. answer ∷ []) (sym (c.first_answer.ensures one.answer [] one.alone))) answered

pub returns-clause-kind : goal.returns-clause-kind
returns-clause-kind g c =
    let meaning = host_meaning_of g.J.Journal.meaning g.I.Issuer.decides in
    let given = c.answer.new.group.answers in
    let answered = subst (λ frames. AnswersFrames meaning (map (λ frame. frame.items) frames) c.args.host.now c.answer.new.self given) c.from_ref.ensures.value c.in_ok-answer.ensures.answered in
    let one = answer_alone c.answers.ensures meaning c.args.host.now c.answer.new.self c.args.frame.now.items given answered c.judges.ensures in
    subst IsAnswerBytes (sym (c.first_answer.ensures one.answer [] one.alone)) one.kind
