use Rattle.std.proofs.Common.{sym, ap, ◌∙◌}
use Rattle.duk_books.specs.Books.{Frame}
use Rattle.duk_books.proofs.moves.HostAnswers.{first_frame, first_within}
use Rattle.duk_books.proofs.system.host_events.first_answer.Goals as goal

pub bounds-answers-0 : goal.bounds-answers-0
bounds-answers-0 c = first_within c.answers.result.now (λ none. c.requires (sym c.answers.ensures.answers ∙ none))

pub returns : goal.returns
returns c = λ answer others same.
    ap (λ (it : Frame). it.items) c.copy_of.ensures ∙ first_frame c.answers.result.now c.index-answers-0.result answer others (c.answers.ensures.answers ∙ same) c.index-answers-0.is
