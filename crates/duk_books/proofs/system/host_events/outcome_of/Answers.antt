use Rattle.std.proofs.Common.{subst, sym}
use Rattle.duk_frame.specs.Answer.{IsAnswer}
use Rattle.duk_books.specs.Up.{SaysAnswer}
use Rattle.duk_books.proofs.moves.HostAnswers.{says_answer}
use Rattle.duk_books.proofs.system.host_events.outcome_of.Goals as goal

pub returns-in-Some : goal.returns-in-Some
returns-in-Some c =
    let answers = c.args.answers.now in
    let answer = c.args.answer.now in
    let is : IsAnswer answer.items c.in-Some.given = subst (λ bytes. IsAnswer bytes c.in-Some.given) c.as_slice.ensures.value c.in-Some.ensures.found in
    subst (SaysAnswer answers answer) (sym c.outcome_of_answer.ensures) (says_answer answers answer c.is_among-again.result c.in-Some.given c.is_among-again.ensures is)
