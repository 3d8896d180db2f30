use Rattle.std.proofs.Common.{◌∷◌, [], inr, refl, subst, ◌∙◌}
use Rattle.duk_journal_host.specs.Group.{GroupRefused}
use Rattle.duk_journal_host.specs.Host.{host_meaning_of}
use Rattle.duk_books.proofs.moves.HostAnswers.{answered_reaches, if_ok, on_err}
use Rattle.duk_stations.proofs.PlacesInLists.{is_at}
use Rattle.duk_books.proofs.system.System.up.Goals as goal

pub returns-in-Ok-clause-outcome : goal.returns-in-Ok-clause-outcome
returns-in-Ok-clause-outcome g c =
    let requests = c.self.inside.requests in
    rw (← c.self.view_is) (answered_reaches _ _ c.args.k c.outcome_of-outcome.result _ (record {
      frame = c.index.result.now;
      answer = c.in-Ok.answer;
      sent = is_at requests.items c.args.k c.in-Some.sent c.len.result c.index.result.now c.in-Some.ensures.0 c.in-Some.ensures.1 (c.len.ensures ∙ requests.ok.0) c.index.ensures;
      answered = c.in-Ok.ensures.answered;
      says = rw (c.as_slice.ensures.value, c.reserve.ensures.items) at c.outcome_of-outcome.ensures;
      rest = rw (c.push_within.ensures, c.reserve.ensures.items) refl;
    }))

pub returns-clause-outcome : goal.returns-clause-outcome
returns-clause-outcome g c =
    let requests = c.self.inside.requests in
    rw (← c.self.view_is) (if_ok _ _ (λ outcome reported. rw reported.0 (record {
      frame = c.index.result.now;
      answers = c.in-Err.ensures.refused.0;
      sent = is_at requests.items c.args.k c.in-Some.sent c.len.result c.index.result.now c.in-Some.ensures.0 c.in-Some.ensures.1 (c.len.ensures ∙ requests.ok.0) c.index.ensures;
      not_memory = reported.1;
      faulted = c.in-Err.ensures.refused.1;
      rest = rw c.reserve.ensures.items refl;
    })) c.outcome_of_fault.result c.outcome_of_fault.ensures.other)

pub returns-clause-left : goal.returns-clause-left
returns-clause-left g c =
    let requests = c.self.inside.requests in
    let meaning = host_meaning_of g.J.Journal.meaning g.I.Issuer.decides in
    rw (← c.self.view_is) (on_err _ _ (λ is. inr (record {
      frame = c.index.result.now;
      answers = c.in-Err.ensures.refused.0;
      sent = is_at requests.items c.args.k c.in-Some.sent c.len.result c.index.result.now c.in-Some.ensures.0 c.in-Some.ensures.1 (c.len.ensures ∙ requests.ok.0) c.index.ensures;
      first = subst (λ why. GroupRefused meaning (c.index.result.now.items ∷ []) c.self.inside.host c.answer_alone.new.host c.in-Err.ensures.refused.0 why) is c.in-Err.ensures.refused.1;
      rest = rw c.reserve.ensures.items refl;
    })) c.outcome_of_fault.result c.outcome_of_fault.ensures.memory)
