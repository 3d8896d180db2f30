use Rattle.std.proofs.Common.{◌+◌, length, refl, ap, subst, ◌∙◌}
use Rattle.duk_host.specs.Handle.{AcceptFailed, AnswersAs, HandleRefused}
use Rattle.duk_host.specs.Host.{host_meaning_of}
use Rattle.duk_host.specs.declared.fault.HostFault.TheVariants.{NoMemory}
use Rattle.duk_stations.proofs.PlacesInLists.{is_at}
use Rattle.duk_net.proofs.worlds.HostAnswers.{if_ok, on_err, up_answered}
use Rattle.duk_net.proofs.system.System.up.Goals as goal

pub returns-in-Ok-clause-outcome : goal.returns-in-Ok-clause-outcome
returns-in-Ok-clause-outcome g c =
    let requests = c.self.inside.requests in
    let meaning = host_meaning_of g.L.UsedLog.meaning g.I.Issuer.decides in
    rw (← c.self.view_is, c.outcome_of-outcome.ensures) (up_answered _ _ c.args.k _ c.index.result.now c.in-Ok.answered.frame c.in-Ok.answered.says _
    (is_at requests.items c.args.k c.in-Some.sent c.len.result c.index.result.now c.in-Some.ensures.0 c.in-Some.ensures.1 (c.len.ensures ∙ requests.ok.0) c.index.ensures)
    c.in-Ok.ensures.reported (subst (λ bytes. AnswersAs meaning bytes c.self.inside.host c.answer.new.self c.in-Ok.answered.frame.items c.in-Ok.answered.says) c.as_slice.ensures.value c.in-Ok.ensures.answered)
    (record {
      number = ap (λ n. n + 1) (c.len-in-Ok.ensures ∙ c.reserve.new.self.ok.0 ∙ ap length c.reserve.ensures.items);
      rest = rw (c.push_within.ensures, c.reserve.ensures.items) refl;
    }))

pub returns-in-Err-clause-outcome : goal.returns-in-Err-clause-outcome
returns-in-Err-clause-outcome g c =
    let requests = c.self.inside.requests in
    let meaning = host_meaning_of g.L.UsedLog.meaning g.I.Issuer.decides in
    rw (← c.self.view_is) (if_ok _ _ (λ outcome reported. rw reported.0 (record {
      request = c.index.result.now;
      sent = is_at requests.items c.args.k c.in-Some.sent c.len.result c.index.result.now c.in-Some.ensures.0 c.in-Some.ensures.1 (c.len.ensures ∙ requests.ok.0) c.index.ensures;
      not_memory = reported.1;
      faulted = subst (λ bytes. HandleRefused meaning bytes c.self.inside.host c.answer.new.self c.in-Err.fault) c.as_slice.ensures.value c.in-Err.ensures.refused;
      rest = rw c.reserve.ensures.items refl;
    })) c.outcome_of_fault.result c.outcome_of_fault.ensures.other)

pub returns-in-Err-clause-same : goal.returns-in-Err-clause-same
returns-in-Err-clause-same g c =
    let meaning = host_meaning_of g.L.UsedLog.meaning g.I.Issuer.decides in
    on_err _ _ (λ is.
    let failed : AcceptFailed meaning c.as_slice.result.now c.self.inside.host c.answer.new.self NoMemory =
    subst (λ why. HandleRefused meaning c.as_slice.result.now c.self.inside.host c.answer.new.self why) is c.in-Err.ensures.refused in
    rw (← c.self.view_is, failed.not_kept, c.reserve.ensures.items) refl) c.outcome_of_fault.result c.outcome_of_fault.ensures.memory
