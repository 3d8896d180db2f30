use Rattle.std.proofs.Common.{rules}
use Rattle.duk_host.specs.Handle.{AnswersAs, HandleRefused, IsToAccept, IsVerdictOn, KeepRefused}
use Rattle.duk_host.specs.inner.Handle.{IsReplied, IsAcceptedVerdict}
use Rattle.duk_host.specs.Host.{HostOf, host_meaning_of}
use Rattle.duk_host.proofs.AcceptedIsAnswered.{answers, answers_reply, if_err, if_ok, if_ok_both, refuses, reply_reported, settles, to_accept}
use Rattle.duk_host.proofs.host.Host.answer.Goals as goal

pub accept-requires : goal.accept-requires
accept-requires g c =
    let meaning = host_meaning_of g.L.UsedLog.meaning g.I.Issuer.decides in
    let host : HostOf g.row.L.Denot g.row.I.Denot = record { keys = c.self.inside.hsm; issuer = c.self.inside.issuer; log = c.self.inside.log; state = c.self.inside.state } in (
      search rules,
      rw (← c.self.view_is) (to_accept meaning host c.in-Some.running c.in-Fresh.payment.request c.room.result c.self.invariant.holds c.in-Some.is c.room.ensures c.in-Fresh.ensures.acceptable, (c.in-Fresh.ensures.request, c.in-Fresh.ensures.opened)),
    )

pub returns-in-Fresh-clause-answered : goal.returns-in-Fresh-clause-answered
returns-in-Fresh-clause-answered g c =
    let meaning = host_meaning_of g.L.UsedLog.meaning g.I.Issuer.decides in
    let host : HostOf g.row.L.Denot g.row.I.Denot = record { keys = c.self.inside.hsm; issuer = c.self.inside.issuer; log = c.self.inside.log; state = c.self.inside.state } in
    let accept : IsToAccept meaning c.args.self.now c.in-Fresh.payment.request =
    rw (← c.self.view_is) (to_accept meaning host c.in-Some.running c.in-Fresh.payment.request c.room.result c.self.invariant.holds c.in-Some.is c.room.ensures c.in-Fresh.ensures.acceptable) in
    if_ok_both (λ answered. IsReplied meaning c.args.bytes.now c.args.self.now c.accept.new.self c.in-Fresh.payment.request answered.frame.items) (λ answered. IsAcceptedVerdict answered.frame.items answered.says)
    (λ answered. AnswersAs meaning c.args.bytes.now c.args.self.now c.accept.new.self answered.frame.items answered.says)
    (λ answered replied. answers_reply meaning c.args.bytes.now c.args.self.now c.accept.new.self answered.frame.items answered.says (answers meaning c.args.bytes.now c.args.self.now c.accept.new.self c.in-Fresh.payment.request answered.frame.items accept c.in-Fresh.ensures.request replied))
    c.accept.result c.accept.ensures.replied c.accept.ensures.reported

pub returns-in-Fresh-clause-reported : goal.returns-in-Fresh-clause-reported
returns-in-Fresh-clause-reported g c =
    if_ok (λ answered. IsAcceptedVerdict answered.frame.items answered.says) (λ answered. IsVerdictOn answered.frame.items answered.says) (λ answered. reply_reported answered.frame.items answered.says) c.accept.result c.accept.ensures.reported

pub returns-in-Fresh-clause-refused : goal.returns-in-Fresh-clause-refused
returns-in-Fresh-clause-refused g c =
    let meaning = host_meaning_of g.L.UsedLog.meaning g.I.Issuer.decides in
    let host : HostOf g.row.L.Denot g.row.I.Denot = record { keys = c.self.inside.hsm; issuer = c.self.inside.issuer; log = c.self.inside.log; state = c.self.inside.state } in
    let accept : IsToAccept meaning c.args.self.now c.in-Fresh.payment.request =
    rw (← c.self.view_is) (to_accept meaning host c.in-Some.running c.in-Fresh.payment.request c.room.result c.self.invariant.holds c.in-Some.is c.room.ensures c.in-Fresh.ensures.acceptable) in
    if_err (KeepRefused meaning c.args.self.now c.accept.new.self c.in-Fresh.payment.request.ksn) (HandleRefused meaning c.args.bytes.now c.args.self.now c.accept.new.self)
    (λ why refused. refuses meaning c.args.bytes.now c.args.self.now c.accept.new.self c.in-Fresh.payment.request why accept c.in-Fresh.ensures.request refused)
    c.accept.result c.accept.ensures.refused

pub returns-in-Settled-clause-answered : goal.returns-in-Settled-clause-answered
returns-in-Settled-clause-answered g c =
    let meaning = host_meaning_of g.L.UsedLog.meaning g.I.Issuer.decides in
    let host : HostOf g.row.L.Denot g.row.I.Denot = record { keys = c.self.inside.hsm; issuer = c.self.inside.issuer; log = c.self.inside.log; state = c.self.inside.state } in
    rw (← c.self.view_is) (settles meaning c.args.bytes.now host c.in-Some.running c.room.result c.in-Settled.answered.frame.items c.in-Settled.answered.says c.self.invariant.holds c.in-Some.is c.room.ensures c.in-Settled.ensures.settled)
