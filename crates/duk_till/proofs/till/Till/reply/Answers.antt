use Rattle.std.proofs.Common.{inr}
use Rattle.std.proofs.lemmas.Result.{err_from_is_err_and}
use Rattle.duk_till.proofs.Told.{completes, outcome_kept, outcome_lost, purchase_refused, reply_to, same_till, till_of}
use Rattle.duk_till.proofs.till.Till.reply.Goals as goal

pub returns-in_err-code-clause-refused : goal.returns-in_err-code-clause-refused
returns-in_err-code-clause-refused g c =
    let p = err_from_is_err_and c.from_residual-in_err-code.result c.from_residual-in_err-code.ensures.1 in
    rw (p.1, p.2, ← c.self.view_is) (
      (c.in_ok-ksn.ksn, c.in_ok-ksn.amount, c.in_ok-ksn.ensures.found, inr (c.in_ok-check_waits.ensures.waits, c.in_err-code.ensures.refused)),
      same_till c.reply.new.self c.self.inside.terminal c.self.inside.book c.self.inside.state c.in_err-code.ensures.same,
    )

pub returns-in_err-keep-in-Done-clause-refused : goal.returns-in_err-keep-in-Done-clause-refused
returns-in_err-keep-in-Done-clause-refused g c =
    let p = err_from_is_err_and c.from_residual-in_err-keep-in-Done.result c.from_residual-in_err-keep-in-Done.ensures.1 in
    let reply = reply_to c.self.inside.terminal.state c.in_ok-ksn.ksn c.args.bytes.now c.in_ok-code.field-0 c.in-Done.code c.in_ok-check_waits.ensures.waits c.in_ok-code.ensures.reported c.in-Done.is in
    let done = completes c.self.inside.terminal c.reply.new.self c.in_ok-code.field-0 c.in-Done.code c.in-Done.is c.in_ok-code.ensures.answered in
    rw (p.1, p.2, ← c.self.view_is) (outcome_lost g.J.Cell.meaning c.args.bytes.now (till_of c.self.inside.terminal c.self.inside.book c.self.inside.state) c.keep.new.self c.reply.new.self c.in_ok-ksn.ksn c.in_ok-ksn.amount c.in-Done.code c.of_code.result _ c.in_ok-ksn.ensures.found reply done c.in_err-keep-in-Done.ensures.terminal c.of_code.ensures c.in_err-keep-in-Done.ensures.refused)

pub returns-in_ok-keep-in-Done-clause-told : goal.returns-in_ok-keep-in-Done-clause-told
returns-in_ok-keep-in-Done-clause-told g c =
    let reply = reply_to c.self.inside.terminal.state c.in_ok-ksn.ksn c.args.bytes.now c.in_ok-code.field-0 c.in-Done.code c.in_ok-check_waits.ensures.waits c.in_ok-code.ensures.reported c.in-Done.is in
    let done = completes c.self.inside.terminal c.reply.new.self c.in_ok-code.field-0 c.in-Done.code c.in-Done.is c.in_ok-code.ensures.answered in
    let kept = c.in_ok-keep-in-Done.ensures in
    rw (← c.self.view_is) (outcome_kept g.J.Cell.meaning c.args.bytes.now (till_of c.self.inside.terminal c.self.inside.book c.self.inside.state) c.keep.new.self c.reply.new.self c.in_ok-ksn.ksn c.in_ok-ksn.amount c.in-Done.code c.of_code.result c.in_ok-ksn.ensures.found reply done kept.terminal c.of_code.ensures kept.kept kept.state)

pub returns-in-Refused-clause-told : goal.returns-in-Refused-clause-told
returns-in-Refused-clause-told g c =
    rw (← c.self.view_is) (purchase_refused c.args.bytes.now c.self.inside.terminal c.reply.new.self c.self.inside.book c.self.inside.state c.in_ok-ksn.ksn c.in_ok-ksn.amount c.in_ok-code.field-0 c.in-Refused.reason c.in_ok-ksn.ensures.found c.in_ok-check_waits.ensures.waits c.in_ok-code.ensures.reported c.in-Refused.is c.in_ok-code.ensures.answered)
