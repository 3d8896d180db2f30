use Rattle.std.proofs.Common.{◌≡◌, None, rules}
use Rattle.duk_frame.specs.Request.{IsRequest, request_bytes}
use Rattle.duk_host.specs.Judgement.{basis_with}
use Rattle.duk_host.specs.Recent.{reply_given}
use Rattle.duk_host.proofs.NumberRefuses.{mac_refuses, number_refuses}
use Rattle.duk_host.proofs.judge.judge.Goals as goal

pub returns-in-Err-check_number-clause-settled : goal.returns-in-Err-check_number-clause-settled
returns-in-Err-check_number-clause-settled g c decides =
    let running = c.args.running.now in
    let request = c.in-Some.request in
    let is_request : IsRequest c.args.bytes.now request = search rules in
    let no_repeat : reply_given running.recent (request_bytes request) ≡ None = search rules in
    number_refuses (basis_with c.args.hsm.now running.used running.recent c.args.room decides) c.args.bytes.now c.answer-in-Err-check_number.result.frame.items request c.in-Err-check_number.reason c.answer-in-Err-check_number.result.says
    is_request (c.in-Ok.ensures.authentic c.args.hsm.now (record { given = c.open.ensures.opened; refused = c.open.ensures.refused })) no_repeat c.in-Err-check_number.ensures.refused c.answer-in-Err-check_number.ensures.frame c.answer-in-Err-check_number.ensures.reported

pub returns-in-Err-clause-settled : goal.returns-in-Err-clause-settled
returns-in-Err-clause-settled g c decides =
    let running = c.args.running.now in
    let request = c.in-Some.request in
    let is_request : IsRequest c.args.bytes.now request = search rules in
    mac_refuses (basis_with c.args.hsm.now running.used running.recent c.args.room decides) c.args.bytes.now c.answer-in-Err.result.frame.items request c.in-Err.reason c.answer-in-Err.result.says
    is_request (c.in-Err.ensures.refused c.args.hsm.now (record { given = c.open.ensures.opened; refused = c.open.ensures.refused })) c.answer-in-Err.ensures.frame c.answer-in-Err.ensures.reported
