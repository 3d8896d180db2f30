use Rattle.std.proofs.Common.{[], inr}
use Rattle.duk_host.specs.Judgement.{basis_with}
use Rattle.duk_host.proofs.Reasons.{mac_case, reason_of}
use Rattle.duk_host.proofs.steps.authenticate_opened.Goals as goal

pub returns-in-Err-clause-refused : goal.returns-in-Err-clause-refused
returns-in-Err-clause-refused c = λ keys numbers room decides opens.
    let request = c.in-Some.request in
    let basis = basis_with keys numbers [] room decides in
    let against = c.in-Err.ensures.refused keys (opens request c.in-Some.ensures.found) in
    inr (record {
      request = request;
      reason = c.in-Err.reason;
      is_request = c.in-Some.ensures.found;
      refuses = reason_of basis request c.in-Err.reason (mac_case basis request c.in-Err.reason against);
      frame_is = c.answer-in-Err.ensures.frame;
    })
