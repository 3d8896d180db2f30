use Rattle.std.proofs.Common.{Ok, Err, sym, ◌∙◌, inl, inr}
use Rattle.std.proofs.Common.{rules}
use Rattle.duk_frame.specs.Request.{IsRequest}
use Rattle.duk_tree.specs.Path.{IsUsable}
use Rattle.duk_calls.specs.Requests.{front_frame}
use Rattle.duk_calls.specs.declared.fault.Fault.TheVariants as fault
use Rattle.duk_calls.proofs.many_requests.verdict.Goals as goal

pub returns-in_default : goal.returns-in_default
returns-in_default c = λ bdk right. record {
  answer = Err fault.NotARequest;
  status_is = search rules;
  holds = λ request is. search rules;
}

pub returns-then-usable : goal.returns-then-usable
returns-then-usable c = λ bdk right.
    let request = c.in-Some.request in
    let is_request : IsRequest (front_frame c.args.bytes.now) request = search rules in
    let usable : IsUsable request.ksn.counter = search rules in
    let mac = right request is_request in
    elim c.told_of_mac.ensures [
      | inl told ↦ record {
        answer = Ok tt;
        status_is = told.1;
        holds = (request, record { is_request = is_request; usable = usable }, record { request = request; is_request = is_request; mac_is = told.0 ∙ mac });
      }
      | inr told ↦ record {
        answer = Err fault.BadMac;
        status_is = told.1;
        holds = (request, record { is_request = is_request; usable = usable }, record { request = request; is_request = is_request; mac_is_other = λ same. told.0 (same ∙ sym mac) });
      }
    ]

pub returns-else-usable : goal.returns-else-usable
returns-else-usable c = λ bdk right. record {
  answer = Err fault.NotUsable;
  status_is = search rules;
  holds = (c.in-Some.request, search rules, search rules);
}
