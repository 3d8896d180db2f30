use Rattle.duk_hosts.proofs.Steps.{after_call, after_event, at_first, refuses_reply, refuses_reversal_reply, sends_purchase, sends_reversal, sent_on, takes_no_frame}
use Rattle.duk_hosts.proofs.laws.tills_go_on.Goals as goal

pub returns : goal.returns
returns c = record {
  first = at_first;
  event = after_event;
  call = after_call;
  begin_sends = sends_purchase;
  reverse_sends = sends_reversal;
  stays_sent = sent_on;
  refused_reply = refuses_reply;
  refused_reversal_reply = refuses_reversal_reply;
  no_reply = takes_no_frame;
}
