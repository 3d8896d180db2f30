use Rattle.std.proofs.Common.{subst}
use Rattle.duk_hosts.specs.Events.{AreSettledIn}
use Rattle.duk_hosts.proofs.Again.{known_again, nothing_again, settled_in}
use Rattle.duk_hosts.proofs.laws.settled_again.Goals as goal

pub returns : goal.returns
returns c = record {
  known = λ hosts book events before after earlier again history are.
      known_again book.bound book.first before after earlier again (subst (λ outcomes. AreSettledIn book.bound book.first outcomes) are (settled_in hosts book events history));
  nothing = λ hosts book events before after earlier again history are.
      nothing_again book.bound book.first before after earlier again (subst (λ outcomes. AreSettledIn book.bound book.first outcomes) are (settled_in hosts book events history));
}
