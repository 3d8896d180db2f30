use Rattle.duk_books.proofs.numbers.AllSafe.{SafeLaws}
use Rattle.duk_books.proofs.numbers.EachMoveSafe.{reached_safe}
use Rattle.duk_books.proofs.numbers.SentByOwner.{leads_by_owner, sent_by_owners}
use Rattle.duk_books.proofs.laws.numbers.Goals as goal
use Rattle.duk_books.proofs.laws.numbers.Goals.{After-known}

laws_of : (g : _) → After-known g → SafeLaws g.C.Cell.meaning
laws_of g c = let known = c.known.ensures in record { registers = known.calls.registers; reading = known.frames; request = known.request; reversal = known.reversal; own_key = c.own_initial_key.ensures }

pub returns-clause-used_once : goal.returns-clause-used_once
returns-clause-used_once g c books reached = (reached_safe _ (laws_of g c) books reached).used_once

pub returns-clause-used_are_owned : goal.returns-clause-used_are_owned
returns-clause-used_are_owned g c books reached = (reached_safe _ (laws_of g c) books reached).stations.owned

pub returns-clause-sent_by_owner : goal.returns-clause-sent_by_owner
returns-clause-sent_by_owner g c old new outcomes reached leads = leads_by_owner _ old new outcomes reached leads (laws_of g c)

pub returns-clause-owned_when_sent : goal.returns-clause-owned_when_sent
returns-clause-owned_when_sent g c old new outcomes reached leads = sent_by_owners _ old outcomes (laws_of g c) reached
