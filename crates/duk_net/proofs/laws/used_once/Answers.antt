use Rattle.duk_net.proofs.used_once.UsedOnce.{leads_by_owner, sent_by_owners}
use Rattle.duk_net.proofs.used_once.WorldSafe.{WorldLaws, reached_is_safe}
use Rattle.duk_net.proofs.laws.used_once.Goals as goal
use Rattle.duk_net.proofs.laws.used_once.Goals.{After-one_reading}

laws_of : (g : _) → After-one_reading g → WorldLaws g.C.Cell.meaning
laws_of g c = record { registers = c.registers.ensures; reading = c.one_reading.ensures.request; request = c.requests.ensures.request; own_key = c.own_initial_key.ensures }

pub returns-clause-used_once : goal.returns-clause-used_once
returns-clause-used_once g c world reached = (reached_is_safe _ world (laws_of g c) reached).used_once

pub returns-clause-used_are_owned : goal.returns-clause-used_are_owned
returns-clause-used_are_owned g c world reached = (reached_is_safe _ world (laws_of g c) reached).stations.owned

pub returns-clause-owned_when_sent : goal.returns-clause-owned_when_sent
returns-clause-owned_when_sent g c old new outcomes reached leads = sent_by_owners _ old outcomes (laws_of g c) reached

pub returns-clause-sent_by_owner : goal.returns-clause-sent_by_owner
returns-clause-sent_by_owner g c old new outcomes reached leads = leads_by_owner _ old new outcomes (laws_of g c) reached leads
