use Rattle.duk_net.proofs.used_once.NoUsedKey.{are_above_used, find_version_2, have_no_used_key}
use Rattle.duk_net.proofs.used_once.WorldSafe.{WorldLaws}
use Rattle.duk_net.proofs.laws.no_used_key.Goals as goal
use Rattle.duk_net.proofs.laws.no_used_key.Goals.{After-uniqueness}

laws_of : (g : _) → After-uniqueness g → WorldLaws g.C.Cell.meaning
laws_of g c = record { registers = c.registers.ensures; reading = c.one_reading.ensures.request; request = c.requests.ensures.request; own_key = c.own_initial_key.ensures }

pub returns-clause-above_used : goal.returns-clause-above_used
returns-clause-above_used g c world reached = are_above_used _ world (laws_of g c) reached

pub returns-clause-no_used_key : goal.returns-clause-no_used_key
returns-clause-no_used_key g c world reached = have_no_used_key _ world (laws_of g c) reached c.frontier.ensures.none_used c.uniqueness.ensures.register

pub returns-clause-version_2 : goal.returns-clause-version_2
returns-clause-version_2 g c world reached = find_version_2 _ world (laws_of g c) reached
