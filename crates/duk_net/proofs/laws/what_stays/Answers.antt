use Rattle.duk_net.proofs.worlds.ReachedByMoves.{reached_leads}
use Rattle.duk_net.proofs.used_once.UsedOnce.{leads_keys_stay, leads_owners_stay}
use Rattle.duk_net.proofs.laws.what_stays.Goals as goal

pub returns-clause-owners : goal.returns-clause-owners
returns-clause-owners g c old new outcomes reached leads = leads_owners_stay _ old new outcomes reached leads

pub returns-clause-keys : goal.returns-clause-keys
returns-clause-keys g c old new outcomes reached leads = leads_keys_stay _ old new outcomes reached leads

pub returns-clause-reached : goal.returns-clause-reached
returns-clause-reached g c old new outcomes reached leads = reached_leads _ old new outcomes reached leads
