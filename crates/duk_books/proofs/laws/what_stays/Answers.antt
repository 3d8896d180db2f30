use Rattle.duk_books.proofs.numbers.SentByOwner.{leads_keys, leads_owners}
use Rattle.duk_books.proofs.laws.what_stays.Goals as goal

pub returns-clause-owners : goal.returns-clause-owners
returns-clause-owners g c old new outcomes reached leads = leads_owners _ old new outcomes reached leads

pub returns-clause-keys : goal.returns-clause-keys
returns-clause-keys g c old new outcomes reached leads = leads_keys _ old new outcomes reached leads
