use Rattle.duk_journal.proofs.CheckedContents.{header_length, identity_back}
use Rattle.duk_journal.proofs.laws.headers.Goals as goal

pub returns-clause-length : goal.returns-clause-length
returns-clause-length c = header_length

pub returns-clause-identity : goal.returns-clause-identity
returns-clause-identity c = identity_back
