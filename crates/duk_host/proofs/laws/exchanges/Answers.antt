use Rattle.duk_host.proofs.Exchanges.{given_before, last_is_kept}
use Rattle.duk_host.proofs.laws.exchanges.Goals as goal

pub returns-clause-given : goal.returns-clause-given
returns-clause-given c = λ recent bytes frame. given_before bytes frame recent

pub returns-clause-last : goal.returns-clause-last
returns-clause-last c = last_is_kept
