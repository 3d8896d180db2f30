use Rattle.duk_io.proofs.WritesInTurn.{rose_later, stayed_twice}
use Rattle.duk_io.proofs.laws.failures.Goals as goal

pub returns-clause-stayed : goal.returns-clause-stayed
returns-clause-stayed c = stayed_twice

pub returns-clause-rose : goal.returns-clause-rose
returns-clause-rose c = rose_later
