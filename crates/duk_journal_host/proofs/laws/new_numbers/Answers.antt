use Rattle.duk_journal_host.proofs.NewNumbers.{new_after}
use Rattle.duk_journal_host.proofs.laws.new_numbers.Goals as goal

pub returns : goal.returns
returns c = new_after
