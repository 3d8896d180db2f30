use Rattle.duk_journal_host.proofs.Undone.{as_told, told_after}
use Rattle.duk_journal_host.proofs.laws.told_what_stands.Goals as goal

pub returns : goal.returns
returns c = record { frames = told_after; told = as_told }
