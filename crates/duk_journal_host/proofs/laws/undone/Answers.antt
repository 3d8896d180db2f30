use Rattle.duk_journal_host.proofs.Undone.{never_stands, no_more}
use Rattle.duk_journal_host.proofs.laws.undone.Goals as goal

pub returns : goal.returns
returns c = record { no_more = no_more; never_stands = never_stands }
