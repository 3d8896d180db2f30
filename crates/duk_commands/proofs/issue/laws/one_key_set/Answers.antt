use Rattle.duk_ledger.specs.Ledger.{ledger_meaning}
use Rattle.duk_commands.proofs.IssueRuns.{failed_set, issued_set}
use Rattle.duk_commands.proofs.issue.laws.one_key_set.Goals as goal

pub returns-clause-issued : goal.returns-clause-issued
returns-clause-issued g c job old new has = issued_set (ledger_meaning g.D.Disk.meaning) job old new has

pub returns-clause-failed : goal.returns-clause-failed
returns-clause-failed g c job old new why failed = failed_set (ledger_meaning g.D.Disk.meaning) job old new why failed
