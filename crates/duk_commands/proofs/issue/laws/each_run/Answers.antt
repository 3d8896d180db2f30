use Rattle.duk_ledger.specs.Ledger.{ledger_meaning}
use Rattle.duk_commands.proofs.IssueRuns.{failed_run, issued_run}
use Rattle.duk_commands.proofs.issue.laws.each_run.Goals as goal

pub returns-clause-issued : goal.returns-clause-issued
returns-clause-issued g c job old new has = issued_run (ledger_meaning g.D.Disk.meaning) job old new has

pub returns-clause-failed : goal.returns-clause-failed
returns-clause-failed g c job old new why failed = failed_run (ledger_meaning g.D.Disk.meaning) job old new why failed
