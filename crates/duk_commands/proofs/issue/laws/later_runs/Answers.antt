use Rattle.std.proofs.Common.{◌<◌, ◌≤◌, arith}
use Rattle.duk_ledger.specs.Issued.{run_of}
use Rattle.duk_ledger.specs.declared.issued.Issued.{Issued}
use Rattle.duk_commands.specs.Ledger.{largest_run, next_run}
use Rattle.duk_commands.proofs.LaterRuns.{within_largest}
use Rattle.duk_commands.proofs.Members.{all_members}
use Rattle.duk_commands.proofs.issue.laws.later_runs.Goals as goal

pub returns : goal.returns
returns c = λ issues. all_members (λ (issued : Issued). run_of issued.made < next_run issues) issues
    (λ issued is_in. let within : run_of issued.made ≤ largest_run issues = within_largest issues issued is_in in omega (arith, within))
