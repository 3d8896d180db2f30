use Rattle.std.proofs.Common.{rules}
use Rattle.duk_commands.proofs.FaultOrder.{unwrap_refused}
use Rattle.duk_commands.proofs.unwrap.unwrap_lines.Goals as goal

pub returns-in-Err-clause-refused : goal.returns-in-Err-clause-refused
returns-in-Err-clause-refused c =
    unwrap_refused c.args.kbpk.now c.args.block.now c.in_ok-kbpk.kbpk _ (search rules) (rw c.as_bytes.ensures.value at c.in-Err.ensures.refused)
