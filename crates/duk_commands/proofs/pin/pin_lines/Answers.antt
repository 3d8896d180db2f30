use Rattle.std.proofs.Common.{rules}
use Rattle.std.specs.Option.{option_copied}
use Rattle.duk_commands.proofs.FaultOrder.{pan_refused}
use Rattle.duk_commands.proofs.pin.pin_lines.Goals as goal

pub returns-in_err-pan-clause-refused : goal.returns-in_err-pan-clause-refused
returns-in_err-pan-clause-refused c =
    let read = c.parse-2.ensures in
    let refused = pan_refused c.args.pin.now c.args.pan.now (option_copied c.args.key) c.parse-2.result (search rules) read.ok read.wrong_length read.wrong_digit in
    search (rules, refused)
