use Rattle.std.proofs.Common.{ℕ, List, rules}
use Rattle.duk_block.specs.Hexadecimal.{IsHexadecimal}
use Rattle.duk_commands.specs.Sought.{HasMac}
use Rattle.duk_commands.proofs.SoughtIsRead.{no_frame}
use Rattle.duk_commands.proofs.sought.read_frame.Goals as goal
use Rattle.duk_tree.specs.Serial.{Serial}

pub returns-in_err-ksn-clause-refused : goal.returns-in_err-ksn-clause-refused
returns-in_err-ksn-clause-refused c =
    let read : IsHexadecimal c.args.what.now c.as_slice.result.now = search rules in
    let none : (ksn : Serial) (mac : List ℕ) → ¬ HasMac c.as_slice.result.now ksn mac = search rules in
    let refused = no_frame c.args.what.now c.as_slice.result.now read none in
    search (rules, refused)
