use Rattle.std.proofs.Common.{rules}
use Rattle.std.specs.Prelude.{IsSome}
use Rattle.duk_block.specs.Hexadecimal.{IsHexadecimal}
use Rattle.duk_commands.specs.KeyArgument.{key_in}
use Rattle.duk_show.proofs.CheckedFrames.{check_refused}
use Rattle.duk_show.proofs.checked_frame.checked_frame_lines.Goals as goal

pub returns-clause-refused : goal.returns-clause-refused
returns-clause-refused c =
    let key : IsSome (key_in c.args.given) = search rules in
    let read : IsHexadecimal c.args.text.now c.as_slice.result.now = search rules in
    check_refused c.args.given c.args.text.now c.as_slice.result.now c.lines_of_checked.result key read c.lines_of_checked.ensures.refused
