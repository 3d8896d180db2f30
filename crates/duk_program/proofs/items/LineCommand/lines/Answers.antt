use Rattle.std.proofs.Common.{refl}
use Rattle.duk_commands.specs.Fault.{report_line}
use Rattle.duk_program.specs.declared.items.ItemFault.TheVariants as fault
use Rattle.duk_show.specs.Fault.{show_line}
use Rattle.duk_commands.specs.KeyArgument.{key_argument}
use Rattle.duk_commands.specs.Keys.{derived_of}
use Rattle.duk_program.proofs.AsItems.{lines, refused}
use Rattle.duk_program.proofs.CommandLines.{lines as keyed_lines, refused as keyed_refused}
use Rattle.duk_program.proofs.items.LineCommand.lines.Goals as goal

pub returns-in-Derive-clause-lines : goal.returns-in-Derive-clause-lines
returns-in-Derive-clause-lines c explained =
    let items = c.in-Derive.items in
    rw c.in-Derive.is (lines fault.Command _ c.lines.result c.of_command.result c.of_command.ensures
    (keyed_lines _ _ (λ key. derived_of key c.args.item.now items.trace items.all) (key_argument items.bdk items.initial)
    (record { written = items.bdk; written_is = refl; key_is = refl }) (λ it. it.items) c.lines.result c.lines.ensures.lines))

pub returns-in-Derive-clause-refused : goal.returns-in-Derive-clause-refused
returns-in-Derive-clause-refused c explained =
    let items = c.in-Derive.items in
    rw c.in-Derive.is (refused fault.Command _ report_line c.lines.result c.of_command.result (λ why. refl) c.of_command.ensures
    (keyed_refused _ _ (λ key. derived_of key c.args.item.now items.trace items.all) (key_argument items.bdk items.initial)
    (record { written = items.bdk; written_is = refl; key_is = refl }) c.lines.result c.lines.ensures.refused))

pub returns-in-Kcv-clause-lines : goal.returns-in-Kcv-clause-lines
returns-in-Kcv-clause-lines c explained = rw c.in-Kcv.is (lines fault.Command _ c.values_lines.result c.of_command-in-Kcv.result c.of_command-in-Kcv.ensures c.values_lines.ensures.lines)

pub returns-in-Kcv-clause-refused : goal.returns-in-Kcv-clause-refused
returns-in-Kcv-clause-refused c explained = rw c.in-Kcv.is (refused fault.Command _ report_line c.values_lines.result c.of_command-in-Kcv.result (λ why. refl) c.of_command-in-Kcv.ensures c.values_lines.ensures.refused)

pub returns-in-Pins-clause-lines : goal.returns-in-Pins-clause-lines
returns-in-Pins-clause-lines c explained = rw c.in-Pins.is (lines fault.Command _ c.pin_lines.result c.of_command-in-Pins.result c.of_command-in-Pins.ensures c.pin_lines.ensures.lines)

pub returns-in-Pins-clause-refused : goal.returns-in-Pins-clause-refused
returns-in-Pins-clause-refused c explained = rw c.in-Pins.is (refused fault.Command _ report_line c.pin_lines.result c.of_command-in-Pins.result (λ why. refl) c.of_command-in-Pins.ensures c.pin_lines.ensures.refused)

pub returns-in-Pans-clause-lines : goal.returns-in-Pans-clause-lines
returns-in-Pans-clause-lines c explained = rw c.in-Pans.is (lines fault.Command _ c.pin_lines-in-Pans.result c.of_command-in-Pans.result c.of_command-in-Pans.ensures c.pin_lines-in-Pans.ensures.lines)

pub returns-in-Pans-clause-refused : goal.returns-in-Pans-clause-refused
returns-in-Pans-clause-refused c explained = rw c.in-Pans.is (refused fault.Command _ report_line c.pin_lines-in-Pans.result c.of_command-in-Pans.result (λ why. refl) c.of_command-in-Pans.ensures c.pin_lines-in-Pans.ensures.refused)

pub returns-in-Frames-clause-lines : goal.returns-in-Frames-clause-lines
returns-in-Frames-clause-lines c explained = rw c.in-Frames.is (lines fault.Show _ c.frame_lines.result c.of_show.result c.of_show.ensures c.frame_lines.ensures.lines)

pub returns-in-Frames-clause-refused : goal.returns-in-Frames-clause-refused
returns-in-Frames-clause-refused c explained = rw c.in-Frames.is (refused fault.Show _ show_line c.frame_lines.result c.of_show.result (λ why. refl) c.of_show.ensures c.frame_lines.ensures.refused)

pub returns-in-Blocks-clause-lines : goal.returns-in-Blocks-clause-lines
returns-in-Blocks-clause-lines c explained = rw c.in-Blocks.is (lines fault.Show _ c.block_lines.result c.of_show-in-Blocks.result c.of_show-in-Blocks.ensures c.block_lines.ensures.lines)

pub returns-in-Blocks-clause-refused : goal.returns-in-Blocks-clause-refused
returns-in-Blocks-clause-refused c explained = rw c.in-Blocks.is (refused fault.Show _ show_line c.block_lines.result c.of_show-in-Blocks.result (λ why. refl) c.of_show-in-Blocks.ensures c.block_lines.ensures.refused)

pub returns-in-Images-clause-lines : goal.returns-in-Images-clause-lines
returns-in-Images-clause-lines c explained = rw c.in-Images.is (lines fault.Show _ c.image_lines.result c.of_show-in-Images.result c.of_show-in-Images.ensures c.image_lines.ensures.lines)

pub returns-in-Images-clause-refused : goal.returns-in-Images-clause-refused
returns-in-Images-clause-refused c explained = rw c.in-Images.is (refused fault.Show _ show_line c.image_lines.result c.of_show-in-Images.result (λ why. refl) c.of_show-in-Images.ensures c.image_lines.ensures.refused)

pub returns-in-Unwrap-clause-lines : goal.returns-in-Unwrap-clause-lines
returns-in-Unwrap-clause-lines c explained = rw c.in-Unwrap.is (lines fault.Command _ c.unwrap_lines.result c.of_command-in-Unwrap.result c.of_command-in-Unwrap.ensures c.unwrap_lines.ensures.lines)

pub returns-in-Unwrap-clause-refused : goal.returns-in-Unwrap-clause-refused
returns-in-Unwrap-clause-refused c explained = rw c.in-Unwrap.is (refused fault.Command _ report_line c.unwrap_lines.result c.of_command-in-Unwrap.result (λ why. refl) c.of_command-in-Unwrap.ensures c.unwrap_lines.ensures.refused)
