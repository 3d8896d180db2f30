-- What only private functions and proofs say beside `Items.antt`: this project's own.
use Rattle.std.specs.Prelude.{◌≡◌, ℕ, List, Err, Ok, Result}
use Rattle.std.specs.Option.{option_copied}
use Rattle.duk_commands.specs.Fault.{report_line}
use Rattle.duk_program.specs.Items.{LineItems, blocks, frames, images, key_blocks, keys, numbers, pans, pins}
use Rattle.duk_program.specs.declared.items.ItemFault.{ItemFault}
use Rattle.duk_program.specs.declared.items.ItemFault.TheVariants as fault
use Rattle.duk_program.specs.declared.items.LineCommand.{LineCommand}
use Rattle.duk_program.specs.declared.items.LineCommand.TheVariants.{Blocks, Derive, Frames, Images, Kcv, Pans, Pins, Unwrap}
use Rattle.duk_show.specs.Fault.{show_line}

-- the items of a command
abbrev pub items_in : LineCommand → LineItems
items_in (Derive items) = numbers items.bdk.now items.initial items.trace items.all
items_in Kcv = keys
items_in (Pins pan key) = pins pan.now (option_copied key)
items_in (Pans pin key) = pans pin.now (option_copied key)
items_in (Unwrap kbpk) = key_blocks kbpk.now
items_in Frames = frames
items_in Blocks = blocks
items_in (Images show) = images show

-- the line of the fault of an item
abbrev pub item_line : ItemFault → List ℕ
item_line (fault.Command why) = report_line why
item_line (fault.Show why) = show_line why

-- what is made of an item: the lines that are made, or their fault as the item's
abbrev pub IsAsItem : {L F : Type 0} → (F → ItemFault) → Result L F → Result L ItemFault → Type 0
IsAsItem as_fault (Ok lines) made = made ≡ Ok lines
IsAsItem as_fault (Err why) made = made ≡ Err (as_fault why)
