-- Which commands take an argument from each line of the input (this project's own): those of which
-- that argument is written `-`.
use Rattle.std.specs.Prelude.{◌≡◌, ◌==◌, ◌||◌, ◌&&◌, ⊤, ℕ, Bool, false, length, not, List, [], ◌∷◌, Option, Some, None, codes, if◌then◌else◌}
use Rattle.std.specs.Str.{bytes_eq}
use Rattle.duk_arguments.specs.Request.{Written, flag_in, text_in, texts_in, value_in}
use Rattle.duk_arguments.specs.declared.name.CommandName.{CommandName}
use Rattle.duk_arguments.specs.declared.name.CommandName.TheVariants as name
use Rattle.duk_commands.specs.Item.{ItemCommand, item_command, item_of_command}
use Rattle.duk_commands.specs.KeyArgument.{MeetsKey}
use Rattle.duk_commands.specs.Ready.{AreNotReady, AreReady, MeetsOfBlocks, MeetsOfPans, MeetsOfPins}
use Rattle.duk_commands.specs.declared.fault.Fault.{Fault}
use Rattle.duk_commands.specs.declared.key_argument.KeyArgument.{KeyArgument}
use Rattle.duk_commands.specs.Pin.{pin_of}
use Rattle.duk_commands.specs.Unwrap.{unwrap_of}
use Rattle.duk_program.specs.Commands.{IsKeyOf, keyed}
use Rattle.duk_program.specs.Secrets.{HasWordsAlone}
use Rattle.duk_show.specs.Block.{IsBlockRefused, IsBlockText}
use Rattle.duk_show.specs.Fault.{show_line}
use Rattle.duk_show.specs.Frame.{IsFrameRefused, IsFrameText}
use Rattle.duk_show.specs.Image.{IsImageRefused, IsImageText}
use Rattle.duk_commands.specs.CheckValues.{values_of}
use Rattle.duk_commands.specs.Keys.{derived_of}

-- a text that stands for the lines of the input
abbrev pub is_input : List ℕ → Bool
is_input text = bytes_eq text (codes "-")

-- what a command takes beside the argument that each line is: `derive` its key and options, `kcv`
-- nothing, `pin` a PAN or a PIN, and the key, `unwrap` the key block protection key, `show` the kind,
-- and of images whether keys are shown
pub data LineItems : Type 0 where
  numbers : List ℕ → Bool → Bool → Bool → LineItems
  keys : LineItems
  pins : List ℕ → Option (List ℕ) → LineItems
  pans : List ℕ → Option (List ℕ) → LineItems
  key_blocks : List ℕ → LineItems
  frames : LineItems
  blocks : LineItems
  images : Bool → LineItems

-- the command of a line, whose fault is explained or not
abbrev pub command_of_line : Bool → LineItems → List ℕ → ItemCommand
command_of_line explained (numbers bdk initial trace all) line =
    item_of_command explained (keyed bdk initial (λ key. derived_of key line trace all))
command_of_line explained keys line = item_of_command explained (values_of (line ∷ []) false false)
command_of_line explained (pins pan key) line = item_of_command explained (pin_of line pan key)
command_of_line explained (pans pin key) line = item_of_command explained (pin_of pin line key)
command_of_line explained (key_blocks kbpk) line = item_of_command explained (unwrap_of kbpk line)
command_of_line explained frames line =
    item_command explained (IsFrameText line) (IsFrameRefused line) show_line
command_of_line explained blocks line =
    item_command explained (IsBlockText line) (IsBlockRefused line) show_line
command_of_line explained (images show) line =
    item_command explained (IsImageText line show) (IsImageRefused line) show_line

-- what a command has beside its items can be used: each item would be refused where it cannot
abbrev pub AreOthersReady : LineItems → Type 0
AreOthersReady (numbers bdk initial trace all) =
    (key : KeyArgument) × IsKeyOf bdk initial key × AreReady (MeetsKey key)
AreOthersReady (pins pan key) = AreReady (MeetsOfPins pan key)
AreOthersReady (pans pin key) = AreReady (MeetsOfPans pin key)
AreOthersReady (key_blocks kbpk) = AreReady (MeetsOfBlocks kbpk)
AreOthersReady items = ⊤

-- or it is refused, for this first fault
abbrev pub AreOthersRefused : LineItems → Fault → Type 0
AreOthersRefused (numbers bdk initial trace all) why =
    (key : KeyArgument) × IsKeyOf bdk initial key × AreNotReady (MeetsKey key) why
AreOthersRefused (pins pan key) why = AreNotReady (MeetsOfPins pan key) why
AreOthersRefused (pans pin key) why = AreNotReady (MeetsOfPans pin key) why
AreOthersRefused (key_blocks kbpk) why = AreNotReady (MeetsOfBlocks kbpk) why
AreOthersRefused items why = ⊥

-- the items of `show`, of whose kind each line is a text
abbrev pub shown_items : List ℕ → Bool → Option LineItems
shown_items kind show =
    if bytes_eq kind (codes "frame") then Some frames
    else (if bytes_eq kind (codes "block") then Some blocks
    else (if bytes_eq kind (codes "image") then Some (images show) else None))

-- one key alone, which stands for the lines of the input, and no option
abbrev pub asks_for_keys : Written → Bool
asks_for_keys asked =
    (length (texts_in (codes "KEY") asked) == 1) && is_input (text_in (codes "KEY") asked)
    && not (flag_in (codes "components") asked || flag_in (codes "show") asked)

-- `pin` of PINs, or else of PANs
abbrev pub pin_items : Written → Option LineItems
pin_items asked =
    if is_input (text_in (codes "PIN") asked)
    then Some (pins (text_in (codes "PAN") asked) (value_in (codes "key") asked))
    else (if is_input (text_in (codes "PAN") asked)
    then Some (pans (text_in (codes "PIN") asked) (value_in (codes "key") asked)) else None)

-- the items of each command over the lines of the input: `derive` of key serial numbers, `kcv` without
-- options of keys, `pin` of PINs or of PANs, `unwrap` of key blocks, `show` without a key of frames, key
-- blocks or images
abbrev pub items_by : CommandName → Written → Option LineItems
items_by name.Derive asked =
    if is_input (text_in (codes "KSN") asked)
    then Some (numbers (text_in (codes "BDK") asked) (flag_in (codes "initial") asked)
    (flag_in (codes "trace") asked) (flag_in (codes "all") asked)) else None
items_by name.Kcv asked = if asks_for_keys asked then Some keys else None
items_by name.Pin asked = pin_items asked
items_by name.Unwrap asked =
    if is_input (text_in (codes "BLOCK") asked)
    then Some (key_blocks (text_in (codes "KBPK") asked)) else None
items_by name.Show asked =
    if is_input (text_in (codes "WHAT") asked) && not (flag_in (codes "key") asked)
    then shown_items (text_in (codes "KIND") asked) (flag_in (codes "show") asked) else None
items_by _ asked = None

-- those of a request
abbrev pub items_of : Written → Option LineItems
items_of asked = items_by asked.command asked

-- a request that is done at once: it has no reference, and asks for nothing of the input
pub record IsAtOnce (asked : Written) : Type 0 where
  pub words : HasWordsAlone asked
  pub no_items : items_of asked ≡ None
