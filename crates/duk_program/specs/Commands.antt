-- Which command over its arguments alone answers which request (this project's own, over what each
-- command makes of its arguments).
use Rattle.std.specs.Prelude.{◌≡◌, ◌≤◌, ◌⊎◌, Bool, List, codes, false, length, true, ℕ}
use Rattle.std.specs.Borrow.{Bor}
use Rattle.duk_arguments.specs.Request.{Written, flag_in, text_in, texts_in, value_in}
use Rattle.duk_arguments.specs.declared.name.CommandName.{CommandName}
use Rattle.duk_arguments.specs.declared.name.CommandName.TheVariants as name
use Rattle.duk_commands.specs.Answer.{Command, IsDone, IsNotDone, command_of}
use Rattle.duk_commands.specs.HandedOn.{HasFailed, HasHandedOn}
use Rattle.duk_commands.specs.KeyArgument.{key_argument}
use Rattle.duk_commands.specs.Pin.{pin_of}
use Rattle.duk_commands.specs.Unwrap.{unwrap_of}
use Rattle.duk_commands.specs.Walk.{walk_of, walk_arguments}
use Rattle.duk_commands.specs.Wrap.{wrap_of, wrap_arguments}
use Rattle.duk_commands.specs.declared.fault.Fault.{Fault as CommandFault}
use Rattle.duk_commands.specs.declared.fault.Fault.TheVariants.{KeyRefused, OutOfMemory, WriteFailed}
use Rattle.duk_commands.specs.declared.key_argument.KeyArgument.{KeyArgument}
use Rattle.duk_commands.specs.CheckValues.{IsValuesRefused, IsValuesText}
use Rattle.duk_commands.specs.Encipher.{data_arguments, data_of}
use Rattle.duk_commands.specs.Frames.{reply_arguments, reply_of, request_arguments, request_of}
use Rattle.duk_commands.specs.Keys.{derived_of, initial_of}
use Rattle.duk_commands.specs.Mac.{mac_arguments, mac_of}
use Rattle.duk_commands.specs.PinBlocks.{translate_arguments, translate_of, unpin_arguments, unpin_of}
use Rattle.duk_commands.specs.Registers.{registers_of}
use Rattle.duk_commands.specs.Reversals.{reversal_arguments, reversal_of}
use Rattle.duk_io.specs.Known.{Known}
use Rattle.duk_program.specs.declared.fault.Fault.{Fault}
use Rattle.duk_program.specs.declared.fault.Fault.TheVariants as fault

-- no command: it neither ends nor has a fault
abbrev pub no_command : Command
no_command = command_of (λ text. ⊥) (λ why. ⊥)

-- the key from which a command starts has this text, and is an initial key or not
pub record IsKeyOf (text : List ℕ) (initial : Bool) (key : KeyArgument) : Type 0 where
  pub written : Bor (List ℕ)
  pub written_is : written.now ≡ text
  pub key_is : key ≡ key_argument written initial

-- a command that starts from such a key
abbrev pub keyed : List ℕ → Bool → (KeyArgument → Command) → Command
keyed text initial over = record {
  writes = λ lines. (key : KeyArgument) × IsKeyOf text initial key × (over key).writes lines;
  begins = λ lines. (key : KeyArgument) × IsKeyOf text initial key × (over key).begins lines;
  refuses = λ why. (key : KeyArgument) × IsKeyOf text initial key × (over key).refuses why;
}

-- the key that a request has under BDK
abbrev pub by_key : Written → (KeyArgument → Command) → Command
by_key asked = keyed (text_in (codes "BDK") asked) (flag_in (codes "initial") asked)

-- as many keys as `kcv` takes
pub record AreAFew (texts : List (List ℕ)) : Type 0 where
  pub some : 1 ≤ length texts
  pub few : length texts ≤ 16

-- `kcv`: memory may be refused, and other than 1 to 16 texts are no keys
abbrev pub values_of_few : List (List ℕ) → Bool → Bool → Command
values_of_few texts components show = command_of (IsValuesText texts components show)
    (λ why. (why ≡ OutOfMemory) ⊎ IsValuesRefused texts components why
    ⊎ ((why ≡ KeyRefused) × ¬ AreAFew texts))

-- `request`, of the reversal of a payment or of a payment
abbrev pub request_by : Bool → Written → KeyArgument → Command
request_by true asked key = reversal_of
    (reversal_arguments key (text_in (codes "KSN") asked) (text_in (codes "reverse") asked))
request_by false asked key = request_of (request_arguments key (text_in (codes "KSN") asked)
    (text_in (codes "PAN") asked) (text_in (codes "PIN") asked) (text_in (codes "AMOUNT") asked))

abbrev pub request_or_reversal : Written → KeyArgument → Command
request_or_reversal asked = request_by (flag_in (codes "reverse") asked) asked

-- what `mac` and `data` do with these bytes of their TEXT
abbrev pub message_by : CommandName → Written → List ℕ → Command
message_by name.Mac asked message = mac_of (mac_arguments (text_in (codes "KEY") asked) message
    (flag_in (codes "cmac") asked) (flag_in (codes "hex") asked))
message_by name.Data asked message = data_of (data_arguments (text_in (codes "KEY") asked) message
    (value_in (codes "iv") asked) (flag_in (codes "decipher") asked) (flag_in (codes "hex") asked))
message_by _ asked message = no_command

abbrev pub message_command : Written → List ℕ → Command
message_command asked message = message_by asked.command asked message

-- what each command does with the arguments of a request; what is asked of files, `find` and `show`
-- are none of these
abbrev pub command_by : CommandName → Written → Command
command_by name.Derive asked = by_key asked (λ key. derived_of key (text_in (codes "KSN") asked)
    (flag_in (codes "trace") asked) (flag_in (codes "all") asked))
command_by name.Walk asked = by_key asked (λ key. walk_of (walk_arguments key
    (text_in (codes "IKSN") asked) (text_in (codes "COUNT") asked) (value_in (codes "skip") asked)
    (flag_in (codes "ksn") asked)))
command_by name.Initial asked =
    initial_of (text_in (codes "BDK") asked) (text_in (codes "IKSN") asked)
command_by name.Registers asked =
    by_key asked (λ key. registers_of key (text_in (codes "KSN") asked))
command_by name.Kcv asked = values_of_few (texts_in (codes "KEY") asked)
    (flag_in (codes "components") asked) (flag_in (codes "show") asked)
command_by name.Mac asked = message_by name.Mac asked (text_in (codes "TEXT") asked)
command_by name.Data asked = message_by name.Data asked (text_in (codes "TEXT") asked)
command_by name.Pin asked = pin_of (text_in (codes "PIN") asked) (text_in (codes "PAN") asked)
    (value_in (codes "key") asked)
command_by name.Unpin asked = unpin_of (unpin_arguments (text_in (codes "BLOCK") asked)
    (text_in (codes "PAN") asked) (value_in (codes "key") asked) (flag_in (codes "show") asked))
command_by name.Translate asked = by_key asked (λ key. translate_of (translate_arguments
    (text_in (codes "BLOCK") asked) (text_in (codes "PAN") asked) key (text_in (codes "KSN") asked)
    (text_in (codes "ZONE") asked)))
command_by name.Wrap asked = wrap_of (wrap_arguments (text_in (codes "KBPK") asked)
    (text_in (codes "FIELDS") asked) (text_in (codes "KEY") asked) (text_in (codes "PAD") asked))
command_by name.Unwrap asked =
    unwrap_of (text_in (codes "KBPK") asked) (text_in (codes "BLOCK") asked)
command_by name.Request asked = by_key asked (request_or_reversal asked)
command_by name.Reply asked = by_key asked (λ key. reply_of (reply_arguments key
    (text_in (codes "REQUEST") asked) (text_in (codes "ANSWER") asked)))
command_by _ asked = no_command

-- the command of a request
abbrev pub command_for : Written → Command
command_for asked = command_by asked.command asked

-- a command is done, and what it wrote is handed on
abbrev pub IsDoneWhole : Command → Known → Known → Type 0
IsDoneWhole command old = HasHandedOn (IsDone command old)

-- why it is not
pub record IsNotDoneWhole (command : Command) (old : Known) (why : Fault) (new : Known) : Type 0 where
  pub cause : CommandFault
  pub why_is : why ≡ fault.Command cause
  pub failed : HasFailed (IsDone command old) (λ cause written. IsNotDone command cause old written)
      WriteFailed cause new

-- the command of a request is done, or why it is not
abbrev pub IsCommandDone : Written → Known → Known → Type 0
IsCommandDone asked = IsDoneWhole (command_for asked)

abbrev pub IsCommandNotDone : Written → Known → Fault → Known → Type 0
IsCommandNotDone asked = IsNotDoneWhole (command_for asked)
