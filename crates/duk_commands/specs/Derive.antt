-- What `derive` makes of its arguments (this project's own, over the standard's keys).
use Rattle.std.specs.Prelude.{◌≡◌, ◌++◌, ℕ, List, codes, Some, IsSome}
use Rattle.duk_io.specs.FirstFault.{IsFirst}
use Rattle.duk_tdes.specs.KeyText.{double_key_of_text}
use Rattle.duk_tree.specs.Serial.{Serial, ksn_of_text}
use Rattle.duk_tree.specs.Path.{IsUsable}
use Rattle.duk_tree.specs.Derivation.{initial_key_of, derived_key_of, pin_key_of}
use Rattle.duk_commands.specs.Answer.{Command, command_of}
use Rattle.duk_commands.specs.Fault.{fault_rank}
use Rattle.duk_commands.specs.Lines.{named_line}
use Rattle.duk_commands.specs.declared.fault.Fault.{Fault}
use Rattle.duk_commands.specs.declared.fault.Fault.TheVariants.{BdkRefused, KsnRefused, CounterRefused}

-- the arguments are a base derivation key and a key serial number
pub record AreDeriveArguments (bdk ksn : List ℕ) (key : List ℕ) (serial : Serial) : Type 0 where
  pub key_read : double_key_of_text bdk ≡ Some key
  pub serial_read : ksn_of_text ksn ≡ Some serial

-- what the arguments must meet, or else are refused with this fault
abbrev pub MeetsDerive : List ℕ → List ℕ → Fault → Type 0
MeetsDerive bdk ksn BdkRefused = IsSome (double_key_of_text bdk)
MeetsDerive bdk ksn KsnRefused = IsSome (ksn_of_text ksn)
MeetsDerive bdk ksn CounterRefused =
    (serial : Serial) × (ksn_of_text ksn ≡ Some serial) × IsUsable serial.counter
MeetsDerive bdk ksn _ = Unit {0}

-- why the arguments are refused: the first of the faults, in their order, whose condition they do
-- not meet
abbrev pub IsDeriveRefused : List ℕ → List ℕ → Fault → Type 0
IsDeriveRefused bdk ksn =
    IsFirst fault_rank (MeetsDerive bdk ksn) (λ fault. ¬ MeetsDerive bdk ksn fault)

-- the three lines: the initial key, the transaction key and its PIN variant
abbrev pub key_lines : List ℕ → Serial → List ℕ
key_lines bdk serial =
    named_line (codes "initial") (initial_key_of bdk serial.iksn)
    ++ named_line (codes "key") (derived_key_of bdk serial)
    ++ named_line (codes "pin") (pin_key_of (derived_key_of bdk serial))

-- the arguments are read, the counter may be used, and this is the text of its three lines
pub record IsDeriveText (bdk ksn text : List ℕ) : Type 0 where
  pub key : List ℕ
  pub serial : Serial
  pub arguments : AreDeriveArguments bdk ksn key serial
  pub usable : IsUsable serial.counter
  pub text_is : text ≡ key_lines key serial

-- the command over these arguments
abbrev pub derive_of : List ℕ → List ℕ → Command
derive_of bdk ksn = command_of (IsDeriveText bdk ksn) (IsDeriveRefused bdk ksn)
