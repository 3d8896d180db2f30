-- The key and the key serial number from which a command starts (this project's own).
use Rattle.std.specs.Prelude.{◌≡◌, ℕ, List, Some, IsSome}
use Rattle.duk_commands.specs.Fault.{fault_rank}
use Rattle.duk_commands.specs.KeyArgument.{MeetsKey, initial_from, key_in}
use Rattle.duk_commands.specs.declared.fault.Fault.{Fault}
use Rattle.duk_commands.specs.declared.fault.Fault.TheVariants.{KsnRefused, CounterRefused}
use Rattle.duk_commands.specs.declared.key_argument.KeyArgument.{KeyArgument}
use Rattle.duk_io.specs.FirstFault.{IsFirst}
use Rattle.duk_tree.specs.Path.{IsUsable}
use Rattle.duk_tree.specs.Serial.{Serial, ksn_of_text}

-- the arguments give this initial key of a terminal, and this number of it
pub record IsStart (given : KeyArgument) (ksn : List ℕ) (initial : List ℕ) (serial : Serial)
    : Type 0 where
  pub key : List ℕ
  pub key_read : key_in given ≡ Some key
  pub serial_read : ksn_of_text ksn ≡ Some serial
  pub usable : IsUsable serial.counter
  pub initial_is : initial ≡ initial_from given key serial.iksn

-- what the two arguments must meet, or else are refused with this fault
abbrev pub MeetsStart : KeyArgument → List ℕ → Fault → Type 0
MeetsStart given ksn KsnRefused = IsSome (ksn_of_text ksn)
MeetsStart given ksn CounterRefused =
    (serial : Serial) × (ksn_of_text ksn ≡ Some serial) × IsUsable serial.counter
MeetsStart given ksn fault = MeetsKey given fault

-- why the two arguments are refused: the first of the faults, in their order, whose condition they
-- do not meet
abbrev pub IsStartRefused : KeyArgument → List ℕ → Fault → Type 0
IsStartRefused given ksn =
    IsFirst fault_rank (MeetsStart given ksn) (λ fault. ¬ MeetsStart given ksn fault)
