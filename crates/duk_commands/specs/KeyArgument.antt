-- The key from which a command starts, as its arguments give it (this project's own): a base
-- derivation key, or the initial key of one terminal.
use Rattle.std.specs.Prelude.{ℕ, Bool, true, false, List, Option, IsSome}
use Rattle.std.specs.Borrow.{Bor}
use Rattle.duk_tdes.specs.KeyText.{double_key_of_text}
use Rattle.duk_tree.specs.Derivation.{initial_key_of}
use Rattle.duk_commands.specs.declared.fault.Fault.{Fault}
use Rattle.duk_commands.specs.declared.fault.Fault.TheVariants.{BdkRefused, InitialRefused}
use Rattle.duk_commands.specs.declared.key_argument.KeyArgument.{KeyArgument}
use Rattle.duk_commands.specs.declared.key_argument.KeyArgument.TheVariants.{Base, Initial}

-- the argument, by whether the option says that it is an initial key
abbrev pub key_argument : Bor (List ℕ) → Bool → KeyArgument
key_argument text false = Base text
key_argument text true = Initial text

-- the key that the argument writes
abbrev pub key_in : KeyArgument → Option (List ℕ)
key_in (Base text) = double_key_of_text text.now
key_in (Initial text) = double_key_of_text text.now

-- the initial key of a terminal: of a base derivation key the one that is made of it, and else the
-- key that is given
abbrev pub initial_from : KeyArgument → List ℕ → ℕ → List ℕ
initial_from (Base text) key iksn = initial_key_of key iksn
initial_from (Initial text) key iksn = key

-- the fault of an argument that writes no key
abbrev pub key_fault : KeyArgument → Fault
key_fault (Base text) = BdkRefused
key_fault (Initial text) = InitialRefused

-- what the argument must meet, or else is refused with this fault
abbrev pub MeetsKey : KeyArgument → Fault → Type 0
MeetsKey (Base text) BdkRefused = IsSome (double_key_of_text text.now)
MeetsKey (Initial text) InitialRefused = IsSome (double_key_of_text text.now)
MeetsKey given fault = Unit {0}
