-- What `walk` makes of its arguments (this project's own, over the standard's keys).
use Rattle.std.specs.Prelude.{◌≡◌, ◌⊎◌, ◌≤◌, ℕ, zero, suc, Bool, List, [], ◌++◌, codes, Option, Some, None, IsSome, if◌then◌else◌}
use Rattle.hex.specs.Hex.{encode_upper}
use Rattle.duk_io.specs.FirstFault.{IsFirst}
use Rattle.duk_tree.specs.Derivation.{transaction_key_of}
use Rattle.duk_tree.specs.Next.{spent_counter, ComesAfter}
use Rattle.duk_tree.specs.Path.{IsUsable}
use Rattle.duk_tree.specs.Serial.{Serial, serial_bytes, iksn_of_text}
use Rattle.duk_commands.specs.Answer.{Command}
use Rattle.duk_commands.specs.Decimal.{IsDecimal}
use Rattle.duk_commands.specs.Fault.{fault_rank, line_end}
use Rattle.duk_commands.specs.KeyArgument.{MeetsKey, initial_from, key_in}
use Rattle.duk_commands.specs.declared.fault.Fault.{Fault}
use Rattle.duk_commands.specs.declared.fault.Fault.TheVariants.{IksnRefused, CountRefused}
use Rattle.duk_commands.specs.declared.key_argument.KeyArgument.{KeyArgument}

-- the greatest number of numbers that may be asked for: one more than a terminal has
abbrev pub most_numbers : ℕ
most_numbers = 1048576

-- how many numbers are asked for
abbrev pub IsCount : List ℕ → ℕ → Type 0
IsCount = IsDecimal most_numbers

-- the number of an optional argument, which is zero where it is not given
abbrev pub IsSkip : Option (List ℕ) → ℕ → Type 0
IsSkip None skip = skip ≡ 0
IsSkip (Some text) skip = IsCount text skip

-- the arguments, as written, and whether the key serial numbers alone are asked for
pub record WalkArguments : Type 0 where
  pub key : KeyArgument
  pub iksn : List ℕ
  pub count : List ℕ
  pub skip : Option (List ℕ)
  pub alone : Bool

-- those arguments
abbrev pub walk_arguments : KeyArgument → List ℕ → List ℕ → Option (List ℕ) → Bool → WalkArguments
walk_arguments key iksn count skip alone =
    record { key = key; iksn = iksn; count = count; skip = skip; alone = alone }

-- what the arguments ask for: the terminal's initial key and number, and how many numbers it passes
-- and prints
pub record Asked : Type 0 where
  pub initial : List ℕ
  pub iksn : ℕ
  pub skip : ℕ
  pub count : ℕ

-- the arguments are read
pub record AreWalkArguments (given : KeyArgument) (iksn count : List ℕ) (skip : Option (List ℕ))
    (asked : Asked) : Type 0 where
  pub key : List ℕ
  pub key_read : key_in given ≡ Some key
  pub iksn_read : iksn_of_text iksn ≡ Some asked.iksn
  pub initial : asked.initial ≡ initial_from given key asked.iksn
  pub count_read : IsCount count asked.count
  pub skip_read : IsSkip skip asked.skip

-- what the arguments must meet, or else are refused with this fault
abbrev pub MeetsWalk : KeyArgument → List ℕ → List ℕ → Option (List ℕ) → Fault → Type 0
MeetsWalk given iksn count skip IksnRefused = IsSome (iksn_of_text iksn)
MeetsWalk given iksn count skip CountRefused =
    (printed passed : ℕ) × IsCount count printed × IsSkip skip passed
MeetsWalk given iksn count skip fault = MeetsKey given fault

-- why the arguments are refused: the first of the faults, in their order, whose condition they do
-- not meet
abbrev pub IsWalkRefused : KeyArgument → List ℕ → List ℕ → Option (List ℕ) → Fault → Type 0
IsWalkRefused given iksn count skip =
    IsFirst fault_rank (MeetsWalk given iksn count skip)
    (λ fault. ¬ MeetsWalk given iksn count skip fault)

-- the line of a number: its key serial number and, unless that alone is asked for, its key
abbrev pub number_text : Serial → List ℕ → Bool → List ℕ
number_text serial key alone =
    encode_upper (serial_bytes serial) ++ (if alone then [] else codes " " ++ encode_upper key)
    ++ line_end

-- the line of a counter, of the terminal with this initial key and initial key serial number
abbrev pub number_line : List ℕ → ℕ → Bool → ℕ → List ℕ
number_line initial iksn alone counter =
    number_text (record { iksn = iksn; counter = counter })
    (transaction_key_of initial iksn counter) alone

-- the line where a number is to be taken and none is left
abbrev pub spent_line : List ℕ
spent_line = codes "spent" ++ line_end

-- the lines of so many numbers from a counter on: that of a usable counter, then the rest; or
-- `spent` where the terminal is spent
abbrev pub IsPrinted : (ℕ → List ℕ) → ℕ → ℕ → List ℕ → Type 0
IsPrinted line counter zero text = text ≡ []
IsPrinted line counter (suc count) text =
    ((counter ≡ spent_counter) × (text ≡ spent_line))
    ⊎ ((next : ℕ) × (rest : List ℕ) × IsUsable counter × ComesAfter counter next
    × IsPrinted line next count rest × (text ≡ line counter ++ rest))

-- the same after so many numbers that are passed and not printed: a usable counter, then the rest;
-- or `spent` where the terminal is spent
abbrev pub IsPassed : (ℕ → List ℕ) → ℕ → ℕ → ℕ → List ℕ → Type 0
IsPassed line counter zero count text = IsPrinted line counter count text
IsPassed line counter (suc skip) count text =
    ((counter ≡ spent_counter) × (text ≡ spent_line))
    ⊎ ((next : ℕ) × IsUsable counter × ComesAfter counter next × IsPassed line next skip count text)

-- the arguments are read, and this is the text of the lines that they ask for
pub record IsWalkText (arguments : WalkArguments) (text : List ℕ) : Type 0 where
  pub asked : Asked
  pub read : AreWalkArguments arguments.key arguments.iksn arguments.count arguments.skip asked
  pub lines : IsPassed (number_line asked.initial asked.iksn arguments.alone) 1 asked.skip asked.count
      text

-- the arguments are read, and this is the text of the lines of so many of those numbers as were
-- reached
pub record IsWalkStart (arguments : WalkArguments) (text : List ℕ) : Type 0 where
  pub asked : Asked
  pub reached : ℕ
  pub read : AreWalkArguments arguments.key arguments.iksn arguments.count arguments.skip asked
  pub not_more : reached ≤ asked.count
  pub lines : IsPassed (number_line asked.initial asked.iksn arguments.alone) 1 asked.skip reached text

-- the command over these arguments: its lines are written as they are made
abbrev pub walk_of : WalkArguments → Command
walk_of arguments = record {
  writes = IsWalkText arguments;
  begins = IsWalkStart arguments;
  refuses = IsWalkRefused arguments.key arguments.iksn arguments.count arguments.skip;
}
