-- What `request` makes of its arguments where it reverses a payment (this project's own, over its
-- frames).
use Rattle.std.specs.Prelude.{◌≡◌, ◌≢◌, ℕ, List, codes, Some, IsSome}
use Rattle.duk_commands.specs.Answer.{Command, command_of}
use Rattle.duk_commands.specs.Fault.{fault_rank}
use Rattle.duk_commands.specs.Lines.{named_line}
use Rattle.duk_commands.specs.Start.{IsStart, MeetsStart}
use Rattle.duk_commands.specs.declared.fault.Fault.{Fault}
use Rattle.duk_commands.specs.declared.fault.Fault.TheVariants.{NumberRefused, NotUsable, OtherIksn, SameNumber}
use Rattle.duk_commands.specs.declared.key_argument.KeyArgument.{KeyArgument}
use Rattle.duk_io.specs.FirstFault.{IsFirst}
use Rattle.duk_reversal.specs.Authentic.{reversal_under}
use Rattle.duk_reversal.specs.Numbers.{Numbers, Reverses}
use Rattle.duk_tree.specs.Derivation.{transaction_key_of}
use Rattle.duk_tree.specs.Path.{IsUsable}
use Rattle.duk_tree.specs.Serial.{Serial, ksn_of_text}

-- the arguments of `request` where it reverses, as written: the number that the reversal uses, and
-- the one that it reverses
pub record ReversalArguments : Type 0 where
  pub given : KeyArgument
  pub ksn : List ℕ
  pub number : List ℕ

-- those arguments
abbrev pub reversal_arguments : KeyArgument → List ℕ → List ℕ → ReversalArguments
reversal_arguments given ksn number = record { given = given; ksn = ksn; number = number }

-- the arguments are read, and this is the text of the line of the reversal
pub record IsReversalText (arguments : ReversalArguments) (text : List ℕ) : Type 0 where
  pub initial : List ℕ
  pub numbers : Numbers
  pub start : IsStart arguments.given arguments.ksn initial numbers.ksn
  pub number_read : ksn_of_text arguments.number ≡ Some numbers.reversed
  pub reverses : Reverses numbers.ksn numbers.reversed
  pub text_is : text ≡ named_line (codes "reversal") (reversal_under
      (transaction_key_of initial numbers.ksn.iksn numbers.ksn.counter) numbers)

-- both numbers are read, and meet this
pub record BothMeet (arguments : ReversalArguments) (Meet : Serial → Serial → Type 0) : Type 0 where
  pub ksn : Serial
  pub reversed : Serial
  pub ksn_read : ksn_of_text arguments.ksn ≡ Some ksn
  pub number_read : ksn_of_text arguments.number ≡ Some reversed
  pub meet : Meet ksn reversed

-- what the arguments must meet, or else are refused with this fault
abbrev pub MeetsReversal : ReversalArguments → Fault → Type 0
MeetsReversal arguments NumberRefused = IsSome (ksn_of_text arguments.number)
MeetsReversal arguments OtherIksn =
    BothMeet arguments (λ ksn reversed. reversed.iksn ≡ ksn.iksn)
MeetsReversal arguments SameNumber =
    BothMeet arguments (λ ksn reversed. reversed.counter ≢ ksn.counter)
MeetsReversal arguments NotUsable =
    BothMeet arguments (λ ksn reversed. IsUsable reversed.counter)
MeetsReversal arguments fault = MeetsStart arguments.given arguments.ksn fault

-- why they are refused: the first of the faults, in their order, whose condition they do not meet
abbrev pub IsReversalRefused : ReversalArguments → Fault → Type 0
IsReversalRefused arguments =
    IsFirst fault_rank (MeetsReversal arguments) (λ fault. ¬ MeetsReversal arguments fault)

-- the command `request` where it reverses
abbrev pub reversal_of : ReversalArguments → Command
reversal_of arguments = command_of (IsReversalText arguments) (IsReversalRefused arguments)
