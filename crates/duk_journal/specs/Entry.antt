-- An entry, as a journal keeps it: this project's own.
use Rattle.std.specs.Prelude.{◌≡◌, ◌<◌, ◌^◌, ℕ, length}
use Rattle.duk_frame.specs.declared.code.Code.{Code}
use Rattle.duk_frame.specs.declared.code.Code.TheVariants.{Approved, NoCard, WrongPin, OverLimit, Unreadable}
use Rattle.duk_reversal.specs.Numbers.{Reverses}
use Rattle.duk_reversal.specs.declared.state.ReversalState.{ReversalState}
use Rattle.duk_reversal.specs.declared.state.ReversalState.TheVariants.{NoneStands, Undone}
use Rattle.duk_tree.specs.Path.{IsUsable}
use Rattle.duk_tree.specs.Serial.{IsSerial, Serial}
use Rattle.duk_journal.specs.declared.entry.Decided.{Decided}
use Rattle.duk_journal.specs.declared.entry.Decided.TheVariants.{Payment, Reversal}
use Rattle.duk_journal.specs.declared.entry.Entry.{Entry}

-- the number that a code is written as: its two digits, read as a number
abbrev pub number_of_code : Code → ℕ
number_of_code Approved = 0
number_of_code NoCard = 14
number_of_code WrongPin = 55
number_of_code OverLimit = 51
number_of_code Unreadable = 30

-- the number that the state of a reversal is written as: none that a code is, since a code has two
-- digits
abbrev pub number_of_state : ReversalState → ℕ
number_of_state Undone = 129
number_of_state NoneStands = 128

-- the kind of a record: 1 for a payment, 2 for a reversal
abbrev pub kind_of : Decided → ℕ
kind_of (Payment amount code) = 1
kind_of (Reversal counter state) = 2

-- its figure: the amount of a payment, or the counter of the number that is reversed
abbrev pub figure_of : Decided → ℕ
figure_of (Payment amount code) = amount
figure_of (Reversal counter state) = counter

-- its outcome: the number of a payment's code, or of a reversal's state
abbrev pub outcome_of : Decided → ℕ
outcome_of (Payment amount code) = number_of_code code
outcome_of (Reversal counter state) = number_of_state state

-- the number that a reversal under one is of: that of the same initial key serial number with this
-- counter
abbrev pub reversed_by : Serial → ℕ → Serial
reversed_by number counter = record { iksn = number.iksn; counter = counter }

-- a payment may stand under any number, a reversal under one that reverses another
abbrev pub MayStandUnder : Serial → Decided → Type 0
MayStandUnder number (Payment amount code) = Unit {0}
MayStandUnder number (Reversal counter state) = Reverses number (reversed_by number counter)

-- the fields of an entry are what their names say, its number is one that a transaction has, and
-- what was decided may stand under it
pub record IsEntry (entry : Entry) : Type 0 where
  pub serial : IsSerial entry.number
  pub usable : IsUsable entry.number.counter
  pub stands : MayStandUnder entry.number entry.decided
  pub figure_fits : figure_of entry.decided < 2 ^ 32
  pub mac_length : length entry.mac ≡ 8

-- what the type of an entry says of its fields
pub record AreFields (entry : Entry) : Type 0 where
  pub serial : IsSerial entry.number
  pub figure_fits : figure_of entry.decided < 2 ^ 32
  pub mac_length : length entry.mac ≡ 8
