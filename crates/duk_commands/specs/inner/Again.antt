-- How lines are made once more: this project's own.
use Rattle.std.specs.Prelude.{◌<◌, ℕ, List}
use Rattle.duk_commands.specs.Again.{places_from}
use Rattle.duk_commands.specs.IssuedLines.{AreLines, IsLine}
use Rattle.duk_commands.specs.declared.issue.fault.IssueFault.{IssueFault}
use Rattle.duk_commands.specs.declared.issue.fault.IssueFault.TheVariants as fault
use Rattle.duk_commands.specs.declared.issue.order.Order.{Order}
use Rattle.duk_io.specs.Known.{Known}
use Rattle.duk_io.specs.Sink.{IsCut, IsWritten}

-- the lines of the first terminals, so many, are written
pub record AreWritten (order : Order) (padding : List ℕ) (old new : Known) (count : ℕ)
    : Type 0 where
  pub text : List ℕ
  pub lines : AreLines order padding (places_from 0 count) text
  pub written : IsWritten old new text

-- a write failed in the line of a terminal
pub record IsCutAt (order : Order) (padding : List ℕ) (old new : Known) : Type 0 where
  pub last : ℕ
  pub inside : last < order.count
  pub line : List ℕ
  pub mid : Known
  pub before : AreWritten order padding old mid last
  pub line_is : IsLine order padding last line
  pub cut : IsCut mid new line

-- why not all lines are written
abbrev pub AreCut : Order → List ℕ → Known → Known → IssueFault → Type 0
AreCut order padding old new fault.WriteFailed = IsCutAt order padding old new
AreCut order padding old new _ = ⊥
