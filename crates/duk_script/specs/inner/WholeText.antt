-- What only private functions and proofs say beside `WholeText.antt`: this project's own.
use Rattle.std.specs.Prelude.{◌≡◌, ◌<◌, ◌≤◌, ◌++◌, ℕ, Bool, List, [], length}
use Rattle.std.specs.Bool.{MatchBool}
use Rattle.std.specs.Io.KnownBytes.{IsAtEnd}
use Rattle.duk_config.specs.ConfigFile.{longest_file}
use Rattle.duk_config.specs.declared.fault.ScriptFault.{ScriptFault}
use Rattle.duk_config.specs.declared.fault.ScriptFault.TheVariants as fault
use Rattle.duk_io.specs.Known.{Known}
use Rattle.duk_io.specs.Source.{AreBytesRead, IsBroken}

-- a piece is read to the end of a text: what a private function of the reading answers
pub record IsPiece (old new : Known) (before after : List ℕ) (at_end : Bool) : Type 0 where
  pub piece : List ℕ
  pub read : AreBytesRead old new piece
  pub after_is : after ≡ before ++ piece
  pub fits : length after ≤ longest_file
  pub more : MatchBool at_end ((piece ≡ []) × IsAtEnd new.contents) (0 < length piece)

-- a piece is longer than the text may get
pub record IsPieceTooLong (old new : Known) (before : List ℕ) : Type 0 where
  pub piece : List ℕ
  pub read : AreBytesRead old new piece
  pub too_long : longest_file < length (before ++ piece)

-- why a piece is not read
abbrev pub PieceRefused : Known → Known → List ℕ → ScriptFault → Type 0
PieceRefused old new before fault.CannotRead = IsBroken old new []
PieceRefused old new before fault.TooLong = IsPieceTooLong old new before
PieceRefused old new before fault.NoMemory = Unit {0}
PieceRefused old new before _ = ⊥
