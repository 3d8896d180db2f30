-- A command over the items that its input has, one a line (this project's own).
use Rattle.std.specs.Prelude.{◌≡◌, ◌≢◌, ◌≤◌, ◌+◌, ◌-◌, ◌^◌, ◌⊎◌, ◌++◌, ℕ, List, [], Option, All, codes, length}
use Rattle.std.specs.Io.KnownBytes.{Consumes, IsAtEnd}
use Rattle.std.specs.Str.Lines.{lines}
use Rattle.duk_commands.specs.declared.batch.fault.BatchFault.{BatchFault}
use Rattle.duk_commands.specs.declared.batch.fault.BatchFault.TheVariants as fault
use Rattle.duk_commands.specs.Fault.{line_end}
use Rattle.duk_io.specs.Known.{Known}
use Rattle.duk_io.specs.Sink.{IsCut, IsWritten}
use Rattle.duk_io.specs.Source.{AreBytesRead, AreReadsMade, IsBroken}
use Rattle.duk_commands.specs.Item.{AreAnswers, AreDone, ItemAnswer, ItemCommand, text_of}

-- what the reader of a batch makes known before it and after it: its bytes and failures, and how
-- often it was read
pub record Input : Type 0 where
  pub before : Known
  pub after : Known
  pub reads_before : Option ℕ
  pub reads_after : Option ℕ

abbrev pub input_of : Known → Known → Option ℕ → Option ℕ → Input
input_of before after reads_before reads_after = record {
  before = before;
  after = after;
  reads_before = reads_before;
  reads_after = reads_after;
}

-- the last read gave none of these bytes, and no more were made before it than there are bytes
pub record IsLastRead (input : Input) (bytes : List ℕ) : Type 0 where
  pub earlier : ℕ
  pub no_more : earlier ≤ length bytes
  pub made : AreReadsMade input.reads_before input.reads_after (earlier + 1)

-- these are all bytes of the input
pub record IsReadToEnd (input : Input) (bytes : List ℕ) : Type 0 where
  pub read : AreBytesRead input.before input.after bytes
  pub end : IsAtEnd input.after.contents
  pub last : IsLastRead input bytes

-- these bytes were read, and then a read failed
pub record IsReadBroken (input : Input) (bytes : List ℕ) : Type 0 where
  pub broken : IsBroken input.before input.after bytes
  pub last : IsLastRead input bytes

-- the reads that one batch makes at most
abbrev pub most_reads : ℕ
most_reads = 2 ^ 64 - 1

-- these bytes were read, by as many reads as one batch makes, and these are no more than the bytes
pub record AreAllReads (input : Input) (bytes : List ℕ) : Type 0 where
  pub read : AreBytesRead input.before input.after bytes
  pub made : AreReadsMade input.reads_before input.reads_after most_reads
  pub no_more : most_reads ≤ length bytes

-- the input was read to its end, and the answers to its lines were written; these are the lines of
-- `str::lines`: each ends with LF or CR LF, which the last may lack
pub record IsAnswered (command : List ℕ → ItemCommand) (input : Input) (old new : Known)
    (answers : List ItemAnswer) : Type 0 where
  pub bytes : List ℕ
  pub read_up : IsReadToEnd input bytes
  pub answered : AreAnswers command (lines bytes) answers
  pub written : IsWritten old new (text_of answers)

-- the command is done for each line
pub record IsBatchDone (command : List ℕ → ItemCommand) (input : Input) (old new : Known)
    : Type 0 where
  pub answers : List ItemAnswer
  pub answered : IsAnswered command input old new answers
  pub done : AreDone answers

-- each line is answered, and one at least was refused
pub record IsBatchRefused (command : List ℕ → ItemCommand) (input : Input) (old new : Known)
    : Type 0 where
  pub answers : List ItemAnswer
  pub answered : IsAnswered command input old new answers
  pub refused : ¬ AreDone answers

-- the bytes are lines that have ended, and the front of one that has not
pub record EndsWithin (bytes ended rest : List ℕ) : Type 0 where
  pub bytes_are : bytes ≡ ended ++ rest
  pub at_end : (ended ≡ []) ⊎ ((front : List ℕ) × (ended ≡ front ++ line_end))
  pub no_end : All (λ byte. byte ≢ 10) rest

-- a read failed, or as many were made as one batch makes; the lines that had ended before it were
-- answered
pub record IsBatchUnread (command : List ℕ → ItemCommand) (input : Input) (old new : Known)
    : Type 0 where
  pub bytes : List ℕ
  pub ended : List ℕ
  pub rest : List ℕ
  pub answers : List ItemAnswer
  pub cause : IsReadBroken input bytes ⊎ AreAllReads input bytes
  pub within : EndsWithin bytes ended rest
  pub answered : AreAnswers command (lines ended) answers
  pub written : IsWritten old new (text_of answers)

-- a write failed: a front of the answers to the first lines of what was read was written
pub record IsBatchUnwritten (command : List ℕ → ItemCommand) (input : Input) (old new : Known)
    : Type 0 where
  pub bytes : List ℕ
  pub first : List (List ℕ)
  pub others : List (List ℕ)
  pub answers : List ItemAnswer
  pub taken : Consumes input.before.contents input.after.contents bytes
  pub lines_are : lines bytes ≡ first ++ others
  pub answered : AreAnswers command first answers
  pub cut : IsCut old new (text_of answers)

-- why the command is not done for each line
abbrev pub IsBatchNotDone : (List ℕ → ItemCommand) → Input → BatchFault → Known → Known → Type 0
IsBatchNotDone command input fault.ItemsRefused old new = IsBatchRefused command input old new
IsBatchNotDone command input fault.ReadFailed old new = IsBatchUnread command input old new
IsBatchNotDone command input fault.WriteFailed old new = IsBatchUnwritten command input old new

-- the line of a fault
abbrev pub batch_line : BatchFault → List ℕ
batch_line fault.ItemsRefused = codes "batch: items refused" ++ line_end
batch_line fault.ReadFailed = codes "batch: read failed" ++ line_end
batch_line fault.WriteFailed = codes "write failed" ++ line_end
