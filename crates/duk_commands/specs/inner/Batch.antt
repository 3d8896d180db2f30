-- What only private functions and proofs say beside `Batch.antt`: this project's own.
use Rattle.std.specs.Prelude.{◌≡◌, ◌⊎◌, ◌++◌, ℕ, Bool, List, Result, Ok, Err, take}
use Rattle.std.specs.Io.KnownBytes.{Consumes}
use Rattle.std.specs.List.{list_all}
use Rattle.std.specs.Str.Lines.{lines}
use Rattle.duk_io.specs.Known.{Known}
use Rattle.duk_io.specs.Sink.{IsCut, IsDrained, IsWritten}
use Rattle.duk_commands.specs.Batch.{AreAllReads, EndsWithin, Input, IsReadBroken, IsReadToEnd}
use Rattle.duk_commands.specs.Item.{AreAnswers, ItemAnswer, ItemCommand, text_of}
use Rattle.duk_commands.specs.declared.batch.answer.Answer.{Answer}
use Rattle.duk_commands.specs.declared.batch.run.End.{End}
use Rattle.duk_commands.specs.declared.batch.run.End.TheVariants.{Answered, Unread, Unwritten}

-- how many bytes of a line are kept: an item's, a CR, and one more, which tells that it is too long
abbrev pub line_room : ℕ
line_room = 16386

-- the text of an answer, and what explains it
abbrev pub answer_text : Answer → List ℕ
answer_text answer = answer.text.items ++ answer.explanation.items

-- a text follows what was held back, of which a front may have been written
pub record IsPushed (old new text : List ℕ) (before after : Known) : Type 0 where
  pub left : List ℕ
  pub drained : IsDrained old left before after
  pub more : new ≡ left ++ text

-- these lines are answered, and what is not written of the answers is held back
pub record AreAnswered (command : List ℕ → ItemCommand) (answered : List (List ℕ)) (done : Bool)
    (held : List ℕ) (before now : Known) : Type 0 where
  pub answers : List ItemAnswer
  pub right : AreAnswers command answered answers
  pub all : done ≡ list_all (λ answer. answer.done) answers
  pub written : List ℕ
  pub text_is : text_of answers ≡ written ++ held
  pub was_written : IsWritten before now written

-- the lines that have ended in these bytes are answered, and the front of the next is kept
pub record IsUnderWay (command : List ℕ → ItemCommand) (bytes line : List ℕ) (done : Bool)
    (held : List ℕ) (before now : Known) : Type 0 where
  pub ended : List ℕ
  pub rest : List ℕ
  pub within : EndsWithin bytes ended rest
  pub goes_on : (more : List ℕ) → lines (ended ++ more) ≡ lines ended ++ lines more
  pub kept : line ≡ take line_room rest
  pub answered : AreAnswered command (lines ended) done held before now

-- the answers to the first lines of these bytes and of whatever follows them were cut
pub record IsCutOff (command : List ℕ → ItemCommand) (bytes : List ℕ) (before now : Known)
    : Type 0 where
  pub ended : List ℕ
  pub rest : List ℕ
  pub bytes_are : bytes ≡ ended ++ rest
  pub goes_on : (more : List ℕ) → lines (ended ++ more) ≡ lines ended ++ lines more
  pub answers : List ItemAnswer
  pub right : AreAnswers command (lines ended) answers
  pub cut : IsCut before now (text_of answers)

-- all lines of these bytes were answered, and the answers were written
pub record AreAllWritten (command : List ℕ → ItemCommand) (bytes : List ℕ) (before now : Known)
    (done : Bool) : Type 0 where
  pub answers : List ItemAnswer
  pub right : AreAnswers command (lines bytes) answers
  pub all : done ≡ list_all (λ answer. answer.done) answers
  pub was_written : IsWritten before now (text_of answers)

-- the answers to the first lines of these bytes were cut
pub record AreCut (command : List ℕ → ItemCommand) (bytes : List ℕ) (before now : Known) : Type 0 where
  pub first : List (List ℕ)
  pub others : List (List ℕ)
  pub lines_are : lines bytes ≡ first ++ others
  pub answers : List ItemAnswer
  pub right : AreAnswers command first answers
  pub cut : IsCut before now (text_of answers)

-- how the bytes of an input end
abbrev pub IsToldOf : {E : Type 0} → (List ℕ → ItemCommand) → List ℕ → Known → Known → Result Bool E → Type 0
IsToldOf command bytes before now (Ok done) = AreAllWritten command bytes before now done
IsToldOf command bytes before now (Err failed) = AreCut command bytes before now

-- the lines of these bytes that had ended were answered, and then no more could be read
pub record IsUnread (command : List ℕ → ItemCommand) (input : Input) (bytes : List ℕ)
    (before now : Known) : Type 0 where
  pub ended : List ℕ
  pub rest : List ℕ
  pub cause : IsReadBroken input bytes ⊎ AreAllReads input bytes
  pub within : EndsWithin bytes ended rest
  pub goes_on : (more : List ℕ) → lines (ended ++ more) ≡ lines ended ++ lines more
  pub answers : List ItemAnswer
  pub right : AreAnswers command (lines ended) answers
  pub was_written : IsWritten before now (text_of answers)

-- how the lines of an input were answered
abbrev pub IsEnd : (List ℕ → ItemCommand) → Input → Known → Known → End → Type 0
IsEnd command input before now (Answered done) =
    (bytes : List ℕ) × IsReadToEnd input bytes × AreAllWritten command bytes before now done
IsEnd command input before now Unread =
    (bytes : List ℕ) × IsUnread command input bytes before now
IsEnd command input before now Unwritten =
    (bytes : List ℕ) × Consumes input.before.contents input.after.contents bytes
    × AreCut command bytes before now

-- the end of an input, by whether the last answer was written
abbrev pub end_of : {E : Type 0} → Result Bool E → End
end_of (Ok done) = Answered done
end_of (Err failed) = Unwritten
