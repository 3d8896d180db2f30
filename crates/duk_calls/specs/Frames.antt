-- What the call over a frame's length answers: this project's own.
use Rattle.std.specs.Prelude.{◌≡◌, ◌<◌, ◌≤◌, ◌+◌, ℕ, List, length}
use Rattle.duk_frame.specs.Stream.{BeginsTooLong, longest_contents, said_length}
use Rattle.duk_calls.specs.Answer.{Answer, Ends}
use Rattle.duk_calls.specs.declared.fault.Fault.{Fault}
use Rattle.duk_calls.specs.declared.fault.Fault.TheVariants.{PartOfFrame, TooLong}

-- the frame with which the bytes begin has so many bytes, with those of its length
pub record HasFrameLength (bytes : List ℕ) (count : ℕ) : Type 0 where
  pub said : 2 ≤ length bytes
  pub fits : said_length bytes ≤ longest_contents
  pub count_is : count ≡ 2 + said_length bytes

abbrev pub HasNoFrameLength : List ℕ → Fault → Type 0
HasNoFrameLength bytes PartOfFrame = length bytes < 2
HasNoFrameLength bytes TooLong = BeginsTooLong bytes
HasNoFrameLength bytes _ = ⊥

abbrev pub FrameLengthAnswers : List ℕ → ℕ → ℕ → Answer → Type 0
FrameLengthAnswers bytes old new =
    Ends (HasFrameLength bytes new) (HasNoFrameLength bytes) (new ≡ old)
