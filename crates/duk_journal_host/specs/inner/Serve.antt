-- What only private functions and proofs say beside `Serve.antt`: this project's own.
use Rattle.std.specs.Prelude.{◌<◌, ◌≤◌, ◌++◌, ℕ, List, length, take, vec_capacity}
use Rattle.std.specs.Global.{Vec}
use Rattle.std.specs.List.{concat}
use Rattle.duk_frame.specs.Feeder.{Feeding}
use Rattle.duk_frame.specs.Stream.{BeginsTooLong, BeginsWith, IsPart}
use Rattle.duk_io.specs.Sink.{IsWritten}
use Rattle.duk_journal_host.specs.Group.{AnswersFrames, most_frames}
use Rattle.duk_journal_host.specs.Host.{HostMeaning}
use Rattle.duk_journal_host.specs.Serve.{Service}

-- there is room for the frames of a whole group
abbrev pub HasRoomForFrames : {A : Type 0} → Vec A → Type 0
HasRoomForFrames frames = most_frames ≤ vec_capacity frames

-- these are the frames that end in the first bytes of a piece, so many, and after them stands the
-- part of a frame, or nothing
pub record AreCollected
    (before after : Feeding) (piece : List ℕ) (frames : List (List ℕ)) (taken : ℕ) : Type 0 where
  pub within : taken ≤ length piece
  pub some : 0 < length piece → 0 < taken
  pub begins : BeginsWith (before.rest ++ take taken piece) frames after.rest
  pub is_part : IsPart after.rest

-- these are the frames before a length above 62
pub record AreBeforeTooLong
    (before : Feeding) (piece : List ℕ) (frames : List (List ℕ)) : Type 0 where
  pub rest : List ℕ
  pub begins : BeginsWith (before.rest ++ piece) frames rest
  pub too_long : BeginsTooLong rest

-- frames are answered, and the answers are all written
pub record AreAnswered
    {J I : Type 0} (meaning : HostMeaning J I) (old new : Service J I)
    (frames : List (List ℕ)) : Type 0 where
  pub answers : List (List ℕ)
  pub answered : AnswersFrames meaning frames old.host new.host answers
  pub written : IsWritten old.writer new.writer (concat answers)
