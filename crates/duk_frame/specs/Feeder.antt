-- What a feeder takes of a stream: this project's own.
use Rattle.std.specs.Prelude.{◌≡◌, ◌<◌, ◌≤◌, ◌++◌, ℕ, Bool, List, [], length, take}
use Rattle.duk_frame.specs.Stream.{IsFrame, IsPart}

-- what a feeder has: the bytes of a frame that is not whole yet, and whether it found a length
-- above 62
pub record Feeding : Type 0 where
  pub rest : List ℕ
  pub failed : Bool

-- bytes at the front of the piece end the frame that these bytes begin
pub record EndsFrame (rest piece : List ℕ) (taken : ℕ) : Type 0 where
  pub least : 0 < taken
  pub within : taken ≤ length piece
  pub is_frame : IsFrame (rest ++ take taken piece)

-- a frame is handed out: it is the rest with the bytes that were taken after it, and the new rest
-- is empty
pub record HandsOutFrame (old new : Feeding) (piece : List ℕ) (taken : ℕ) (frame : List ℕ) : Type 0 where
  pub ends : EndsFrame old.rest piece taken
  pub whole : frame ≡ old.rest ++ take taken piece
  pub nothing_left : new.rest ≡ []

-- the whole piece is taken: the new rest is the old one with the piece after it, and is the part
-- of a frame
pub record TakesAll (old new : Feeding) (piece : List ℕ) (taken : ℕ) : Type 0 where
  pub all : taken ≡ length piece
  pub rest_is : new.rest ≡ old.rest ++ piece
  pub is_part : IsPart new.rest
