-- The stream of frames between terminals and host: a format of this project's own.
use Rattle.std.specs.Prelude.{◌≡◌, ◌<◌, ◌≤◌, ◌+◌, ◌⊎◌, ◌++◌, ℕ, List, All, length}
use Rattle.std.specs.List.{concat}
use Rattle.byteorder.specs.Endian.{big_number}
use Rattle.duk_frame.specs.Frame.{framed}

-- the most bytes that the contents of a frame may have
abbrev pub longest_contents : ℕ
longest_contents = 62

-- what the length in the first two bytes says
abbrev pub said_length : List ℕ → ℕ
said_length bytes = big_number 2 bytes

-- the bytes are one whole frame, with a contents of at most 62 bytes
pub record IsFrame (bytes : List ℕ) : Type 0 where
  pub contents : List ℕ
  pub short : length contents ≤ longest_contents
  pub laid_out : bytes ≡ framed contents

-- the length is there, is at most 62, and more bytes of the contents are wanting
pub record LacksContents (bytes : List ℕ) : Type 0 where
  pub said : 2 ≤ length bytes
  pub fits : said_length bytes ≤ longest_contents
  pub short : length bytes < 2 + said_length bytes

-- the bytes are the part of a frame that is not whole yet: its length is not, or its contents
abbrev pub IsPart : List ℕ → Type 0
IsPart bytes = (length bytes < 2) ⊎ LacksContents bytes

-- a length above 62 stands where a frame would begin
pub record BeginsTooLong (bytes : List ℕ) : Type 0 where
  pub said : 2 ≤ length bytes
  pub above : longest_contents < said_length bytes

-- the bytes begin with these frames, one after the other, and this follows
pub record BeginsWith (bytes : List ℕ) (frames : List (List ℕ)) (rest : List ℕ) : Type 0 where
  pub whole : bytes ≡ concat frames ++ rest
  pub each : All IsFrame frames

-- the bytes are these frames, and after them what holds no further one: a part of a frame, or what
-- begins with a length above 62
pub record Splits (bytes : List ℕ) (frames : List (List ℕ)) (rest : List ℕ) : Type 0 where
  pub begins : BeginsWith bytes frames rest
  pub ends : IsPart rest ⊎ BeginsTooLong rest
