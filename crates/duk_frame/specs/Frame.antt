-- Frames between terminals and host: a format of this project's own.
use Rattle.std.specs.Prelude.{◌-◌, ℕ, List, ◌++◌, length, take, drop}
use Rattle.byteorder.specs.Endian.{big_bytes}

-- a frame: the length of its contents in two bytes, and the contents
abbrev pub framed : List ℕ → List ℕ
framed contents = big_bytes 2 (length contents) ++ contents

-- what the MAC of a frame is made over: what stands between its length and the eight bytes of the
-- MAC
abbrev pub mac_text_of : List ℕ → List ℕ
mac_text_of frame = take (length frame - 10) (drop 2 frame)
