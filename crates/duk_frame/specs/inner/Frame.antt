-- What only private functions and proofs say beside `Frame.antt`: this project's own.
use Rattle.std.specs.Prelude.{◌≡◌, ◌≤◌, ◌+◌, ℕ, List, ◌∷◌, ◌++◌, length, drop}
use Rattle.byteorder.specs.Endian.{big_bytes}
use Rattle.duk_frame.specs.Frame.{framed}

-- the bytes are a frame, no longer than any may be, whose contents has version 1 and this kind:
-- what a private function tests
pub record HasKind (bytes : List ℕ) (kind : ℕ) : Type 0 where
  pub short : length bytes ≤ 64
  pub laid_out : bytes ≡ framed (1 ∷ kind ∷ drop 4 bytes)

-- a frame that lacks its MAC alone, and has room for it: its length counts the eight bytes of the
-- MAC
pub record LacksMac (frame : List ℕ) : Type 0 where
  pub least : 2 ≤ length frame
  pub room : length frame + 8 ≤ 64
  pub laid_out : frame ≡ big_bytes 2 (length (drop 2 frame) + 8) ++ drop 2 frame
