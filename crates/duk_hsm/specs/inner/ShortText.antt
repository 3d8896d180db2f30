-- Text in the front of an array that is longer: this project's own.
use Rattle.std.specs.Prelude.{◌≡◌, ℕ, ◌-◌, ◌≤◌, List, ◌++◌, length, take, replicate}
use Rattle.duk_hsm.specs.declared.text.ShortText.TheInside.{Inside}
use Rattle.duk_hsm.specs.declared.text.TheConstants.{TEXT_ROOM}

-- the bytes in use
abbrev pub text_of : Inside → List ℕ
text_of text = take text.len text.bytes

-- the bytes in use fill the front of the array, and zeros the rest
pub record IsPadded (text : Inside) : Type 0 where
  pub fits : text.len ≤ TEXT_ROOM
  pub used : length (text_of text) ≡ text.len
  pub padded : text.bytes ≡ text_of text ++ replicate (TEXT_ROOM - text.len) 0
