-- Lists by their places: this project's own.
use Rattle.std.specs.Prelude.{ℕ, List, [], map, slice_index_or}
use Rattle.std.specs.Borrow.{Bor}
use Rattle.duk_tree.specs.Serial.{Serial}

-- the key serial number at a place, and that of zeros past the last
abbrev pub number_at : List Serial → ℕ → Serial
number_at numbers i = slice_index_or numbers i (record { iksn = 0; counter = 0 })

-- the bytes at a place, and none past the last
abbrev pub bytes_at : List (List ℕ) → ℕ → List ℕ
bytes_at all i = slice_index_or all i []

-- the message at a place, and the empty one past the last
abbrev pub message_at : List (Bor (List ℕ)) → ℕ → List ℕ
message_at messages i = bytes_at (map (λ message. message.now) messages) i
