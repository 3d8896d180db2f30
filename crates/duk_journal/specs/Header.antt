-- The first record of a file: this project's own. It says what the file is, and gives it an identity.
use Rattle.std.specs.Prelude.{◌≡◌, ◌<◌, ◌^◌, ◌++◌, ◌∷◌, ℕ, List, [], drop}
use Rattle.byteorder.specs.Endian.{big_bytes, big_number, little_bytes}
use Rattle.duk_crc.specs.Crc32.{crc32}

-- the kind of a journal
abbrev pub journal_kind : ℕ
journal_kind = 1

-- what stands in front of a header's check sum, in 28 bytes: a mark of eight bytes, the kind of the
-- file, the version of its format, which is 2, five zeros, the bytes of a record, which are 32, the
-- identity in eight bytes, and four zeros. The mark is no text; its first byte opens a record, which no
-- version 1 has behind it, and no log, whose open records have five zeros where the 32 is the last.
unfoldable pub said_in_front : ℕ → ℕ → List ℕ
said_in_front kind identity =
    0x01 ∷ 0xD5 ∷ 0x44 ∷ 0x55 ∷ 0x4B ∷ 0x0D ∷ 0x0A ∷ 0x1A ∷ kind ∷ 2 ∷ 0 ∷ 0 ∷ 0 ∷ 0 ∷ 0 ∷ 32
    ∷ (big_bytes 8 identity ++ (0 ∷ 0 ∷ 0 ∷ 0 ∷ []))

-- the header of a file of this kind, with this identity
abbrev pub header_of : ℕ → ℕ → List ℕ
header_of kind identity =
    said_in_front kind identity ++ little_bytes 4 (crc32 (said_in_front kind identity))

-- the bytes of a record are a header of this kind
abbrev pub IsHeader : ℕ → List ℕ → Type 0
IsHeader kind record_bytes =
    (identity : ℕ) × (identity < 2 ^ 64) × (record_bytes ≡ header_of kind identity)

-- the identity that a header gives
abbrev pub identity_of : List ℕ → ℕ
identity_of header = big_number 8 (drop 16 header)
