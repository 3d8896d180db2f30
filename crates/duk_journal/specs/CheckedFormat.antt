-- The disk of a journal of version 2: a format of this project's own. A header stands in front of the
-- records, and each of these has the contents of version 1, but for a check sum in the place of the
-- first four of the five zeros at its end.
use Rattle.std.specs.Prelude.{◌≡◌, ◌++◌, ◌∷◌, ℕ, List, [], take, drop, replicate}
use Rattle.byteorder.specs.Endian.{big_bytes, little_bytes}
use Rattle.duk_crc.specs.Crc32.{crc32}
use Rattle.duk_store.specs.Format.{FormatMeaning}
use Rattle.duk_journal.specs.Header.{IsHeader, identity_of, journal_kind}
use Rattle.duk_journal.specs.RecordFormat.{MayBeKept, SaysEntry, most_of_group, record_length}
use Rattle.duk_journal.specs.declared.entry.Entry.{Entry}

-- what contents say in front of the check sum, and those of version 1 that say the same
abbrev pub said_of : List ℕ → List ℕ
said_of contents = take 26 contents

abbrev pub unchecked : List ℕ → List ℕ
unchecked contents = said_of contents ++ replicate 5 0

-- the check sum of what the record at a place says, on the disk of an identity. The place is counted in
-- records, and the header has the place 0.
abbrev pub check_of : ℕ → ℕ → List ℕ → ℕ
check_of identity place said = crc32 (big_bytes 8 identity ++ (big_bytes 8 place ++ said))

-- what stands behind it: the check sum, and a zero
abbrev pub check_bytes : ℕ → ℕ → List ℕ → List ℕ
check_bytes identity place said = little_bytes 4 (check_of identity place said) ++ (0 ∷ [])

-- contents have the check sum of the record at a place, on the disk of an identity
abbrev pub IsChecked : ℕ → ℕ → List ℕ → Type 0
IsChecked identity place contents =
    drop 26 contents ≡ check_bytes identity place (said_of contents)

-- the contents of the record at a place, on the disk of an identity, are those with this entry, after
-- which so many of its group follow
pub record SaysChecked
    (identity place followers : ℕ) (entry : Entry) (contents : List ℕ) : Type 0 where
  pub says : SaysEntry followers entry (unchecked contents)
  pub check : IsChecked identity place contents

-- what the format means
abbrev pub checked_format : FormatMeaning Entry
checked_format = record {
  record_length = record_length;
  headers = 1;
  is_header = IsHeader journal_kind;
  identity = identity_of;
  most = most_of_group;
  may_stand = MayBeKept;
  says = SaysChecked;
}
