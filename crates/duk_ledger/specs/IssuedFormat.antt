-- The disk of a ledger: a format of this project's own. A header stands in front of the records, and
-- each of these has a check sum, as in a journal of version 2.
use Rattle.std.specs.Prelude.{◌≡◌, ◌++◌, ◌∷◌, ℕ, List, Option, Some, None, replicate}
use Rattle.byteorder.specs.Endian.{big_bytes}
use Rattle.duk_journal.specs.CheckedFormat.{check_bytes}
use Rattle.duk_journal.specs.Header.{IsHeader, identity_of}
use Rattle.duk_store.specs.Format.{FormatMeaning}
use Rattle.duk_tree.specs.Serial.{iksn_bytes}
use Rattle.duk_ledger.specs.Issued.{AreFields}
use Rattle.duk_ledger.specs.declared.issued.Issued.{Issued}
use Rattle.duk_ledger.specs.declared.issued.Made.{Made}

-- the kind of a ledger
abbrev pub ledger_kind : ℕ
ledger_kind = 2

-- the kind of a record: 1 where the key was issued, 2 where its number was copied from a ledger in the
-- form of a log
abbrev pub kind_of : Option Made → ℕ
kind_of (Some made) = 1
kind_of None = 2

-- how a key was made: the check values of the key and of the base derivation key, three bytes each, and
-- the run in four; zeros where it is not known
abbrev pub made_bytes : Option Made → List ℕ
made_bytes (Some made) = made.key ++ (made.key_set ++ big_bytes 4 made.run)
made_bytes None = replicate 10 0

-- what stands in front of a record's check sum, in 26 bytes: the kind; how many records of its group
-- follow, which is 0, in two bytes; the initial key serial number in ten; how the key was made, in ten;
-- and three zeros
unfoldable pub said_by : Issued → List ℕ
said_by issued =
    kind_of issued.made ∷ 0 ∷ 0
    ∷ (iksn_bytes issued.number ++ (made_bytes issued.made ++ replicate 3 0))

-- the contents of the record at a place, on the disk of an identity, are those with this issue. Each is
-- a group of its own.
pub record SaysIssued
    (identity place followers : ℕ) (issued : Issued) (contents : List ℕ) : Type 0 where
  pub alone : followers ≡ 0
  pub fields : AreFields issued
  pub written : contents ≡ said_by issued ++ check_bytes identity place (said_by issued)

-- what the format means
abbrev pub issued_format : FormatMeaning Issued
issued_format = record {
  record_length = 32;
  headers = 1;
  is_header = IsHeader ledger_kind;
  identity = identity_of;
  most = 1;
  may_stand = λ issued. Unit {0};
  says = SaysIssued;
}
