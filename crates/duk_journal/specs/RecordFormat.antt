-- The disk of a journal of version 1: a format of this project's own. It is a positive number of
-- records of 32 bytes: a gate, and 31 bytes of contents.
use Rattle.std.specs.Prelude.{◌≡◌, ◌≤◌, ◌+◌, ◌++◌, ◌∷◌, ℕ, List, replicate}
use Rattle.byteorder.specs.Endian.{big_bytes}
use Rattle.duk_store.specs.Format.{FormatMeaning}
use Rattle.duk_store.specs.Records as records
use Rattle.duk_tree.specs.Path.{IsUsable}
use Rattle.duk_tree.specs.Serial.{serial_bytes}
use Rattle.duk_journal.specs.Entry.{IsEntry, MayStandUnder, figure_of, kind_of, outcome_of}
use Rattle.duk_journal.specs.declared.entry.Entry.{Entry}

-- the bytes of a record
abbrev pub record_length : ℕ
record_length = 32

-- the most entries of a group
abbrev pub most_of_group : ℕ
most_of_group = 4096

-- the contents of a record: the kind; how many records of its group follow, in two bytes; the key
-- serial number in ten; the figure, which is an amount or the counter of a reversed number, in four;
-- the outcome, which is a code or a state; the eight bytes of the request's MAC; and five zeros
unfoldable pub contents_of : ℕ → Entry → List ℕ
contents_of followers entry =
    kind_of entry.decided ∷ (big_bytes 2 followers ++ (serial_bytes entry.number
    ++ (big_bytes 4 (figure_of entry.decided)
    ++ (outcome_of entry.decided ∷ (entry.mac ++ replicate 5 0)))))

-- the bytes are the contents with this entry, after which so many of its group follow
pub record SaysEntry (followers : ℕ) (entry : Entry) (contents : List ℕ) : Type 0 where
  pub entry_is : IsEntry entry
  pub followers_fit : followers + 1 ≤ most_of_group
  pub written : contents ≡ contents_of followers entry

-- an entry that may be kept: its number is usable, and what was decided may stand under it
pub record MayBeKept (entry : Entry) : Type 0 where
  pub usable : IsUsable entry.number.counter
  pub stands : MayStandUnder entry.number entry.decided

-- what the format means. Its disks have no header, and contents are the same at every place.
abbrev pub entry_format : FormatMeaning Entry
entry_format = record {
  record_length = record_length;
  headers = 0;
  is_header = λ record_bytes. ⊥;
  identity = λ header. 0;
  most = most_of_group;
  may_stand = MayBeKept;
  says = λ identity place followers entry contents. SaysEntry followers entry contents;
}

-- the sizes of a journal's disk
abbrev pub IsJournalSize : ℕ → Type 0
IsJournalSize size = records.IsRecordsSize entry_format size

-- the record at a place, counted in records; its gate, and its contents
abbrev pub record_at : ℕ → List ℕ → List ℕ
record_at place bytes = records.record_at record_length place bytes

abbrev pub gate_of : List ℕ → ℕ
gate_of record_bytes = records.gate_of record_bytes

abbrev pub after_gate : List ℕ → List ℕ
after_gate record_bytes = records.after_gate record_bytes

-- a record is open where its gate is 1, and closed where it is anything else
abbrev pub IsOpen : List ℕ → Type 0
IsOpen record_bytes = records.IsOpen record_bytes
