-- What `show` prints of a journal, and where the reading of one stops (this project's
-- own, over its format).
use Rattle.std.specs.Prelude.{◌≡◌, ◌⊎◌, ◌<◌, ◌≤◌, ◌+◌, ◌-◌, ◌*◌, ◌/◌, ◌==◌, ⊤, if◌then◌else◌, ℕ, zero, suc, List, [], ◌∷◌, ◌++◌, codes, count_by, decimal, length, map, Contains}
use Rattle.std.specs.List.{filter, list_any}
use Rattle.hex.specs.Hex.{encode_upper}
use Rattle.duk_commands.specs.Lines.{text_line}
use Rattle.duk_frame.specs.Code.{code_text}
use Rattle.duk_journal.specs.Entry.{reversed_by}
use Rattle.byteorder.specs.Endian.{big_bytes}
use Rattle.duk_journal.specs.Groups.{Entries}
use Rattle.duk_journal.specs.RecordFormat.{IsJournalSize, IsOpen, gate_of, record_at, record_length}
use Rattle.duk_journal.specs.Standing.{UseNewNumbers, is_by, is_payment, is_undone, standing_total, used_by}
use Rattle.duk_journal.specs.declared.entry.Decided.{Decided}
use Rattle.duk_journal.specs.declared.entry.Decided.TheVariants.{Payment, Reversal}
use Rattle.duk_journal.specs.declared.entry.Entry.{Entry}
use Rattle.duk_journal_copy.specs.Version.{KeepsIn}
use Rattle.duk_journal_copy.specs.declared.version.Version.{Version}
use Rattle.duk_store.specs.Log.{Numbers}
use Rattle.duk_tree.specs.Serial.{Serial, iksn_bytes, serial_bytes}
use Rattle.duk_show.specs.Frame.{code_words, state_words}
use Rattle.duk_show.specs.Log.{last_after}
use Rattle.duk_show.specs.Stored.{HasContents, IsStored, if_two, stored_record}
use Rattle.duk_show.specs.declared.stored.Stored.{Stored}
use Rattle.duk_show.specs.declared.fault.ShowFault.{ShowFault}
use Rattle.duk_show.specs.declared.fault.ShowFault.TheVariants.{JournalRefused, OutOfMemory}

-- the key serial numbers of entries, in their order
abbrev pub numbers_of : Entries → Numbers
numbers_of entries = map (λ entry. entry.number) entries

-- the bytes are those of a journal of either version that keeps these entries, and their numbers are
-- such that a host may have used them
pub record IsJournal (bytes : List ℕ) (entries : Entries) : Type 0 where
  pub version : Version
  pub size : IsJournalSize (length bytes)
  pub keeps : KeepsIn version bytes entries
  pub usable : UseNewNumbers entries

-- ---- the lines

-- the lines of a header: the version of the format, and the identity of the file
abbrev pub header_lines : Stored → List ℕ
header_lines stored = if_two stored.version (text_line (codes "version") (codes "2")
    ++ text_line (codes "identity") (encode_upper (big_bytes 8 stored.identity)))

-- where a record stands, and its key serial number: its place, and where its group begins
abbrev pub record_words : ℕ → ℕ → Serial → List ℕ
record_words place group number =
    decimal place ++ codes " group " ++ decimal group
    ++ codes " ksn " ++ encode_upper (serial_bytes number)

-- the line of the entry in the record at a place, whose group begins at this place or before it
abbrev pub decided_line : ℕ → ℕ → Serial → List ℕ → Decided → List ℕ
decided_line place group number mac (Payment amount code) =
    text_line (codes "payment")
    (record_words place group number ++ codes " amount " ++ decimal amount
    ++ codes " mac " ++ encode_upper mac
    ++ codes " code " ++ code_text code ++ codes " " ++ code_words code)
decided_line place group number mac (Reversal counter state) =
    text_line (codes "reversal")
    (record_words place group number
    ++ codes " of " ++ encode_upper (serial_bytes (reversed_by number counter))
    ++ codes " mac " ++ encode_upper mac ++ codes " state " ++ state_words state)

abbrev pub entry_line : ℕ → ℕ → Entry → List ℕ
entry_line place group entry = decided_line place group entry.number entry.mac entry.decided

-- where the group of the record at a place begins: there, where the record is open, or else where
-- that of the record before it does
abbrev pub own_group : List ℕ → ℕ → ℕ → ℕ
own_group bytes place before =
    if gate_of (record_at place bytes) == 1 then place else before

-- the lines of entries whose records stand from a place on, after a group that begins at another
abbrev pub entry_lines : List ℕ → ℕ → ℕ → Entries → List ℕ
entry_lines bytes before place [] = []
entry_lines bytes before place (entry ∷ later) =
    entry_line place (own_group bytes place before) entry
    ++ entry_lines bytes (own_group bytes place before) (place + 1) later

-- how many payments are undone, if any
abbrev pub undone_words : ℕ → List ℕ
undone_words undone = if undone == 0 then [] else codes " undone " ++ decimal undone

-- the line of a terminal: its initial key serial number, how many payments of its own are kept, the
-- first and the last of its numbers, the sum of the amounts that stand, and how many of its payments
-- are undone, if any
abbrev pub terminal_line : Serial → Serial → ℕ → ℕ → ℕ → List ℕ
terminal_line first last payments approved undone =
    text_line (codes "terminal")
    (encode_upper (iksn_bytes first.iksn) ++ codes " " ++ decimal payments ++ codes " "
    ++ encode_upper (serial_bytes first) ++ codes " " ++ encode_upper (serial_bytes last)
    ++ codes " approved " ++ decimal approved ++ undone_words undone)

-- that of the terminal whose first entry this is, among all that are kept
abbrev pub payer_line_of : Entries → Entry → List ℕ
payer_line_of all first =
    let own = filter (is_by first.number.iksn) all in
    terminal_line first.number (last_after first.number (numbers_of own)) (count_by is_payment own)
    (standing_total all first.number.iksn) (count_by (is_undone all) own)

-- the line of the terminal of an entry, where it is the first of that terminal: none before it is
-- one
abbrev pub payer_if_first : Entries → Entries → Entry → List ℕ
payer_if_first all before entry =
    if list_any (is_by entry.number.iksn) before then [] else payer_line_of all entry

-- the lines of the terminals of some entries, in the order of their first ones, after entries that
-- came before
abbrev pub payer_lines : Entries → Entries → Entries → List ℕ
payer_lines all before [] = []
payer_lines all before (entry ∷ more) =
    payer_if_first all before entry ++ payer_lines all (before ++ entry ∷ []) more

-- the line of how many reversals are kept, where there are any
abbrev pub reversals_line : ℕ → List ℕ
reversals_line count = if count == 0 then [] else text_line (codes "reversals") (decimal count)

-- the lines of how many payments and reversals are kept, and of how many records there is room for
abbrev pub count_lines : ℕ → Entries → List ℕ
count_lines records entries =
    text_line (codes "payments") (decimal (count_by is_payment entries))
    ++ reversals_line (length entries - count_by is_payment entries)
    ++ text_line (codes "room") (decimal (records - length entries))

-- the lines of a journal that keeps these entries
abbrev pub stored_lines : Stored → Entries → List ℕ
stored_lines stored entries =
    header_lines stored ++ entry_lines stored.records.now 0 0 entries
    ++ count_lines (length stored.records.now / record_length) entries
    ++ payer_lines entries [] entries

-- the bytes are those of a journal, and these are its lines
pub record IsJournalText (bytes text : List ℕ) : Type 0 where
  pub entries : Entries
  pub is_journal : IsJournal bytes entries
  pub stored : Stored
  pub stored_are : IsStored bytes stored
  pub text_is : text ≡ stored_lines stored entries

-- ---- where the reading stops

-- these entries stand from a place on, where so many of a group that began before it are to come;
-- behind them so many of the last group are
abbrev pub StandFrom : Entries → ℕ → ℕ → ℕ → Stored → Type 0
StandFrom [] left place more stored = left ≡ more
StandFrom (entry ∷ later) zero place more stored =
    (followers : ℕ) × IsOpen (stored_record place stored)
    × HasContents stored place followers entry (stored_record place stored)
    × StandFrom later followers (place + 1) more stored
StandFrom (entry ∷ later) (suc left) place more stored =
    (¬ IsOpen (stored_record place stored))
    × HasContents stored place 0 entry (stored_record place stored)
    × StandFrom later left (place + 1) more stored

-- the records before a place are those of a journal: these entries, of whose last group so many are
-- to come; or whole groups, and closed records behind them
pub record BeginsJournal (place left : ℕ) (entries : Entries) (stored : Stored) : Type 0 where
  pub within : length entries ≤ place
  pub stand : StandFrom entries 0 0 left stored
  pub usable : UseNewNumbers entries
  pub closed : (other : ℕ) → length entries ≤ other → other < place
      → ¬ IsOpen (stored_record other stored)
  pub whole : length entries < place → left ≡ 0

-- the record at a place has an entry whose number none of these uses
pub record HasNewEntry (stored : Stored) (place followers : ℕ) (entries : Entries)
    (record_bytes : List ℕ) : Type 0 where
  pub entry : Entry
  pub contents : HasContents stored place followers entry record_bytes
  pub is_new : ¬ Contains (used_by entries) entry.number

-- the record at a place goes on with a journal: inside a group it is closed, and has a new entry,
-- after which it says none follows; else it is closed, or the first of a group, behind the entries
abbrev pub GoesOn : Stored → ℕ → ℕ → Entries → List ℕ → Type 0
GoesOn stored place zero entries record_bytes =
    (¬ IsOpen record_bytes)
    ⊎ ((length entries ≡ place)
    × (followers : ℕ) × HasNewEntry stored place followers entries record_bytes)
GoesOn stored place (suc left) entries record_bytes =
    (¬ IsOpen record_bytes) × HasNewEntry stored place 0 entries record_bytes

-- the record at a place is not whole: the bytes end in it, or there are none at all
pub record IsCutRecord (place : ℕ) (bytes : List ℕ) (stored : Stored) : Type 0 where
  pub begins : record_length * place ≤ length stored.records.now
  pub ends : length stored.records.now < record_length * place + record_length
  pub some : length stored.records.now ≡ record_length * place → bytes ≡ []

-- the first record behind the header that is in no journal: the bytes end in it, or there are none at
-- all, or it does not go on with what is before it, as one that is missing inside a group
pub record IsJournalDamagedAt (bytes : List ℕ) (place : ℕ) : Type 0 where
  pub stored : Stored
  pub stored_are : IsStored bytes stored
  pub left : ℕ
  pub entries : Entries
  pub begins : BeginsJournal place left entries stored
  pub wrong : IsCutRecord place bytes stored
      ⊎ ¬ GoesOn stored place left entries (stored_record place stored)

-- why bytes are not shown as a journal: the first record that is in none; memory may be refused
abbrev pub IsJournalRefused : List ℕ → ShowFault → Type 0
IsJournalRefused bytes (JournalRefused place) =
    IsJournalDamagedAt bytes place × ((entries : Entries) → ¬ IsJournal bytes entries)
IsJournalRefused bytes OutOfMemory = ⊤
IsJournalRefused bytes why = ⊥
