-- The records behind a header, and what the bytes of a journal keep in them.
use Rattle.std.proofs.Common.{◌≡◌, ◌≢◌, ◌∙◌, ◌+◌, ◌-◌, ◌*◌, ◌/◌, ◌%◌, ◌≤◌, ◌∷◌, [], ℕ, zero, suc, List, None, Option, Some, ap, arith, drop, length, length-drop, refl, subst, sym, take}
use Rattle.std.proofs.lemmas.List.{drop-drop}
use Rattle.std.specs.Prelude.{IfSome}
use Rattle.duk_journal.specs.CheckedFormat.{checked_format}
use Rattle.duk_journal.specs.Groups.{Entries}
use Rattle.duk_journal.specs.Header.{IsHeader, identity_of, journal_kind}
use Rattle.duk_journal.specs.RecordFormat.{IsOpen, MayBeKept, after_gate, entry_format, record_at}
use Rattle.duk_journal.specs.Standing.{UseNewNumbers}
use Rattle.duk_journal.specs.declared.entry.Entry.{Entry}
use Rattle.duk_journal_copy.specs.Version.{KeepsIn, format_of}
use Rattle.duk_journal_copy.specs.declared.version.Version.{Version}
use Rattle.duk_journal_copy.specs.declared.version.Version.TheVariants.{One, Two}
use Rattle.duk_store.specs.Format.{FormatMeaning}
use Rattle.duk_store.specs.Records as records
use Rattle.duk_show.specs.Journal.{IsCutRecord, IsJournal}
use Rattle.duk_show.specs.Stored.{HasContents, IsStored, IsStoredOne, IsStoredTwo, stored_record}
use Rattle.duk_show.specs.declared.stored.Stored.{Stored}

-- all records behind the header are closed from this place on
abbrev pub AreClosedIn : ℕ → Stored → Type 0
AreClosedIn place stored = (later : ℕ) → place ≤ later → ¬ IsOpen (stored_record later stored)

-- these entries, and no more, are kept behind it from this place on, where so many of them belong to a
-- group that began before it
abbrev pub AreKeptIn : Entries → ℕ → ℕ → Stored → Type 0
AreKeptIn [] zero place stored = AreClosedIn place stored
AreKeptIn [] (suc left) place stored = ⊥
AreKeptIn (entry ∷ later) zero place stored =
    (followers : ℕ) × IsOpen (stored_record place stored) × HasContents stored place followers entry (stored_record place stored) × AreKeptIn later followers (place + 1) stored
AreKeptIn (entry ∷ later) (suc left) place stored =
    (¬ IsOpen (stored_record place stored)) × HasContents stored place 0 entry (stored_record place stored) × AreKeptIn later left (place + 1) stored

-- bytes with a header keep nothing in version 1
abbrev pub HeadedIsTwo : Type 0
HeadedIsTwo = (bytes : List ℕ) → IsHeader journal_kind (record_at 0 bytes) → (entries : Entries) → ¬ KeepsIn One bytes entries

-- what has contents may be kept
pub may_be_kept : (version : Version) (identity place followers : ℕ) (entry : Entry) (record_bytes : List ℕ)
    → records.HasContents (format_of version) identity place followers entry record_bytes → MayBeKept entry
may_be_kept One identity place followers entry record_bytes says = record { usable = says.entry_is.usable; stands = says.entry_is.stands }
may_be_kept Two identity place followers entry record_bytes says = record { usable = says.says.entry_is.usable; stands = says.says.entry_is.stands }

-- at most one record in front is a header
pub few_headers : (version : Version) → (format_of version).headers ≤ 1
few_headers One = omega arith
few_headers Two = omega arith

-- what is read is what stands there
pub found_there : (version : Version) (identity spot place : ℕ) (contents record_bytes : List ℕ) (found : Option (ℕ × Entry)) → spot ≡ place → contents ≡ after_gate record_bytes
    → IfSome found (λ it. (format_of version).says identity spot it.0 it.1 contents) → IfSome found (λ it. records.HasContents (format_of version) identity place it.0 it.1 record_bytes)
found_there version identity spot place contents record_bytes (Some it) there is says =
    subst (λ (n : ℕ). (format_of version).says identity n it.0 it.1 (after_gate record_bytes)) there
    (subst (λ (l : List ℕ). (format_of version).says identity spot it.0 it.1 l) is says)
found_there version identity spot place contents record_bytes None there is says = tt

pub every_there : (version : Version) (identity spot place : ℕ) (contents record_bytes : List ℕ) (found : Option (ℕ × Entry)) → spot ≡ place → contents ≡ after_gate record_bytes
    → ((followers : ℕ) (entry : Entry) → (format_of version).says identity spot followers entry contents → found ≡ Some (followers, entry))
    → (followers : ℕ) (entry : Entry) → records.HasContents (format_of version) identity place followers entry record_bytes → found ≡ Some (followers, entry)
every_there version identity spot place contents record_bytes found there is every followers entry has =
    every followers entry
    (subst (λ (l : List ℕ). (format_of version).says identity spot followers entry l) (sym is)
    (subst (λ (n : ℕ). (format_of version).says identity n followers entry (after_gate record_bytes)) (sym there) has))

-- the same contents have the same number of followers
followers_of : Option (ℕ × Entry) → ℕ
followers_of None = 0
followers_of (Some contents) = contents.0

pub same_followers : (one two : ℕ × Entry) → Some one ≡ Some two → one.0 ≡ two.0
unfolding followers_of
same_followers one two same = ap followers_of same

-- ---- the same records, behind the header and in all bytes

module _ (format : FormatMeaning Entry) (bytes : List ℕ) (stored : Stored) (front : ℕ) where
  abbrev there : ℕ → List ℕ
  there place = records.record_at format.record_length place bytes

  abbrev Says : ℕ → ℕ → Entry → Type 0
  Says place followers entry = records.HasContents format (records.identity_in format bytes) place followers entry (there place)

  module _ (same : (place : ℕ) → stored_record place stored ≡ there (front + place)) where
    of_bytes : ((place followers : ℕ) (entry : Entry) → Says (front + place) followers entry → HasContents stored place followers entry (stored_record place stored))
        → (entries : Entries) (left place at : ℕ) → at ≡ front + place → records.AreKeptFrom format entries left at bytes → AreKeptIn entries left place stored
    of_bytes says [] zero place at here kept = λ later past opened.
        kept (front + later) (omega (arith, here, past)) (subst (λ (r : List ℕ). IsOpen r) (same later) opened)
    of_bytes says [] (suc left) place at here kept = kept
    of_bytes says (entry ∷ later) zero place at here kept = (
      kept.0,
      subst (λ (r : List ℕ). IsOpen r) (sym (same place)) (subst (λ (n : ℕ). IsOpen (there n)) here kept.1),
      says place kept.0 entry (subst (λ (n : ℕ). Says n kept.0 entry) here kept.2),
      of_bytes says later kept.0 (place + 1) (at + 1) (omega (arith, here)) kept.3,
    )
    of_bytes says (entry ∷ later) (suc left) place at here kept = (
      λ opened. kept.0 (subst (λ (n : ℕ). IsOpen (there n)) (sym here) (subst (λ (r : List ℕ). IsOpen r) (same place) opened)),
      says place 0 entry (subst (λ (n : ℕ). Says n 0 entry) here kept.1),
      of_bytes says later left (place + 1) (at + 1) (omega (arith, here)) kept.2,
    )

    to_bytes : ((place followers : ℕ) (entry : Entry) → HasContents stored place followers entry (stored_record place stored) → Says (front + place) followers entry)
        → (entries : Entries) (left place at : ℕ) → at ≡ front + place → AreKeptIn entries left place stored → records.AreKeptFrom format entries left at bytes
    to_bytes says [] zero place at here kept = λ later past opened.
        let behind : ℕ = later - front in
        let is : later ≡ front + behind = omega (arith, here, past) in
        kept behind (omega (arith, here, past)) (subst (λ (r : List ℕ). IsOpen r) (sym (same behind)) (subst (λ (n : ℕ). IsOpen (there n)) is opened))
    to_bytes says [] (suc left) place at here kept = kept
    to_bytes says (entry ∷ later) zero place at here kept = (
      kept.0,
      subst (λ (n : ℕ). IsOpen (there n)) (sym here) (subst (λ (r : List ℕ). IsOpen r) (same place) kept.1),
      subst (λ (n : ℕ). Says n kept.0 entry) (sym here) (says place kept.0 entry kept.2),
      to_bytes says later kept.0 (place + 1) (at + 1) (omega (arith, here)) kept.3,
    )
    to_bytes says (entry ∷ later) (suc left) place at here kept = (
      λ opened. kept.0 (subst (λ (r : List ℕ). IsOpen r) (sym (same place)) (subst (λ (n : ℕ). IsOpen (there n)) here opened)),
      subst (λ (n : ℕ). Says n 0 entry) (sym here) (says place 0 entry kept.1),
      to_bytes says later left (place + 1) (at + 1) (omega (arith, here)) kept.2,
    )

-- ---- in version 2

module _ (bytes : List ℕ) (stored : Stored) (is : stored.version ≡ Two) (two : IsStoredTwo bytes stored) where
  record_two : (place : ℕ) → stored_record place stored ≡ record_at (1 + place) bytes
  record_two place =
      ap (λ (l : List ℕ). take 32 (drop (32 * place) l)) two.records_are
      ∙ ap (take 32) (drop-drop (32 * place) 32 bytes)
      ∙ ap (λ (n : ℕ). take 32 (drop n bytes)) (omega arith)

  says_two : (place followers : ℕ) (entry : Entry) → HasContents stored place followers entry (stored_record place stored)
      → records.HasContents checked_format (identity_of (take 32 bytes)) (1 + place) followers entry (record_at (1 + place) bytes)
  says_two place followers entry says =
      subst (λ (r : List ℕ). records.HasContents checked_format (identity_of (take 32 bytes)) (1 + place) followers entry r) (record_two place)
      (subst (λ (i : ℕ). records.HasContents checked_format i (1 + place) followers entry (stored_record place stored)) two.identity_is
      (subst (λ (v : Version). records.HasContents (format_of v) stored.identity ((format_of v).headers + place) followers entry (stored_record place stored)) is says))

  said_two : (place followers : ℕ) (entry : Entry) → records.HasContents checked_format (identity_of (take 32 bytes)) (1 + place) followers entry (record_at (1 + place) bytes)
      → HasContents stored place followers entry (stored_record place stored)
  said_two place followers entry says =
      subst (λ (v : Version). records.HasContents (format_of v) stored.identity ((format_of v).headers + place) followers entry (stored_record place stored)) (sym is)
      (subst (λ (i : ℕ). records.HasContents checked_format i (1 + place) followers entry (stored_record place stored)) (sym two.identity_is)
      (subst (λ (r : List ℕ). records.HasContents checked_format (identity_of (take 32 bytes)) (1 + place) followers entry r) (sym (record_two place)) says))

  of_two : (entries : Entries) → KeepsIn Two bytes entries → AreKeptIn entries 0 0 stored
  of_two entries keeps = of_bytes checked_format bytes stored 1 record_two said_two entries 0 0 1 (omega arith) keeps.listed

  to_two : (entries : Entries) → AreKeptIn entries 0 0 stored → KeepsIn Two bytes entries
  to_two entries kept = record {
    header = λ has. two.header.is;
    listed = to_bytes checked_format bytes stored 1 record_two says_two entries 0 0 1 (omega arith) kept;
  }

  long_two : length stored.records.now + 32 ≡ length bytes
  long_two = omega (arith, ap length two.records_are, length-drop 32 bytes, two.header.whole)

-- ---- in version 1

module _ (bytes : List ℕ) (stored : Stored) (is : stored.version ≡ One) (one : IsStoredOne bytes stored) where
  record_one : (place : ℕ) → stored_record place stored ≡ record_at (0 + place) bytes
  record_one place =
      ap (λ (l : List ℕ). take 32 (drop (32 * place) l)) one.records_are
      ∙ ap (λ (n : ℕ). take 32 (drop n bytes)) (omega arith)

  says_one : (place followers : ℕ) (entry : Entry) → HasContents stored place followers entry (stored_record place stored)
      → records.HasContents entry_format 0 (0 + place) followers entry (record_at (0 + place) bytes)
  says_one place followers entry says =
      subst (λ (r : List ℕ). records.HasContents entry_format 0 (0 + place) followers entry r) (record_one place)
      (subst (λ (v : Version). records.HasContents (format_of v) stored.identity ((format_of v).headers + place) followers entry (stored_record place stored)) is says)

  said_one : (place followers : ℕ) (entry : Entry) → records.HasContents entry_format 0 (0 + place) followers entry (record_at (0 + place) bytes)
      → HasContents stored place followers entry (stored_record place stored)
  said_one place followers entry says =
      subst (λ (v : Version). records.HasContents (format_of v) stored.identity ((format_of v).headers + place) followers entry (stored_record place stored)) (sym is)
      (subst (λ (r : List ℕ). records.HasContents entry_format 0 (0 + place) followers entry r) (sym (record_one place)) says)

  of_one : (entries : Entries) → KeepsIn One bytes entries → AreKeptIn entries 0 0 stored
  of_one entries keeps = of_bytes entry_format bytes stored 0 record_one said_one entries 0 0 0 (omega arith) keeps.listed

  to_one : (entries : Entries) → AreKeptIn entries 0 0 stored → KeepsIn One bytes entries
  to_one entries kept = record {
    header = λ has. absurd (omega (arith, has));
    listed = to_bytes entry_format bytes stored 0 record_one says_one entries 0 0 0 (omega arith) kept;
  }

-- ---- in either

-- a version is one of the two
module _ (bytes : List ℕ) (stored : Stored) (are : IsStored bytes stored) where
  -- what a journal keeps is kept behind its header
  of_version : HeadedIsTwo → (version given : Version) (entries : Entries) → stored.version ≡ version → 32 ≤ length bytes → KeepsIn given bytes entries → AreKeptIn entries 0 0 stored
  of_version headed One One entries is long keeps = of_one bytes stored is (are.one is) entries keeps
  of_version headed Two Two entries is long keeps = of_two bytes stored is (are.two is) entries keeps
  of_version headed One Two entries is long keeps = absurd ((are.one is).no_header (record { whole = long; is = keeps.header (omega arith) }))
  of_version headed Two One entries is long keeps = absurd (headed bytes (are.two is).header.is entries keeps)

  pub kept_by_journal : HeadedIsTwo → (entries : Entries) → IsJournal bytes entries → AreKeptIn entries 0 0 stored
  kept_by_journal headed entries journal =
      of_version headed stored.version journal.version entries refl (omega (arith, journal.size.1, journal.size.2)) journal.keeps

  -- and what is kept behind whole records is a journal's
  to_version : (version : Version) (entries : Entries) → stored.version ≡ version → bytes ≢ [] → length stored.records.now % 32 ≡ 0 → AreKeptIn entries 0 0 stored → UseNewNumbers entries → IsJournal bytes entries
  to_version Two entries is some whole kept usable =
      let two : IsStoredTwo bytes stored = are.two is in
      let records : ℕ = length stored.records.now / 32 in
      record {
        version = Two;
        size = (1 + records, omega arith, omega (arith, long_two bytes stored is two, whole));
        keeps = to_two bytes stored is two entries kept;
        usable = usable;
      }
  to_version One entries is some whole kept usable =
      let one : IsStoredOne bytes stored = are.one is in
      let long : length stored.records.now ≡ length bytes = ap length one.records_are in
      let records : ℕ = length bytes / 32 in
      record {
        version = One;
        size = (records, omega (arith, some_bytes bytes some, long, whole), omega (arith, long, whole));
        keeps = to_one bytes stored is one entries kept;
        usable = usable;
      }
    where
      some_bytes : (l : List ℕ) → l ≢ [] → 1 ≤ length l
      some_bytes [] none = absurd (none refl)
      some_bytes (byte ∷ l) none = omega arith

  pub journal_kept : (entries : Entries) → bytes ≢ [] → length stored.records.now % 32 ≡ 0 → AreKeptIn entries 0 0 stored → UseNewNumbers entries → IsJournal bytes entries
  journal_kept entries some whole kept usable = to_version stored.version entries refl some whole kept usable

  -- a record in which the bytes end is in no journal
  whole_in : (version : Version) (entries : Entries) → stored.version ≡ version → IsJournal bytes entries → length stored.records.now % 32 ≡ 0
  whole_in Two entries is journal = omega (arith, long_two bytes stored is (are.two is), journal.size.1, journal.size.2)
  whole_in One entries is journal =
      let long : length stored.records.now ≡ length bytes = ap length (are.one is).records_are in
      omega (arith, long, journal.size.1, journal.size.2)

  pub journal_cut : (place : ℕ) (entries : Entries) → IsCutRecord place bytes stored → ¬ IsJournal bytes entries
  journal_cut place entries cut journal =
      let whole : length stored.records.now ≡ 32 * place = omega (arith, whole_in stored.version entries refl journal, cut.begins, cut.ends) in
      let none : length bytes ≡ 0 = ap length (cut.some whole) in
      omega (arith, none, journal.size.1, journal.size.2)
