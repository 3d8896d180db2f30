-- What the first bytes say: those of no journal, and those of one version.
use Rattle.std.proofs.Common.{◌≡◌, ◌≢◌, ◌∙◌, ◌+◌, ◌≤◌, ℕ, List, [], ◌∷◌, ap, arith, drop, get_or, refl, sym}
use Rattle.std.proofs.lemmas.List.{get_or-drop, get_or-take}
use Rattle.duk_journal_copy.specs.InPart.{IsNoJournal, IsNoKind, IsUnfinished}
use Rattle.duk_journal_copy.specs.Version.{KeepsIn}
use Rattle.duk_journal_copy.specs.declared.version.Version.{Version}
use Rattle.duk_journal_copy.specs.declared.version.Version.TheVariants.{One, Two}
use Rattle.duk_journal.specs.Entry.{kind_of}
use Rattle.duk_journal.specs.Groups.{Entries, HasContents, KeepsChecked, KeepsEntries}
use Rattle.duk_journal.specs.Header.{IsHeader, header_of, journal_kind}
use Rattle.duk_journal.specs.RecordFormat.{after_gate, contents_of, record_at}
use Rattle.duk_journal.specs.declared.entry.Decided.TheVariants.{Payment, Reversal}
use Rattle.duk_journal.specs.declared.entry.Entry.{Entry}
use Rattle.duk_store.specs.RecordFormat.{HasRecordNumber, after_number}
use Rattle.duk_store.specs.RecordFormat.{record_at as log_record_at}
use Rattle.duk_journal_copy.proofs.HeaderBytes.{gate_in, mark_in}

-- a byte of the first record
pub first_at : (x : List ℕ) (k : ℕ) → k + 1 ≤ 32 → get_or (record_at 0 x) k 0 ≡ get_or x k 0
first_at x k less = get_or-take 32 (drop 0 x) k 0 (omega (arith, less))

behind_gate : (x : List ℕ) (k : ℕ) → k + 2 ≤ 32 → get_or (after_gate (record_at 0 x)) k 0 ≡ get_or x (1 + k) 0
behind_gate x k less = get_or-drop 1 (record_at 0 x) k 0 ∙ first_at x (1 + k) (omega (arith, less))

kind_of_contents : (followers : ℕ) (entry : Entry) (record_bytes : List ℕ) → HasContents followers entry record_bytes
    → get_or (after_gate record_bytes) 0 0 ≡ kind_of entry.decided
unfolding contents_of
kind_of_contents followers entry record_bytes has = ap (λ (l : List ℕ). get_or l 0 0) has.written

-- at most 4,095 records follow, so a small byte stands behind the kind
followers_of_contents : (followers : ℕ) (entry : Entry) (record_bytes : List ℕ) → HasContents followers entry record_bytes
    → get_or (after_gate record_bytes) 1 0 ≤ 15
unfolding contents_of
followers_of_contents followers entry record_bytes has =
    let is : get_or (after_gate record_bytes) 1 0 ≡ get_or (contents_of followers entry) 1 0 = ap (λ (l : List ℕ). get_or l 1 0) has.written in
    omega (arith, is, has.followers_fit)

-- an open first record with no entry is that of no journal of version 1
pub open_is_none : (bytes : List ℕ) → get_or bytes 0 0 ≡ 1 → ((followers : ℕ) (entry : Entry) → ¬ HasContents followers entry (record_at 0 bytes))
    → (entries : Entries) → ¬ KeepsEntries bytes entries
open_is_none bytes gate none [] keeps = keeps.listed 0 (omega arith) (first_at bytes 0 (omega arith) ∙ gate)
open_is_none bytes gate none (entry ∷ later) keeps = none keeps.listed.0 entry keeps.listed.2

pub no_kind_is_none : (bytes : List ℕ) → IsNoKind (get_or bytes 1 0) → (followers : ℕ) (entry : Entry) → ¬ HasContents followers entry (record_at 0 bytes)
no_kind_is_none bytes none followers entry has =
    none entry.decided (sym (kind_of_contents followers entry (record_at 0 bytes) has) ∙ behind_gate bytes 0 (omega arith))

pub many_follow_is_none : (bytes : List ℕ) → get_or bytes 2 0 ≡ 0x44 → (followers : ℕ) (entry : Entry) → ¬ HasContents followers entry (record_at 0 bytes)
many_follow_is_none bytes third followers entry has =
    let few : get_or (after_gate (record_at 0 bytes)) 1 0 ≤ 15 = followers_of_contents followers entry (record_at 0 bytes) has in
    let here : get_or (after_gate (record_at 0 bytes)) 1 0 ≡ get_or bytes 2 0 = behind_gate bytes 1 (omega arith) in
    omega (arith, few, here, third)

-- a file with a header has its bytes in front
header_at : (kind : ℕ) (bytes : List ℕ) (k : ℕ) → k + 1 ≤ 32 → (identity : ℕ) → record_at 0 bytes ≡ header_of kind identity → get_or bytes k 0 ≡ get_or (header_of kind identity) k 0
header_at kind bytes k less identity is = sym (first_at bytes k less) ∙ ap (λ (l : List ℕ). get_or l k 0) is

pub other_mark_unheaded : (kind : ℕ) (bytes : List ℕ) → get_or bytes 1 0 ≢ 0xD5 → ¬ IsHeader kind (record_at 0 bytes)
other_mark_unheaded kind bytes other header = other (header_at kind bytes 1 (omega arith) header.0 header.2 ∙ mark_in kind header.0)

pub other_mark_is_none : (bytes : List ℕ) → get_or bytes 1 0 ≢ 0xD5 → (entries : Entries) → ¬ KeepsChecked bytes entries
other_mark_is_none bytes other entries keeps =
    other_mark_unheaded journal_kind bytes other (keeps.header (omega arith))

mark_is_no_kind : IsNoKind 0xD5
mark_is_no_kind (Payment amount code) is = absurd (omega (arith, is))
mark_is_no_kind (Reversal counter state) is = absurd (omega (arith, is))

pub front_is_none : (bytes : List ℕ) → get_or bytes 0 0 ≡ 1 → IsNoKind (get_or bytes 1 0) → get_or bytes 1 0 ≢ 0xD5 → IsNoJournal bytes
front_is_none bytes gate kind mark One entries = open_is_none bytes gate (no_kind_is_none bytes kind) entries
front_is_none bytes gate kind mark Two entries = other_mark_is_none bytes mark entries

pub unfinished_is_none : (bytes : List ℕ) → IsUnfinished bytes → IsNoJournal bytes
unfinished_is_none bytes unfinished = front_is_none bytes unfinished.gate unfinished.kind unfinished.mark

-- a number in the first record of a log has five zeros behind it
pub other_behind_number : (bytes : List ℕ) → get_or bytes 15 0 ≡ 32 → ¬ HasRecordNumber (log_record_at 0 bytes)
other_behind_number bytes other has =
    let first : List ℕ = log_record_at 0 bytes in
    let zeros : get_or (after_number first) 4 0 ≡ 0 = ap (λ (l : List ℕ). get_or l 4 0) has.zeros in
    let here : get_or (after_number first) 4 0 ≡ get_or bytes 15 0 =
    get_or-drop 10 (drop 1 first) 4 0 ∙ get_or-drop 1 first 14 0 ∙ get_or-take 16 (drop 0 bytes) 15 0 (omega arith) in
    omega (arith, zeros, here, other)

-- ---- one version

pub headed_is_none : (bytes : List ℕ) → IsHeader journal_kind (record_at 0 bytes) → (entries : Entries) → ¬ KeepsEntries bytes entries
headed_is_none bytes header entries =
    let gate : get_or bytes 0 0 ≡ 1 = header_at journal_kind bytes 0 (omega arith) header.0 header.2 ∙ gate_in journal_kind header.0 in
    let mark : get_or bytes 1 0 ≡ 0xD5 = header_at journal_kind bytes 1 (omega arith) header.0 header.2 ∙ mark_in journal_kind header.0 in
    open_is_none bytes gate (no_kind_is_none bytes (rw mark mark_is_no_kind)) entries

both_are_none : (bytes : List ℕ) (entries others : Entries) → KeepsEntries bytes entries → ¬ KeepsChecked bytes others
both_are_none bytes entries others old new = headed_is_none bytes (new.header (omega arith)) entries old

pub versions_equal : (bytes : List ℕ) (one other : Version) (entries others : Entries) → KeepsIn one bytes entries → KeepsIn other bytes others → one ≡ other
versions_equal bytes One One entries others keeps also = refl
versions_equal bytes Two Two entries others keeps also = refl
versions_equal bytes One Two entries others keeps also = absurd (both_are_none bytes entries others keeps also)
versions_equal bytes Two One entries others keeps also = absurd (both_are_none bytes others entries also keeps)
