-- A disk that is written with what a journal keeps.
use Rattle.std.proofs.Common.{◌≡◌, ◌∙◌, ◌+◌, ◌*◌, ◌-◌, ◌<◌, ◌≤◌, ◌^◌, ◌++◌, ℕ, zero, suc, List, [], ◌∷◌, None, ap, arith, drop, length, refl, replicate, subst, sym}
use Rattle.duk_journal.specs.CheckedFormat.{checked_format}
use Rattle.duk_journal.specs.DiskJournal.{disk_journal_state}
use Rattle.duk_journal.specs.Groups.{Entries, KeepsChecked}
use Rattle.duk_journal.specs.Header.{header_of, identity_of, journal_kind}
use Rattle.duk_journal.specs.RecordFormat.{entry_format, record_at}
use Rattle.duk_journal.specs.declared.entry.Entry.{Entry}
use Rattle.duk_journal_copy.specs.Copy.{CopyFailed, IsCopied, IsRecordCopied}
use Rattle.duk_journal_copy.specs.InPart.{LeavesInPart}
use Rattle.duk_journal_copy.specs.Version.{KeepsIn, format_of}
use Rattle.duk_journal_copy.specs.declared.copy.CopyFault.{CopyFault}
use Rattle.duk_journal_copy.specs.declared.copy.CopyFault.TheVariants.{Old, Changed, New}
use Rattle.duk_journal_copy.specs.declared.copy.Kept.{Kept}
use Rattle.duk_journal_copy.specs.declared.version.Version.{Version}
use Rattle.duk_journal_copy.specs.declared.version.Version.TheVariants.{One, Two}
use Rattle.duk_journal_copy.specs.inner.Blank.{LeavesOutside}
use Rattle.duk_journal_copy.specs.inner.Convert.{IsConverted}
use Rattle.duk_journal_copy.specs.inner.Copy.{AreConvertedFrom, IsIdentityRead, IsRestCopied, RecordsUncopied, new_spot, old_spot}
use Rattle.duk_journal_copy.specs.inner.Head.{IsHeadSettled, LeavesHeadInTurn}
use Rattle.duk_journal_copy.specs.inner.Rest.{file_bytes}
use Rattle.duk_store.specs.Disk.{DiskState, LeavesReads, PreservesBytes, PreservesDisk}
use Rattle.duk_store.specs.Format.{FormatMeaning, IsFormat}
use Rattle.duk_store.specs.Records as records
use Rattle.duk_store.specs.StoreState.{FindsOnly}
use Rattle.duk_journal_copy.proofs.CopiedRecords.{spot}
use Rattle.duk_journal_copy.proofs.HeaderBytes.{gate_in, length_in, mark_in, third_in}
use Rattle.duk_journal_copy.proofs.InPart.{in_part_settled}
use Rattle.duk_journal_copy.proofs.KeptCopy.{kept_copy}
use Rattle.duk_journal_copy.proofs.WholeBytes.{header_first, in_front, record_in, zeros_behind}
use Rattle.duk_journal_copy.proofs.WrittenDisks.{fails_later, keeps_on}
use Rattle.duk_journal_copy.proofs.WrittenLists.{differs_then, whole_by_head}

-- ---- what a journal keeps has records that say so

module _ (format : FormatMeaning Entry) (bytes : List ℕ) where
  abbrev Says : ℕ → Type 0
  Says place =
      (followers : ℕ) × (entry : Entry)
      × records.HasContents format (records.identity_in format bytes) place followers entry (records.record_at format.record_length place bytes)

  listed_says : (items : Entries) (left from : ℕ) → records.AreKeptFrom format items left from bytes → (place : ℕ) → place < length items → Says (from + place)
  listed_says [] left from kept place less = absurd (omega (arith, less))
  listed_says (entry ∷ later) zero from kept zero less =
      let here : from ≡ from + zero = omega arith in
      subst (λ (n : ℕ). Says n) here (kept.0, entry, kept.2)
  listed_says (entry ∷ later) zero from kept (suc place) less =
      let there : from + 1 + place ≡ from + suc place = omega arith in
      subst (λ (n : ℕ). Says n) there (listed_says later kept.0 (from + 1) kept.3 place (omega (arith, less)))
  listed_says (entry ∷ later) (suc left) from kept zero less =
      let here : from ≡ from + zero = omega arith in
      subst (λ (n : ℕ). Says n) here (0, entry, kept.1)
  listed_says (entry ∷ later) (suc left) from kept (suc place) less =
      let there : from + 1 + place ≡ from + suc place = omega arith in
      subst (λ (n : ℕ). Says n) there (listed_says later left (from + 1) kept.2 place (omega (arith, less)))

kept_says : (version : Version) (bytes : List ℕ) (entries : Entries) → KeepsIn version bytes entries → (place : ℕ) → place < length entries
    → (followers : ℕ) × (entry : Entry)
    × records.HasContents (format_of version) (records.identity_in (format_of version) bytes) ((format_of version).headers + place) followers entry (record_at ((format_of version).headers + place) bytes)
kept_says One bytes entries keeps place less = listed_says entry_format bytes entries 0 0 keeps.listed place less
kept_says Two bytes entries keeps place less = listed_says checked_format bytes entries 0 1 keeps.listed place less

-- so where one says nothing, it does not keep so many
pub why_not : (kept : Kept) (own : ℕ) (old old' old'' new new' : DiskState) (why : CopyFault) → PreservesDisk old old' → PreservesBytes old old'
    → IsIdentityRead kept.version old old' own → RecordsUncopied kept own old' old'' new new' why → CopyFailed kept old old'' new new' why
why_not kept own old old' old'' new new' Old stays bytes own_is uncopied = fails_later old old' old'' _ stays own_is.no_failure uncopied.cause
why_not kept own old old' old'' new new' New stays bytes own_is uncopied = uncopied.cause
why_not kept own old old' old'' new new' Changed stays bytes own_is uncopied = λ h entries keeps many.
    let none = uncopied.cause (stays.honest.0 h) in
    let says = kept_says kept.version old.reads entries keeps none.0 (omega (arith, none.1, many)) in
    let there : (format_of kept.version).headers + none.0 ≡ (format_of kept.version).headers + 0 + none.0 = omega arith in
    none.2 says.0 says.1
    (subst (λ (l : List ℕ). records.HasContents (format_of kept.version) own ((format_of kept.version).headers + 0 + none.0) says.0 says.1 (record_at ((format_of kept.version).headers + 0 + none.0) l)) (sym bytes.reads)
    (subst (λ (n : ℕ). records.HasContents (format_of kept.version) own n says.0 says.1 (record_at n old.reads)) there
    (subst (λ (i : ℕ). records.HasContents (format_of kept.version) i ((format_of kept.version).headers + none.0) says.0 says.1 (record_at ((format_of kept.version).headers + none.0) old.reads)) (sym (own_is.is h)) says.2)))

-- ---- a copied record

copied_record : (version : Version) (own identity count size : ℕ) (old xs : List ℕ) → length (header_of journal_kind identity) ≡ 32 → length xs ≡ 32 * count → 32 * (1 + count) ≤ size
    → own ≡ records.identity_in (format_of version) old → AreConvertedFrom version (old_spot version own 0) (new_spot identity 0) count old xs
    → (place : ℕ) → place < count → IsRecordCopied version identity place old (file_bytes journal_kind identity xs size)
copied_record version own identity count size old xs long many room own_is each place less =
    let whole : List ℕ = file_bytes journal_kind identity xs size in
    let at : ℕ = (format_of version).headers + place in
    let there : (format_of version).headers + 0 + place ≡ at = omega arith in
    let it : IsConverted version (spot own at) (spot identity (1 + place)) (record_at at old) (record_at (1 + place) whole) =
    subst (λ (l : List ℕ). IsConverted version (spot own at) (spot identity (1 + place)) (record_at at old) l) (sym (record_in journal_kind identity long xs count size many room place less))
    (subst (λ (n : ℕ). IsConverted version (spot own n) (spot identity (1 + place)) (record_at n old) (record_at place xs)) there (each place less)) in
    record {
      followers = it.followers;
      entry = it.entry;
      was = subst (λ (i : ℕ). records.HasContents (format_of version) i at it.followers it.entry (record_at at old)) own_is it.was;
      is = it.is;
      gate = it.gate;
    }

-- ---- the whole copy

-- a disk that leaves what it reads finds what that keeps
finds_them : ((bytes : List ℕ) (one two : Entries) → KeepsChecked bytes one → KeepsChecked bytes two → one ≡ two)
    → (after : DiskState) (entries : Entries) → LeavesReads after → KeepsChecked after.reads entries → FindsOnly (disk_journal_state after None) entries
finds_them one_list after entries leaves keeps = λ other. (
  (λ found. one_list found.0 other entries found.2 (subst (λ (l : List ℕ). KeepsChecked l entries) (sym ((leaves found.0).0 found.1)) keeps)),
  (λ is. (after.reads, (leaves after.reads).1 refl, subst (λ (es : Entries). KeepsChecked after.reads es) (sym is) keeps)),
)

module _ (one_list : (bytes : List ℕ) (one two : Entries) → KeepsChecked bytes one → KeepsChecked bytes two → one ≡ two)
    (kept : Kept) (is_format : IsFormat (format_of kept.version)) (identity own : ℕ) (fits : identity < 2 ^ 64)
    (long : length (header_of journal_kind identity) ≡ 32) (back : identity_of (header_of journal_kind identity) ≡ identity)
    (old old' old'' before mid after : DiskState) (room : 32 * (1 + kept.count) ≤ before.size)
    (stays : PreservesDisk old old') (bytes : PreservesBytes old old') (own_is : IsIdentityRead kept.version old old' own)
    (rest : IsRestCopied kept own identity old' old'' before mid) where
  -- what is written
  abbrev copied_records : before.honest → List ℕ
  copied_records k = (rest.rest k).0

  abbrev copy : before.honest → List ℕ
  copy k = file_bytes journal_kind identity (copied_records k) before.size

  many : (k : before.honest) → length (copied_records k) ≡ 32 * kept.count
  many k = (rest.rest k).1

  each_copied : (k : before.honest) → old.honest → (place : ℕ) → place < kept.count → IsRecordCopied kept.version identity place old.reads (copy k)
  each_copied k h place less =
      copied_record kept.version own identity kept.count before.size old.reads (copied_records k) long (many k) room (own_is.is h)
      (subst (λ (l : List ℕ). AreConvertedFrom kept.version (old_spot kept.version own 0) (new_spot identity 0) kept.count l (copied_records k)) bytes.reads
      ((rest.rest k).2 (stays.honest.0 h)))
      place less

  copy_keeps : (k : before.honest) → old.honest → (entries : Entries) → KeepsIn kept.version old.reads entries → length entries ≡ kept.count → KeepsChecked (copy k) entries
  copy_keeps k h entries keeps counted =
      kept_copy kept.version is_format identity kept.count (before.size - 32 * (1 + kept.count)) old.reads (copy k) fits back
      (header_first journal_kind identity long (copied_records k) kept.count before.size (many k) room)
      (each_copied k h) (zeros_behind journal_kind identity long (copied_records k) kept.count before.size (many k) room) entries keeps counted

  abbrev tail : before.honest → List ℕ
  tail k = copied_records k ++ replicate (before.size - 32 - length (copied_records k)) 0

  -- the first two bytes are settled
  module _ (settled : IsHeadSettled mid after) where
    reads_copy : (k : before.honest) → after.reads ≡ copy k
    reads_copy k =
        let mid_honest : mid.honest = rest.nature.honest.0 k in
        whole_by_head (copy k) after.reads (differs_then 0 2 (copy k) mid.reads after.reads (rest.rest k).3 (settled.rest mid_honest))
        (settled.gate_is mid_honest ∙ sym (in_front journal_kind identity long (tail k) 0 (omega arith) ∙ gate_in journal_kind identity))
        (settled.mark_is mid_honest ∙ sym (in_front journal_kind identity long (tail k) 1 (omega arith) ∙ mark_in journal_kind identity))

    leaves : before.honest → LeavesReads after
    leaves k = settled.leaves (rest.nature.honest.0 k) (rest.leaves k)

    keeps_all : (k : before.honest) → old.honest → (entries : Entries) → KeepsIn kept.version old.reads entries → length entries ≡ kept.count → KeepsChecked after.reads entries
    keeps_all k h entries keeps counted = subst (λ (l : List ℕ). KeepsChecked l entries) (sym (reads_copy k)) (copy_keeps k h entries keeps counted)

    pub both_copied : IsCopied kept identity old before after
    both_copied = record {
      nature = keeps_on before mid after rest.nature settled.nature;
      no_failure = settled.no_failure ∙ rest.no_failure;
      leaves = leaves;
      header = λ k. ap (record_at 0) (reads_copy k) ∙ header_first journal_kind identity long (copied_records k) kept.count before.size (many k) room;
      records = λ h k place less.
          subst (λ (l : List ℕ). IsRecordCopied kept.version identity place old.reads l) (sym (reads_copy k)) (each_copied k h place less);
      behind = λ k.
          ap (drop (32 * (1 + kept.count))) (reads_copy k) ∙ zeros_behind journal_kind identity long (copied_records k) kept.count before.size (many k) room;
      keeps = λ h k entries keeps counted. finds_them one_list after entries (leaves k) (keeps_all k h entries keeps counted);
      sound = λ h k size entries keeps counted. record {
        size = (size.0, size.1, settled.nature.size ∙ rest.nature.size ∙ size.2);
        each_keeps = λ left_bytes left.
            (entries, subst (λ (l : List ℕ). KeepsChecked l entries) (sym ((leaves k left_bytes).0 left)) (keeps_all k h entries keeps counted));
      };
    }

  -- or perhaps they are not
  pub copied_in_part : LeavesOutside 2 before.size before mid → LeavesHeadInTurn mid after → old.honest → (entries : Entries)
      → KeepsIn kept.version old.reads entries → length entries ≡ kept.count → LeavesInPart entries before after
  copied_in_part outside in_turn h entries keeps counted = λ k one unfinished.
      in_part_settled before.size before mid after rest.nature outside rest.leaves entries (copy k)
      (λ again. copy_keeps k h entries keeps counted)
      (in_front journal_kind identity long (tail k) 0 (omega arith) ∙ gate_in journal_kind identity)
      (in_front journal_kind identity long (tail k) 1 (omega arith) ∙ mark_in journal_kind identity)
      (in_front journal_kind identity long (tail k) 2 (omega arith) ∙ third_in journal_kind identity)
      (in_front journal_kind identity long (tail k) 15 (omega arith) ∙ length_in journal_kind identity)
      (λ again. (rest.rest k).3) in_turn k one unfinished
