-- What is known of a journal that is checked, and then copied.
use Rattle.std.proofs.Common.{◌≡◌, ◌∙◌, ◌+◌, ◌*◌, ◌≤◌, ap, arith, ℕ, List, inl, inr, length, refl, subst, sym, true}
use Rattle.std.specs.Prelude.{◌⊎◌}
use Rattle.duk_journal_copy.specs.Copy.{IsCopied, IsRecordCopied}
use Rattle.duk_journal_copy.specs.Version.{JournalRecords, KeepsIn, format_of, journal_records_meaning, new_journal_records}
use Rattle.duk_journal_copy.specs.declared.copy.Kept.{Kept}
use Rattle.duk_journal_copy.specs.declared.version.Version.{Version}
use Rattle.duk_journal_copy.specs.declared.version.Version.TheVariants.{One, Two}
use Rattle.duk_store.specs.DiskRecords.{IsSoundDisk, MayFindItems, are_running, count_in}
use Rattle.duk_journal.specs.Groups.{Entries}
use Rattle.duk_journal_host.specs.Check.{IsChecked}
use Rattle.duk_journal_host.specs.declared.check.Checked.{Checked}
use Rattle.duk_service.specs.CopyJournal.{HasCopiedJournal, HasKept, IsCopyJournalRefused, IsNoSize, IsNoneOrCopy, IsOldChecked, IsOtherJournal, Keeps, copy_size}
use Rattle.duk_service.specs.LogFiles.{DiskKnown, IsDisk, MakingKnown}
use Rattle.duk_service.specs.NewFile.{IsUnmade}
use Rattle.duk_service.specs.OwnFiles.{IsJournalDisk}
use Rattle.duk_service.proofs.LeftDisks.{left_read_over}
use Rattle.duk_service.specs.declared.copy_journal.CopyJournalFault.{CopyJournalFault}
use Rattle.duk_service.specs.declared.copy_journal.CopyJournalFault.TheVariants as fault
use Rattle.duk_service.specs.declared.copy_journal.Source.{Source}
use Rattle.duk_service.specs.inner.CopyJournal.{CopyNotMade, CopyNotWritten, IsCopyMade, IsNoneOrKept, IsNotChecked, IsNotKept, IsOldUnopened, NewNotKept, kept_in}
use Rattle.duk_store.specs.Disk.{DiskMeaning, DiskState, HasFailed, LeavesReads, PreservesBytes, PreservesDisk}
use Rattle.duk_store.specs.declared.fault.StoreFault.TheVariants.{Device}

-- why a made disk is not written, or what was copied not read
pub not_made : {D : Type 0} (source : Source) (identity : ℕ) (meaning : DiskMeaning D) (making : MakingKnown D) (size : ℕ) (old old' : DiskState) (made last : D) (why : CopyJournalFault)
    → IsDisk (making.disk size) made → CopyNotWritten source size old old' (meaning.state_of made) (meaning.state_of last) why
    → IsNoneOrKept (kept_in source) old (meaning.state_of made) (meaning.state_of last)
    → CopyNotMade source identity meaning making size old old' why
not_made source identity meaning making size old old' made last fault.Failed is_made failed left =
    record { made = made; last = last; is_made = is_made; failed = failed; left_is = left }
not_made source identity meaning making size old old' made last fault.Unmade is_made (inl other) left =
    inl (inr (record { made = made; last = last; is_made = is_made; failed = inl other; left_is = left }))
not_made source identity meaning making size old old' made last fault.Unmade is_made (inr failed) left =
    inl (inr (record { made = made; last = last; is_made = is_made; failed = inr (inl failed); left_is = left }))
not_made source identity meaning making size old old' made last fault.OutOfMemory is_made failed left = absurd failed
not_made source identity meaning making size old old' made last fault.Unopened is_made failed left = absurd failed

-- why a written disk is not kept
pub not_kept : {D : Type 0} (source : Source) (identity : ℕ) (meaning : DiskMeaning D) (making : MakingKnown D) (size : ℕ) (old old' : DiskState) (made filled : D) (why : CopyJournalFault)
    → IsDisk (making.disk size) made → IsCopied (kept_in source) identity old (meaning.state_of made) (meaning.state_of filled)
    → NewNotKept meaning making.folder source.checked filled why → CopyNotMade source identity meaning making size old old' why
not_kept source identity meaning making size old old' made filled fault.OutOfMemory is_made written refused =
    record {
      made = made;
      filled = filled;
      last = refused.last.disk;
      is_made = is_made;
      written = written;
      left_is = left_read_over (kept_in source) identity old (meaning.state_of made) (meaning.state_of filled) (meaning.state_of refused.last.disk) refused.last.format refused.last.kept refused.version written refused.read_over;
    }
not_kept source identity meaning making size old old' made filled fault.Unmade is_made written refused =
    let left = left_read_over (kept_in source) identity old (meaning.state_of made) (meaning.state_of filled) (meaning.state_of refused.last.disk) refused.last.format refused.last.kept refused.version written refused.read_over in
    elim refused.cause [
      | inl other ↦ inr (record { made = made; filled = filled; last = refused.last; is_made = is_made; written = written; other = other; left_is = left })
      | inr unsynced ↦ inl (inr (record { made = made; last = refused.last.disk; is_made = is_made; failed = inr (inr unsynced); left_is = left }))
    ]
not_kept source identity meaning making size old old' made filled fault.Failed is_made written refused = absurd refused.cause
not_kept source identity meaning making size old old' made filled fault.Unopened is_made written refused = absurd refused.cause

-- what is copied of a disk is copied of it as it is read later
copied_from : (kept : Kept) (identity : ℕ) (old later before after : DiskState) → PreservesDisk old later → PreservesBytes old later → IsCopied kept identity old before after
    → IsCopied kept identity later before after
copied_from kept identity old later before after nature bytes copied = record {
  nature = copied.nature;
  no_failure = copied.no_failure;
  leaves = copied.leaves;
  header = copied.header;
  records = λ h k place less.
      subst (λ (all : List ℕ). IsRecordCopied kept.version identity place all after.reads) (sym bytes.reads) (copied.records (nature.honest.1 h) k place less);
  behind = copied.behind;
  keeps = λ h k entries keeps counted. copied.keeps (nature.honest.1 h) k entries (subst (λ (all : List ℕ). KeepsIn kept.version all entries) bytes.reads keeps) counted;
  sound = λ h k size entries keeps counted. copied.sound (nature.honest.1 h) k size entries (subst (λ (all : List ℕ). KeepsIn kept.version all entries) bytes.reads keeps) counted;
}

-- a checked disk finds what it found before its check, and nothing else
still_finds : {D : Type 0} (meaning : DiskMeaning D) (filled : D) (last : JournalRecords D) (found : Checked) → last.format ≡ Two
    → IsChecked (journal_records_meaning meaning) (new_journal_records filled Two) last found → (meaning.state_of filled).honest
    → (entries : Entries) → Keeps Two meaning filled entries → Keeps Two meaning last.disk entries
still_finds meaning filled last found version checked honest entries keeps =
    subst (λ (it : Entries). Keeps Two meaning last.disk it) ((keeps checked.entries).0 (checked.journal.was_found honest))
    (subst (λ (v : Version). Keeps v meaning last.disk checked.entries) version (checked.journal.settles.finds honest))

module _ {D : Type 0} (identity : ℕ) (meaning : DiskMeaning D) (known : DiskKnown D) (making : MakingKnown D) (version : Version) (opened : D) (journal : JournalRecords D)
    (disk last : D) (found : Checked) (is_opened : IsJournalDisk version meaning known opened)
    (checked : IsChecked (journal_records_meaning meaning) (new_journal_records opened version) journal found)
    (same_version : journal.format ≡ version) (disk_is : disk ≡ journal.disk) where
  -- what was checked
  abbrev source : Source
  source = record { version = version; checked = found }

  -- how many entries are found
  counted : length checked.entries ≡ found.count
  counted = ap (λ (found : Checked). found.count) checked.told

  -- the disk of the checked journal keeps what is found
  disk_finds : (meaning.state_of opened).honest → Keeps version meaning disk checked.entries
  disk_finds honest =
      subst (λ (d : D). Keeps version meaning d checked.entries) (sym disk_is)
      (subst (λ (v : Version). Keeps v meaning journal.disk checked.entries) same_version (checked.journal.settles.finds honest))

  disk_honest : (meaning.state_of opened).honest → (meaning.state_of disk).honest
  disk_honest honest = subst (λ (d : D). (meaning.state_of d).honest) (sym disk_is) (checked.journal.settles.nature.honest.0 honest)

  was_honest : (meaning.state_of disk).honest → (meaning.state_of opened).honest
  was_honest honest = checked.journal.settles.nature.honest.1 (subst (λ (d : D). (meaning.state_of d).honest) disk_is honest)

  has_kept : PreservesDisk (meaning.state_of disk) (meaning.state_of last) → PreservesBytes (meaning.state_of disk) (meaning.state_of last) → HasKept version meaning opened last checked.entries
  has_kept nature bytes = record {
    honest = (λ honest. nature.honest.0 (disk_honest honest), λ honest. was_honest (nature.honest.1 honest));
    was_found = checked.journal.was_found;
    finds = λ honest other. (
      λ found_now. (disk_finds honest other).0 (found_now.0, (bytes.may_leave found_now.0).0 found_now.1, found_now.2),
      λ same.
          let found_before = (disk_finds honest other).1 same in
          (found_before.0, (bytes.may_leave found_before.0).1 found_before.1, found_before.2),
    );
    new_numbers = checked.new_numbers;
  }

  pub old_checked : PreservesDisk (meaning.state_of disk) (meaning.state_of last) → PreservesBytes (meaning.state_of disk) (meaning.state_of last) → IsOldChecked meaning known
  old_checked nature bytes = record {
    version = version;
    opened = opened;
    last = last;
    entries = checked.entries;
    is_opened = is_opened;
    kept = has_kept nature bytes;
  }

  -- a read of it gives what is kept
  reads_keep : (are_running journal.kept ≡ true → (meaning.state_of disk).honest → LeavesReads (meaning.state_of disk))
      → (meaning.state_of opened).honest → KeepsIn version (meaning.state_of disk).reads checked.entries
  reads_keep one honest =
      let held : MayFindItems (format_of version) (meaning.state_of disk) checked.entries = (disk_finds honest checked.entries).1 refl in
      subst (λ (bytes : List ℕ). KeepsIn version bytes checked.entries) ((one checked.kept.runs (disk_honest honest) held.0).0 held.1) held.2

  -- what is copied of it is copied of it as it was read last
  copied_since : PreservesDisk (meaning.state_of disk) (meaning.state_of last) → PreservesBytes (meaning.state_of disk) (meaning.state_of last)
      → (made filled : D) → IsCopied (kept_in source) identity (meaning.state_of disk) (meaning.state_of made) (meaning.state_of filled)
      → IsCopied (record { version = version; count = length checked.entries }) identity (meaning.state_of last) (meaning.state_of made) (meaning.state_of filled)
  copied_since nature bytes made filled copied =
      subst (λ (count : ℕ). IsCopied (record { version = version; count = count }) identity (meaning.state_of last) (meaning.state_of made) (meaning.state_of filled)) (sym counted)
      (copied_from (kept_in source) identity (meaning.state_of disk) (meaning.state_of last) (meaning.state_of made) (meaning.state_of filled) nature bytes copied)

  pub has_copied : PreservesDisk (meaning.state_of disk) (meaning.state_of last) → PreservesBytes (meaning.state_of disk) (meaning.state_of last)
      → (are_running journal.kept ≡ true → (meaning.state_of disk).honest → LeavesReads (meaning.state_of disk))
      → IsCopyMade source identity meaning making (copy_size version (meaning.state_of opened).size) (meaning.state_of disk)
      → HasCopiedJournal identity meaning known making
  unfolding old_checked
  has_copied nature bytes one copy = record {
    old = old_checked nature bytes;
    made = copy.made;
    filled = copy.filled;
    last = copy.kept_is.last;
    is_made = copy.is_made;
    size_is = copy.written.size_is;
    written = copied_since nature bytes copy.made copy.filled copy.written.copied;
    checked = subst (λ (kept : Checked). IsChecked (journal_records_meaning meaning) (new_journal_records copy.filled Two) copy.kept_is.last kept) (sym checked.told) copy.kept_is.checked;
    finds = λ old_honest new_honest. still_finds meaning copy.filled copy.kept_is.last found copy.kept_is.version copy.kept_is.checked
        (copy.written.copied.nature.honest.0 new_honest) checked.entries
        (copy.written.copied.keeps (disk_honest old_honest) new_honest checked.entries (reads_keep one old_honest) counted);
    sound = λ new_honest.
        subst (λ (v : Version). IsSoundDisk (format_of v) (meaning.state_of copy.kept_is.last.disk)) copy.kept_is.version
        (copy.kept_is.checked.sound (copy.written.copied.nature.honest.0 new_honest));
    folder = copy.synced;
  }

  -- a device step failed after the check
  failed_since : HasFailed (meaning.state_of disk) (meaning.state_of last) Device → HasFailed (meaning.state_of opened) (meaning.state_of last) Device
  failed_since failed = record {
    fault_is = refl;
    failure = λ same. failed.failure (same ∙ sym (subst (λ (d : D). (meaning.state_of d).failures ≡ (meaning.state_of opened).failures) (sym disk_is) checked.journal.settles.no_failure));
    not_calm = λ calm. failed.not_calm (subst (λ (d : D). (meaning.state_of d).calm) (sym disk_is) (checked.journal.settles.nature.calm calm));
  }

  -- or its disk gives other bytes than it did, as no honest one does
  unread_since : (are_running journal.kept ≡ true → (meaning.state_of disk).honest → LeavesReads (meaning.state_of disk))
      → HasFailed (meaning.state_of disk) (meaning.state_of last) Device ⊎ IsNotKept (kept_in source) (meaning.state_of disk)
      → HasFailed (meaning.state_of opened) (meaning.state_of last) Device ⊎ ¬ (meaning.state_of opened).honest
  unread_since one (inl failed) = inl (failed_since failed)
  unread_since one (inr other) = inr (λ honest. other (disk_honest honest) checked.entries (reads_keep one honest) counted)

  -- what is left of a disk that was made, by what was read
  left_copy : (nature : PreservesDisk (meaning.state_of disk) (meaning.state_of last)) (bytes : PreservesBytes (meaning.state_of disk) (meaning.state_of last))
      → (are_running journal.kept ≡ true → (meaning.state_of disk).honest → LeavesReads (meaning.state_of disk))
      → (made left : DiskState) → IsNoneOrKept (kept_in source) (meaning.state_of disk) made left
      → IsNoneOrCopy meaning known (old_checked nature bytes) made left
  unfolding old_checked
  left_copy nature bytes one made left is = λ honest. is (disk_honest honest) checked.entries (reads_keep one honest) counted

  -- a file is made in part
  part_copied : (nature : PreservesDisk (meaning.state_of disk) (meaning.state_of last)) (bytes : PreservesBytes (meaning.state_of disk) (meaning.state_of last))
      → (are_running journal.kept ≡ true → (meaning.state_of disk).honest → LeavesReads (meaning.state_of disk))
      → (size : ℕ) → IsUnmade meaning making size (IsNoneOrKept (kept_in source) (meaning.state_of disk))
      → IsUnmade meaning making size (IsNoneOrCopy meaning known (old_checked nature bytes))
  part_copied nature bytes one size (inl none) = inl none
  part_copied nature bytes one size (inr part) = inr (record {
    made = part.made;
    last = part.last;
    is_made = part.is_made;
    failed = part.failed;
    left_is = left_copy nature bytes one (meaning.state_of part.made) (meaning.state_of part.last) part.left_is;
  })

  -- no file has so many bytes
  pub no_size : PreservesDisk (meaning.state_of disk) (meaning.state_of last) → PreservesBytes (meaning.state_of disk) (meaning.state_of last)
      → IsNoSize (copy_size version (meaning.state_of opened).size) → IsCopyJournalRefused identity meaning known making fault.Unmade
  unfolding old_checked
  no_size nature bytes large = record { old = old_checked nature bytes; unmade = inl large }

  pub not_copied : (why : CopyJournalFault) → PreservesBytes (meaning.state_of disk) (meaning.state_of last)
      → PreservesDisk (meaning.state_of disk) (meaning.state_of last)
      → (are_running journal.kept ≡ true → (meaning.state_of disk).honest → LeavesReads (meaning.state_of disk))
      → CopyNotMade source identity meaning making (copy_size version (meaning.state_of opened).size) (meaning.state_of disk) (meaning.state_of last) why
      → IsCopyJournalRefused identity meaning known making why
  unfolding old_checked
  not_copied fault.OutOfMemory bytes nature one refused = inr (record {
    old = old_checked nature bytes;
    unchecked = record {
      made = refused.made;
      filled = refused.filled;
      last = refused.last;
      is_made = refused.is_made;
      written = copied_since nature bytes refused.made refused.filled refused.written;
      left_is = left_copy nature bytes one (meaning.state_of refused.made) (meaning.state_of refused.last) refused.left_is;
    };
  })
  not_copied fault.Unopened bytes nature one refused = absurd refused
  not_copied fault.Failed bytes nature one refused = inr (inr (record {
    old = old_checked nature bytes;
    made = refused.made;
    last = refused.last;
    is_made = refused.is_made;
    failed = unread_since one refused.failed;
    left_is = left_copy nature bytes one (meaning.state_of refused.made) (meaning.state_of refused.last) refused.left_is;
  }))
  not_copied fault.Unmade bytes nature one (inl unmade) =
      record { old = old_checked nature bytes; unmade = inr (inl (part_copied nature bytes one (copy_size version (meaning.state_of opened).size) unmade)) }
  not_copied fault.Unmade bytes nature one (inr refused) = record {
    old = old_checked nature bytes;
    unmade = inr (inr (record {
      made = refused.made;
      filled = refused.filled;
      last = refused.last;
      is_made = refused.is_made;
      written = copied_since nature bytes refused.made refused.filled refused.written;
      other = subst (λ (kept : Checked). IsOtherJournal (journal_records_meaning meaning) kept (new_journal_records refused.filled Two) refused.last) (sym checked.told) refused.other;
      left_is = left_copy nature bytes one (meaning.state_of refused.made) (meaning.state_of refused.last.disk) refused.left_is;
    }));
  }

-- a journal that is not checked
pub not_checked : {D : Type 0} (identity : ℕ) (meaning : DiskMeaning D) (known : DiskKnown D) (making : MakingKnown D) (version : Version) (opened : D) (journal : JournalRecords D) (why : CopyJournalFault)
    → IsJournalDisk version meaning known opened → IsNotChecked (journal_records_meaning meaning) (new_journal_records opened version) journal why
    → IsCopyJournalRefused identity meaning known making why
not_checked identity meaning known making version opened journal fault.OutOfMemory is_opened refused = inl (version, opened, is_opened)
not_checked identity meaning known making version opened journal fault.Failed is_opened refused =
    inr (inl (record { version = version; opened = opened; last = journal; why = refused.0; is_opened = is_opened; refused = refused.1 }))
not_checked identity meaning known making version opened journal fault.Unopened is_opened refused = absurd refused
not_checked identity meaning known making version opened journal fault.Unmade is_opened refused = absurd refused

-- one that is not opened
pub not_opened : {D : Type 0} (identity : ℕ) (meaning : DiskMeaning D) (known : DiskKnown D) (making : MakingKnown D) (why : CopyJournalFault)
    → IsOldUnopened meaning known why → IsCopyJournalRefused identity meaning known making why
not_opened identity meaning known making fault.Unopened refused = refused
not_opened identity meaning known making fault.Failed refused = inl refused
not_opened identity meaning known making fault.OutOfMemory refused = absurd refused
not_opened identity meaning known making fault.Unmade refused = absurd refused

-- ---- how much room there is

inside_of : (version : Version) (count size : ℕ) → (format_of version).record_length * ((format_of version).headers + count) ≤ size
    → 32 * ((format_of version).headers + count) ≤ size
inside_of One count size inside = inside
inside_of Two count size inside = inside

-- that of what is kept
pub kept_inside : {D : Type 0} (meaning : DiskMeaning D) (version : Version) (old journal : JournalRecords D) (size : ℕ) (found : Checked)
    → IsChecked (journal_records_meaning meaning) old journal found → journal.format ≡ version
    → (are_running journal.kept ≡ true → (format_of journal.format).record_length * ((format_of journal.format).headers + count_in journal.kept) ≤ size)
    → 32 * ((format_of version).headers + found.count) ≤ size
kept_inside meaning version old journal size found checked same inside =
    let counted : count_in journal.kept ≡ found.count = sym checked.kept.counted ∙ ap (λ (found : Checked). found.count) checked.told in
    inside_of version found.count size
    (subst (λ (v : Version). (format_of v).record_length * ((format_of v).headers + found.count) ≤ size) same
    (subst (λ (n : ℕ). (format_of journal.format).record_length * ((format_of journal.format).headers + n) ≤ size) counted (inside checked.kept.runs)))

-- and that of its copy
pub copy_room : (version : Version) (count size : ℕ) → 32 * ((format_of version).headers + count) ≤ size → 32 * (1 + count) ≤ copy_size version size
copy_room One count size inside = omega (arith, inside)
copy_room Two count size inside = inside
