-- What a disk is that was looked at.
use Rattle.std.proofs.Common.{◌≡◌, ◌≢◌, ◌∙◌, ◌*◌, ℕ, List, arith, inl, inr, refl, subst, sym}
use Rattle.std.specs.Prelude.{Err, IfErr, IfOk, MatchOption, None, Ok, Option, Result, Some}
use Rattle.duk_journal_copy.specs.declared.version.Version.{Version}
use Rattle.duk_journal_copy.specs.declared.version.Version.TheVariants.{One, Two}
use Rattle.duk_service.specs.LeftRecords.{HasFront, IsCut, IsLeftBy, layout_in, layout_of}
use Rattle.duk_service.specs.LogFiles.{DiskKnown, IsDisk}
use Rattle.duk_service.specs.OwnFiles.{IsJournalOf, IsLedgerOf, IsNoOwnDisk, IsNotOwn, IsOnlyRead, IsOwn}
use Rattle.duk_service.specs.declared.left_records.Layout.{Layout}
use Rattle.duk_service.specs.declared.left_records.Layout.TheVariants as layout
use Rattle.duk_service.specs.declared.left_records.RecordFormat.{RecordFormat}
use Rattle.duk_service.specs.declared.left_records.RecordFormat.TheVariants.{Journal, Ledger, Log}
use Rattle.duk_service.specs.declared.left_records.Seen.{Seen}
use Rattle.duk_service.specs.declared.left_records.Seen.TheVariants as seen
use Rattle.duk_service.specs.declared.own_files.OpenFault.{OpenFault}
use Rattle.duk_service.specs.declared.own_files.OpenFault.TheVariants as fault
use Rattle.duk_service.specs.inner.LeftRecords.{IsSeen}
use Rattle.duk_service.specs.inner.OwnFiles.{IsEitherSeen, IsLedgerSeen, IsVersionSeen, version_fault}
use Rattle.duk_store.specs.Disk.{DiskMeaning, DiskState, HasFailed, PreservesBytes, PreservesDisk}
use Rattle.duk_store.specs.declared.fault.StoreFault.{StoreFault}

-- a disk is read, and then once more
pub read_twice : (old mid new : DiskState) → IsOnlyRead old mid → IsOnlyRead mid new → IsOnlyRead old new
read_twice old mid new one two = record {
  nature = record {
    honest = ((λ h. two.nature.honest.0 (one.nature.honest.0 h)), (λ h. one.nature.honest.1 (two.nature.honest.1 h)));
    size = two.nature.size ∙ one.nature.size;
    calm = λ calm. two.nature.calm (one.nature.calm calm);
    disarmed = λ disarmed. two.nature.disarmed (one.nature.disarmed disarmed);
  };
  arming = λ armed. one.arming (two.arming armed);
  bytes = record {
    reads = two.bytes.reads ∙ one.bytes.reads;
    may_leave = λ bytes. (
      (λ left. (one.bytes.may_leave bytes).0 ((two.bytes.may_leave bytes).0 left)),
      (λ left. (two.bytes.may_leave bytes).1 ((one.bytes.may_leave bytes).1 left)),
    );
  };
}

-- no call
pub keeps_none : (disk : DiskState) → PreservesDisk disk disk
keeps_none disk = record { honest = ((λ h. h), (λ h. h)); size = refl; calm = λ calm. calm; disarmed = λ disarmed. disarmed }

pub bytes_none : (disk : DiskState) → PreservesBytes disk disk
bytes_none disk = record { reads = refl; may_leave = λ bytes. ((λ left. left), (λ left. left)) }

-- a failure after a reading without one
pub fails_then : (old mid new : DiskState) (why : StoreFault) → PreservesDisk old mid → mid.failures ≡ old.failures → HasFailed mid new why → HasFailed old new why
fails_then old mid new why nature none failed = record {
  fault_is = failed.fault_is;
  failure = λ same. failed.failure (same ∙ sym none);
  not_calm = λ calm. failed.not_calm (nature.calm calm);
}

-- what is not seen to be left is not
pub not_left : (laid : Layout) (disk : DiskState) (what : Seen) → what ≢ seen.Left → IsSeen laid disk what → disk.honest → ¬ IsLeftBy laid disk.reads
not_left laid disk seen.Left other is h = absurd (other refl)
not_left laid disk seen.Empty other is h = is.1 h
not_left laid disk seen.Cut other is h = is.1 h
not_left laid disk seen.OtherFront other is h = λ left. is.1 h left.front
not_left laid disk (seen.Foreign place) other is h = (is h).not_left

-- what is cut in one version is in the other
cut_in : (one other : Version) (size : ℕ) → IsCut (layout.Journal one) size → IsCut (layout.Journal other) size
cut_in one other size cut = record { some = cut.some; not_whole = cut.not_whole }

-- one without a header, and that version 1 does not leave, is that of no journal
pub neither_version : (mid new : DiskState) (what : Seen) → PreservesDisk mid new → PreservesBytes mid new → IsSeen (layout.Journal Two) mid seen.OtherFront
    → what ≢ seen.Left → IsSeen (layout.Journal One) new what → new.honest → (version : Version) → ¬ IsJournalOf version new.reads
neither_version mid new what nature bytes first left second h One = λ journal. not_left (layout.Journal One) new what left second h journal.1
neither_version mid new what nature bytes first left second h Two = λ journal.
    first.1 (nature.honest.1 h) (subst (λ (l : List ℕ). HasFront (layout.Journal Two) l) bytes.reads journal.front)

-- one that neither version of a ledger leaves is that of none
pub neither_ledger : (mid new : DiskState) (first second : Seen) → PreservesDisk mid new → PreservesBytes mid new → first ≢ seen.Left → IsSeen (layout.Ledger Two) mid first
    → second ≢ seen.Left → IsSeen (layout.Ledger One) new second → new.honest → (version : Version) → ¬ IsLedgerOf version new.reads
neither_ledger mid new first second nature bytes other is other_then is_then h One = λ old. not_left (layout.Ledger One) new second other_then is_then h old.1
neither_ledger mid new first second nature bytes other is other_then is_then h Two = λ ledger.
    not_left (layout.Ledger Two) mid first other is (nature.honest.1 h) (subst (λ (l : List ℕ). IsLeftBy (layout.Ledger Two) l) bytes.reads ledger)

-- one that version 1 leaves, and version 2 does not
pub old_ledger : (mid new : DiskState) (first : Seen) → PreservesDisk mid new → PreservesBytes mid new → first ≢ seen.Left → IsSeen (layout.Ledger Two) mid first
    → IsSeen (layout.Ledger One) new seen.Left → new.honest → IsLedgerOf One new.reads
old_ledger mid new first nature bytes other is is_then h = (
  λ ledger. not_left (layout.Ledger Two) mid first other is (nature.honest.1 h) (subst (λ (l : List ℕ). IsLeftBy (layout.Ledger Two) l) bytes.reads ledger),
  is_then h,
)

-- why one is not opened, by the version that it is seen to be
pub journal_fault : (old new : DiskState) (found : Result (Option Version) StoreFault) → IfOk found (IsVersionSeen new) → IfErr found (HasFailed old new)
    → MatchOption (version_fault found) (new.honest → IsOwn Journal new.reads) (IsNotOwn Journal old new)
journal_fault old new (Ok (Some Two)) seen_so failed = seen_so
journal_fault old new (Ok (Some One)) seen_so failed = seen_so
journal_fault old new (Ok None) seen_so failed = λ h. seen_so h Two
journal_fault old new (Err why) seen_so failed = subst (λ (w : StoreFault). HasFailed old new w) failed.fault_is failed

pub ledger_fault : (old new : DiskState) (found : Result (Option Version) StoreFault) → IfOk found (IsLedgerSeen new) → IfErr found (HasFailed old new)
    → MatchOption (version_fault found) (new.honest → IsOwn Ledger new.reads) (IsNotOwn Ledger old new)
ledger_fault old new (Ok (Some Two)) seen_so failed = seen_so
ledger_fault old new (Ok (Some One)) seen_so failed = seen_so
ledger_fault old new (Ok None) seen_so failed = λ h. seen_so h Two
ledger_fault old new (Err why) seen_so failed = subst (λ (w : StoreFault). HasFailed old new w) failed.fault_is failed

-- what is seen at first is what is seen, unless its first record is another
pub seen_first : (format : RecordFormat) (disk : DiskState) (what : Seen) → what ≢ seen.OtherFront → IsSeen (layout_of format) disk what → IsEitherSeen format disk what
seen_first Log disk seen.Left front is = is
seen_first Journal disk seen.Left front is = λ h. (Two, is h)
seen_first Ledger disk seen.Left front is = λ h. (Two, is h)
seen_first format disk seen.Empty front is = is.0
seen_first format disk seen.Cut front is = is.0
seen_first format disk seen.OtherFront front is = absurd (front refl)
seen_first format disk (seen.Foreign place) front is = λ h. inl (is h)

-- what is cut in version 1 of a ledger is in version 2
cut_later : (size : ℕ) → IsCut (layout.Ledger One) size → IsCut (layout.Ledger Two) size
cut_later size cut = record {
  some = cut.some;
  not_whole = λ whole. cut.not_whole (2 * whole.0, omega (arith, whole.1), omega (arith, whole.2));
}

-- and what is seen then is
pub seen_second : (format : RecordFormat) (mid new : DiskState) (what : Seen) → PreservesDisk mid new → PreservesBytes mid new → IsSeen (layout_of format) mid seen.OtherFront
    → IsSeen (layout_in format One) new what → IsEitherSeen format new what
seen_second format mid new what nature bytes first second = second_of format what no_header second
  where
    no_header : new.honest → ¬ HasFront (layout_of format) new.reads
    no_header h = λ front. first.1 (nature.honest.1 h) (subst (λ (l : List ℕ). HasFront (layout_of format) l) bytes.reads front)

    none : (format : RecordFormat) → (new.honest → ¬ HasFront (layout_of format) new.reads) → (new.honest → ¬ HasFront (layout_in format One) new.reads) → new.honest
        → (version : Version) → ¬ HasFront (layout_in format version) new.reads
    none format header other h One = other h
    none format header other h Two = header h

    second_of : (format : RecordFormat) (what : Seen) → (new.honest → ¬ HasFront (layout_of format) new.reads) → IsSeen (layout_in format One) new what → IsEitherSeen format new what
    second_of Log seen.Left header is = is
    second_of Journal seen.Left header is = λ h. (One, (header h, is h))
    second_of Ledger seen.Left header is = λ h. (One, (λ left. header h left.front, is h))
    second_of format seen.Empty header is = is.0
    second_of Log seen.Cut header is = is.0
    second_of Journal seen.Cut header is = cut_in One Two new.size is.0
    second_of Ledger seen.Cut header is = cut_later new.size is.0
    second_of format seen.OtherFront header is = none format header is.1
    second_of format (seen.Foreign place) header is = λ h. inr (header h, is h)

-- why a disk is not opened
pub not_own : {D : Type 0} (format : RecordFormat) (meaning : DiskMeaning D) (known : DiskKnown D) (opened disk : D) (why : OpenFault) → IsDisk known opened
    → IsOnlyRead (meaning.state_of opened) (meaning.state_of disk) → IsNotOwn format (meaning.state_of opened) (meaning.state_of disk) why → IsNoOwnDisk format meaning known why
not_own format meaning known opened disk fault.Unopened is_opened read none = absurd none
not_own format meaning known opened disk fault.Failed is_opened read none = (disk, record { opened = opened; is_opened = is_opened; only_read = read; is = none })
not_own format meaning known opened disk fault.Foreign is_opened read none = (disk, record { opened = opened; is_opened = is_opened; only_read = read; is = none })
not_own format meaning known opened disk fault.OldVersion is_opened read none = (disk, record { opened = opened; is_opened = is_opened; only_read = read; is = none })
