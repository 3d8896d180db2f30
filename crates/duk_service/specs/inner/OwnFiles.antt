-- What only private functions and proofs say beside `OwnFiles.antt`: this project's own.
use Rattle.std.specs.Prelude.{◌≡◌, Err, None, Ok, Option, Result, Some}
use Rattle.duk_journal_copy.specs.declared.version.Version.{Version}
use Rattle.duk_journal_copy.specs.declared.version.Version.TheVariants.{One, Two}
use Rattle.duk_service.specs.LeftRecords.{IsCut, layout_of}
use Rattle.duk_service.specs.OwnFiles.{BeginAsNone, IsEither, IsJournalOf, IsLedgerOf, IsStrangeAt}
use Rattle.duk_service.specs.declared.left_records.RecordFormat.{RecordFormat}
use Rattle.duk_service.specs.declared.own_files.OpenFault.{OpenFault}
use Rattle.duk_service.specs.declared.own_files.OpenFault.TheVariants.{Failed, Foreign, OldVersion}
use Rattle.duk_service.specs.declared.left_records.Seen.{Seen}
use Rattle.duk_service.specs.declared.left_records.Seen.TheVariants as seen
use Rattle.duk_store.specs.Disk.{DiskState}
use Rattle.duk_store.specs.declared.fault.StoreFault.{StoreFault}

-- the version of the journal that left the bytes of an honest disk, where one did
abbrev pub IsVersionSeen : DiskState → Option Version → Type 0
IsVersionSeen disk (Some version) = disk.honest → IsJournalOf version disk.reads
IsVersionSeen disk None = disk.honest → (version : Version) → ¬ IsJournalOf version disk.reads

-- the same of a ledger
abbrev pub IsLedgerSeen : DiskState → Option Version → Type 0
IsLedgerSeen disk (Some version) = disk.honest → IsLedgerOf version disk.reads
IsLedgerSeen disk None = disk.honest → (version : Version) → ¬ IsLedgerOf version disk.reads

-- why a disk is not opened that is seen to be of a version, or of none, or of which a step failed
abbrev pub version_fault : Result (Option Version) StoreFault → Option OpenFault
version_fault (Ok (Some Two)) = None
version_fault (Ok (Some One)) = Some OldVersion
version_fault (Ok None) = Some Foreign
version_fault (Err why) = Some Failed

-- what the bytes of a disk are seen to be, which are looked at as those of version 1 where they have no
-- header; of its bytes something is said where it is honest
abbrev pub IsEitherSeen : RecordFormat → DiskState → Seen → Type 0
IsEitherSeen format disk seen.Left = disk.honest → IsEither format disk.reads
IsEitherSeen format disk seen.Empty = disk.size ≡ 0
IsEitherSeen format disk seen.Cut = IsCut (layout_of format) disk.size
IsEitherSeen format disk seen.OtherFront = disk.honest → BeginAsNone format disk.reads
IsEitherSeen format disk (seen.Foreign place) = disk.honest → IsStrangeAt format place disk.reads
