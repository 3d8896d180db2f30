-- What only private functions and proofs say beside `Copy.antt`: this project's own.
use Rattle.std.specs.Prelude.{◌≡◌, ◌+◌, ◌*◌, ◌-◌, ◌<◌, ℕ, List, length}
use Rattle.duk_journal.specs.Header.{journal_kind}
use Rattle.duk_journal.specs.RecordFormat.{record_at}
use Rattle.duk_journal.specs.declared.entry.Entry.{Entry}
use Rattle.duk_journal_copy.specs.Version.{format_of}
use Rattle.duk_journal_copy.specs.declared.convert.Spot.{Spot}
use Rattle.duk_journal_copy.specs.declared.copy.CopyFault.{CopyFault}
use Rattle.duk_journal_copy.specs.declared.copy.CopyFault.TheVariants as fault
use Rattle.duk_journal_copy.specs.declared.copy.Kept.{Kept}
use Rattle.duk_journal_copy.specs.declared.version.Version.{Version}
use Rattle.duk_journal_copy.specs.inner.Convert.{IsConverted, spot_behind}
use Rattle.duk_journal_copy.specs.inner.Head.{HasRestOf}
use Rattle.duk_journal_copy.specs.inner.Rest.{file_bytes}
use Rattle.duk_store.specs.Disk.{DiskState, HasFailed, LeavesReads, PreservesBytes, PreservesDisk, written}
use Rattle.duk_store.specs.Records.{HasContents, identity_in}
use Rattle.duk_store.specs.declared.fault.StoreFault.TheVariants.{Device}

-- the bytes of the old disk stay
pub record StaysRead (old old' : DiskState) : Type 0 where
  pub nature : PreservesDisk old old'
  pub no_failure : old'.failures ≡ old.failures
  pub bytes : PreservesBytes old old'

-- the identity of a disk is read
pub record IsIdentityRead (version : Version) (old new : DiskState) (identity : ℕ) : Type 0 where
  pub no_failure : new.failures ≡ old.failures
  pub is : old.honest → identity ≡ identity_in (format_of version) old.reads

-- so many records say in version 2, from one spot on, what those of a disk say from another on
abbrev pub AreConvertedFrom : Version → Spot → Spot → ℕ → List ℕ → List ℕ → Type 0
AreConvertedFrom version from to count bytes records = (place : ℕ) → place < count
    → IsConverted version (spot_behind from place) (spot_behind to place)
    (record_at (from.place + place) bytes) (record_at place records)

-- so many records are read from one spot on, and say the same in what is written from another on
pub record IsPieceCopied (version : Version) (from to : Spot) (count : ℕ)
    (old old' new new' : DiskState) : Type 0 where
  pub stays : StaysRead old old'
  pub nature : PreservesDisk new new'
  pub no_failure : new'.failures ≡ new.failures
  pub copied : new.honest → (records : List ℕ) × (length records ≡ 32 * count)
      × (old.honest → AreConvertedFrom version from to count old.reads records)
      × (new'.reads ≡ written new.reads (32 * to.place) records)

-- the spots of the entry at a place of a list, on the old disk and on the new one
abbrev pub old_spot : Version → ℕ → ℕ → Spot
old_spot version own place = record { identity = own; place = (format_of version).headers + place }

abbrev pub new_spot : ℕ → ℕ → Spot
new_spot identity place = record { identity = identity; place = 1 + place }

-- the records of a list are copied from one place of it to another
abbrev pub AreRecordsCopied : Version → ℕ → ℕ → ℕ → ℕ → DiskState → DiskState → DiskState → DiskState
    → Type 0
AreRecordsCopied version own identity from to old old' new new' = IsPieceCopied version
    (old_spot version own from) (new_spot identity from) (to - from) old old' new new'

-- all is copied but for the first two bytes, and synced
pub record IsRestCopied (kept : Kept) (own identity : ℕ) (old old' new new' : DiskState) : Type 0 where
  pub stays : StaysRead old old'
  pub nature : PreservesDisk new new'
  pub no_failure : new'.failures ≡ new.failures
  pub rest : new.honest → (records : List ℕ) × (length records ≡ 32 * kept.count)
      × (old.honest → AreConvertedFrom kept.version (old_spot kept.version own 0)
      (new_spot identity 0) kept.count old.reads records)
      × HasRestOf (file_bytes journal_kind identity records new.size) new'.reads
  pub leaves : new.honest → LeavesReads new'

-- one of so many records of a disk, from a spot on, says nothing
abbrev pub IsOneNone : Version → Spot → ℕ → DiskState → Type 0
IsOneNone version from count old = old.honest → (place : ℕ) × (place < count)
    × ((followers : ℕ) (entry : Entry)
    → ¬ HasContents (format_of version) from.identity (from.place + place) followers entry
    (record_at (from.place + place) old.reads))

-- why records are not copied
abbrev pub CauseOf : Version → Spot → ℕ → DiskState → DiskState → DiskState → DiskState → CopyFault
    → Type 0
CauseOf version from count old old' new new' fault.Old = HasFailed old old' Device
CauseOf version from count old old' new new' fault.Changed = IsOneNone version from count old
CauseOf version from count old old' new new' fault.New = HasFailed new new' Device

pub record PieceUncopied (version : Version) (from : Spot) (count : ℕ)
    (old old' new new' : DiskState) (why : CopyFault) : Type 0 where
  pub nature : PreservesDisk old old'
  pub bytes : PreservesBytes old old'
  pub new_nature : PreservesDisk new new'
  pub cause : CauseOf version from count old old' new new' why

abbrev pub RecordsUncopied : Kept → ℕ → DiskState → DiskState → DiskState → DiskState → CopyFault
    → Type 0
RecordsUncopied kept own old old' new new' why = PieceUncopied kept.version
    (old_spot kept.version own 0) kept.count old old' new new' why
