-- What `new-journal`, `new-ledger`, `copy-journal` and `copy-ledger` make, under an identity that is
-- drawn first (this project's own).
use Rattle.std.specs.Prelude.{◌≡◌, ◌⊎◌, ℕ, List}
use Rattle.duk_program.specs.Random.{IsIdentityDrawn, IsIdentityUndrawn}
use Rattle.duk_program.specs.declared.fault.Fault.{Fault}
use Rattle.duk_program.specs.declared.fault.Fault.TheVariants as fault
use Rattle.duk_service.specs.CopyJournal.{HasCopiedJournal, IsCopyJournalRefused}
use Rattle.duk_service.specs.CopyLedger.{HasCopiedLedger, IsCopyLedgerRefused}
use Rattle.duk_service.specs.Files.{FileKnown}
use Rattle.duk_service.specs.LogFiles.{DiskKnown, MakingKnown}
use Rattle.duk_service.specs.NewFile.{HasMadeFile, IsNewFileRefused}
use Rattle.duk_service.specs.declared.left_records.RecordFormat.TheVariants as format
use Rattle.duk_service.specs.declared.new_file.NewFile.TheVariants.{Journal, Ledger}
use Rattle.duk_store.specs.Disk.{DiskMeaning}

-- an identity is drawn, and this came of it
pub record IsUnderIdentity (random : FileKnown) (Came : ℕ → Type 0) : Type 0 where
  pub identity : ℕ
  pub drawn : IsIdentityDrawn random identity
  pub came : Came identity

-- it is refused by this cause, which is told so
pub record IsRefusedBy {F : Type 0} (told : F → Fault) (Refused : F → Type 0) (why : Fault)
    : Type 0 where
  pub cause : F
  pub why_is : why ≡ told cause
  pub refused : Refused cause

-- none is drawn, or one is, under which it is refused by a cause that is told so
abbrev pub IsRefusedUnderIdentity : FileKnown → {F : Type 0} → (F → Fault) → (ℕ → F → Type 0) → Fault
    → Type 0
IsRefusedUnderIdentity random told Refused why =
    IsRefusedBy (λ cause. fault.Identity cause) (IsIdentityUndrawn random) why
    ⊎ IsUnderIdentity random (λ identity. IsRefusedBy told (Refused identity) why)

-- a journal of so many records as a text says is made
abbrev pub IsNewJournalMade : {D : Type 0} → DiskMeaning D → FileKnown → MakingKnown D → List ℕ → Type 0
IsNewJournalMade meaning random making text =
    IsUnderIdentity random (λ identity. HasMadeFile (Journal identity) meaning making text)

-- why none is
abbrev pub IsNewJournalUnmade : {D : Type 0} → DiskMeaning D → FileKnown → MakingKnown D → List ℕ
    → Fault → Type 0
IsNewJournalUnmade meaning random making text = IsRefusedUnderIdentity random
    (λ cause. fault.NewFile format.Journal cause)
    (λ identity. IsNewFileRefused (Journal identity) meaning making text)

-- a ledger of so many records as a text says is made
abbrev pub IsNewLedgerMade : {D : Type 0} → DiskMeaning D → FileKnown → MakingKnown D → List ℕ → Type 0
IsNewLedgerMade meaning random making text =
    IsUnderIdentity random (λ identity. HasMadeFile (Ledger identity) meaning making text)

-- why none is
abbrev pub IsNewLedgerUnmade : {D : Type 0} → DiskMeaning D → FileKnown → MakingKnown D → List ℕ
    → Fault → Type 0
IsNewLedgerUnmade meaning random making text = IsRefusedUnderIdentity random
    (λ cause. fault.NewFile format.Ledger cause)
    (λ identity. IsNewFileRefused (Ledger identity) meaning making text)

-- a journal is copied
abbrev pub IsCopyMade : {D : Type 0} → DiskMeaning D → FileKnown → DiskKnown D → MakingKnown D → Type 0
IsCopyMade meaning random old making =
    IsUnderIdentity random (λ identity. HasCopiedJournal identity meaning old making)

-- why none is
abbrev pub IsCopyUnmade : {D : Type 0} → DiskMeaning D → FileKnown → DiskKnown D → MakingKnown D
    → Fault → Type 0
IsCopyUnmade meaning random old making =
    IsRefusedUnderIdentity random (λ cause. fault.CopyJournal cause)
    (λ identity. IsCopyJournalRefused identity meaning old making)

-- a ledger is copied
abbrev pub IsLedgerCopyMade : {D : Type 0} → DiskMeaning D → FileKnown → DiskKnown D → MakingKnown D
    → Type 0
IsLedgerCopyMade meaning random old making =
    IsUnderIdentity random (λ identity. HasCopiedLedger identity meaning old making)

-- why none is
abbrev pub IsLedgerCopyUnmade : {D : Type 0} → DiskMeaning D → FileKnown → DiskKnown D → MakingKnown D
    → Fault → Type 0
IsLedgerCopyUnmade meaning random old making =
    IsRefusedUnderIdentity random (λ cause. fault.CopyLedger cause)
    (λ identity. IsCopyLedgerRefused meaning old making)
