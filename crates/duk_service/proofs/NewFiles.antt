-- What is known of a disk that a new file is made of.
use Rattle.std.proofs.Common.{◌≡◌, ◌≢◌, ◌∙◌, ◌+◌, ◌-◌, ◌<◌, ◌≤◌, ◌^◌, ◌++◌, ℕ, List, [], ap, arith, drop, inl, length, refl, replicate, subst, sym}
use Rattle.std.proofs.lemmas.List.{get_or-take}
use Rattle.std.specs.Prelude.{slice_index}
use Rattle.duk_journal.specs.Header.{IsHeader, header_of}
use Rattle.duk_journal.specs.RecordFormat.{IsOpen, record_at}
use Rattle.duk_journal_copy.specs.Blank.{begun_bytes}
use Rattle.duk_ledger.specs.IssuedFormat.{ledger_kind}
use Rattle.duk_ledger.specs.Ledger.{KeepsIssues}
use Rattle.duk_journal_copy.specs.InPart.{IsNoJournal, IsUnfinished}
use Rattle.duk_journal_copy.specs.declared.version.Version.TheVariants.{One, Two}
use Rattle.duk_store.specs.RecordFormat.{HasRecordNumber}
use Rattle.duk_store.specs.RecordFormat.{record_at as log_record_at}
use Rattle.duk_service.specs.OwnFiles.{BeginAsNone}
use Rattle.duk_service.specs.declared.left_records.RecordFormat.TheVariants as kind
use Rattle.duk_service.specs.NewFile.{IsLeftInPart, IsNoLedger, IsWrittenAnew, KeepsNothingYet}
use Rattle.duk_service.specs.declared.new_file.NewFile.{NewFile}
use Rattle.duk_service.specs.declared.new_file.NewFile.TheVariants.{Journal, Ledger, Log}
use Rattle.duk_service.specs.inner.NewFile.{BeginsAs, IsSizeOf}
use Rattle.duk_store.specs.Disk.{DiskState}

-- one that is written anew keeps nothing
pub nothing_yet : ((kind identity : ℕ) → length (header_of kind identity) ≡ 32) → (new : NewFile) (old last : DiskState) → IsSizeOf new old.size → IsWrittenAnew new old last → old.honest → KeepsNothingYet new last
nothing_yet long Log old last size written h = record {
  size = (size.0, size.1, written.nature.size ∙ size.2);
  zeros = λ bytes. (
    (λ left. (written.zeros h bytes).0 left ∙ ap (λ (n : ℕ). replicate n 0) (sym written.nature.size)),
    (λ is. (written.zeros h bytes).1 (is ∙ ap (λ (n : ℕ). replicate n 0) written.nature.size)),
  );
}
nothing_yet long (Journal identity) old last size written h = written.fresh h (1 + size.0, omega arith, size.2)
nothing_yet long (Ledger identity) old last size written h =
    let sizes : last.size - length (header_of ledger_kind identity) ≡ old.size - 32 = omega (arith, long ledger_kind identity, written.nature.size) in
    let is : last.reads ≡ header_of ledger_kind identity ++ replicate (last.size - length (header_of ledger_kind identity)) 0 =
    written.reads h ∙ ap (λ (n : ℕ). header_of ledger_kind identity ++ replicate n 0) (sym sizes) in
    record {
      identity_fits = written.identity_fits;
      fresh = record {
        size = (1 + size.0, omega arith, written.nature.size ∙ size.2);
        header_is = record { whole = long ledger_kind identity ∙ omega arith; header_is = λ has. (identity, written.identity_fits, refl) };
        fresh = λ bytes. (λ left. (written.leaves h bytes).0 left ∙ is, λ same. (written.leaves h bytes).1 (same ∙ sym is));
      };
    }

-- bytes that begin with no header, and whose open first record has no number of a log, are those of no ledger
pub begins_no_ledger : ((kind : ℕ) (bytes : List ℕ) → slice_index bytes 1 ≢ 0xD5 → ¬ IsHeader kind (record_at 0 bytes))
    → ((bytes : List ℕ) → slice_index bytes 15 ≡ 32 → ¬ HasRecordNumber (log_record_at 0 bytes))
    → (bytes : List ℕ) → slice_index bytes 0 ≡ 1 → slice_index bytes 1 ≢ 0xD5 → slice_index bytes 15 ≡ 32 → IsNoLedger bytes
begins_no_ledger unheaded unnumbered bytes gate mark behind_number = record {
  keeps_none = λ issues keeps. unheaded ledger_kind bytes mark (keeps.header (omega arith));
  begins_none = none;
}
  where
    none : BeginAsNone kind.Ledger bytes
    none One front = unnumbered bytes behind_number (front (get_or-take 16 (drop 0 bytes) 0 0 (omega arith) ∙ gate))
    none Two header = unheaded ledger_kind bytes mark header

-- a ledger that is begun keeps nothing
pub begun_ledger : ((size identity : ℕ) → 32 ≤ size → record_at 0 (begun_bytes ledger_kind identity size) ≡ header_of ledger_kind identity)
    → ((size identity later : ℕ) → 32 ≤ size → 1 ≤ later → ¬ IsOpen (record_at later (begun_bytes ledger_kind identity size)))
    → (identity size : ℕ) → identity < 2 ^ 64 → 32 ≤ size → KeepsIssues (begun_bytes ledger_kind identity size) []
begun_ledger header closed identity size fits room = record {
  header = λ has. (identity, fits, header size identity room);
  listed = λ later past. closed size identity later room (omega (arith, past));
}

-- one that is not written is as it was made
pub left_as_made : ((bytes : List ℕ) → IsUnfinished bytes → IsNoJournal bytes)
    → ((kind : ℕ) (bytes : List ℕ) → slice_index bytes 1 ≢ 0xD5 → ¬ IsHeader kind (record_at 0 bytes))
    → ((bytes : List ℕ) → slice_index bytes 15 ≡ 32 → ¬ HasRecordNumber (log_record_at 0 bytes))
    → (new : NewFile) (disk : DiskState) → BeginsAs new disk → IsLeftInPart new disk disk
left_as_made unfinished unheaded unnumbered Log disk begins = tt
left_as_made unfinished unheaded unnumbered (Journal identity) disk begins = λ h size bytes left.
    let begun = begins h size in
    inl (unfinished bytes (subst (λ (l : List ℕ). IsUnfinished l) (sym ((begun.0 bytes).0 left)) begun.1))
left_as_made unfinished unheaded unnumbered (Ledger identity) disk begins = λ h size bytes left.
    let begun = begins h size in
    let first : IsUnfinished bytes = subst (λ (l : List ℕ). IsUnfinished l) (sym ((begun.0 bytes).0 left)) begun.1 in
    inl (begins_no_ledger unheaded unnumbered bytes first.gate first.mark first.behind_number)
