-- What is known of a ledger in the form of a log that is brought up, and then copied.
use Rattle.std.proofs.Common.{◌≡◌, ◌≢◌, ◌∙◌, ◌+◌, ◌*◌, ◌-◌, ◌/◌, ◌^◌, ◌≤◌, ◌∷◌, Bool, ap, arith, drop, ℕ, List, [], inl, inr, length, length-drop, refl, subst, sym, true}
use Rattle.std.proofs.lemmas.List.{length-map, length-take}
use Rattle.std.specs.Prelude.{◌⊎◌, if◌then◌else◌, slice_index}
use Rattle.duk_journal_copy.specs.InPart.{IsUnfinished}
use Rattle.duk_journal_copy.specs.Ledger.{AreInitial, IsLedgerCopied, LeavesIssuesInPart, issue_of, issues_of}
use Rattle.duk_journal_copy.specs.declared.version.Version.TheVariants.{One, Two}
use Rattle.duk_ledger.specs.IssuedFormat.{issued_format}
use Rattle.duk_ledger.specs.Ledger.{KeepsIssues}
use Rattle.duk_service.specs.CopyLedger.{HasCopiedLedger, IsCopyLedgerRefused, IsLedgerDisk, IsNoLedgerOrCopy, IsOldLedger, ledger_copy_size, old_ledger_meaning, old_ledger_state}
use Rattle.duk_service.specs.LogFiles.{BeginsUnfinished, DiskKnown, IsDisk, MakingKnown}
use Rattle.duk_service.specs.NewFile.{IsNoLedger, IsUnmade}
use Rattle.duk_service.specs.OwnFiles.{IsLedgerOf}
use Rattle.duk_service.specs.declared.copy_ledger.CopyLedgerFault.{CopyLedgerFault}
use Rattle.duk_service.specs.declared.copy_ledger.CopyLedgerFault.TheVariants as fault
use Rattle.duk_service.specs.inner.CopyLedger.{IsLedgerMade, IsNoneOrLedger, IsNotRead, IsNotUp, IsOldUnopened, IsUp, LedgerNotKept, LedgerNotMade}
use Rattle.duk_store.specs.Disk.{DiskMeaning, DiskState, LeavesItsSize, LeavesWithin, PreservesBytes, ReadsMayStay}
use Rattle.duk_store.specs.DiskLog.{DiskLogOf, new_disk_log}
use Rattle.duk_store.specs.DiskRecords.{MayFindItems, are_running, count_in, records_meaning}
use Rattle.duk_store.specs.Listed.{ListRestartFailed, ListRestarted, length_of, room_of}
use Rattle.duk_store.specs.Log.{Numbers}
use Rattle.duk_store.specs.LogFormat.{log_format}
use Rattle.duk_store.specs.Records.{AreKeptFrom, IsRecordsSize, record_at}
use Rattle.duk_store.specs.StoreState.{FindsOnly, StoreState}
use Rattle.duk_store.specs.declared.fault.StoreFault.{StoreFault}
use Rattle.duk_store.specs.declared.log_format.LogFormat.{LogFormat}
use Rattle.duk_tree.specs.Serial.{Serial}
use Rattle.duk_service.proofs.OwnLedger.{own_ledger}

-- ---- what is left of a disk that was made

-- one that is not written is as it was made
pub left_unwritten : ((bytes : List ℕ) → slice_index bytes 0 ≡ 1 → slice_index bytes 1 ≢ 0xD5 → slice_index bytes 15 ≡ 32 → IsNoLedger bytes) → (old : StoreState Numbers)
    (made : DiskState) → BeginsUnfinished made → IsNoneOrLedger old made made
left_unwritten none old made begins = λ honest numbers finds h size bytes left.
    let begun = begins h size in
    let first : IsUnfinished bytes = subst (λ (l : List ℕ). IsUnfinished l) (sym ((begun.0 bytes).0 left)) begun.1 in
    inl (none bytes first.gate first.mark first.behind_number)

-- one that is written in part, or whole
pub left_written : ((bytes : List ℕ) → slice_index bytes 0 ≡ 1 → slice_index bytes 1 ≢ 0xD5 → slice_index bytes 15 ≡ 32 → IsNoLedger bytes) → (old : StoreState Numbers)
    (made last : DiskState) → BeginsUnfinished made
    → ((numbers : Numbers) → FindsOnly old numbers → old.honest → LeavesIssuesInPart (issues_of numbers) made last)
    → IsNoneOrLedger old made last
left_written none old made last begins part = λ honest numbers finds h size bytes left.
    let begun = begins h size in
    elim (part numbers finds honest h begun.0 begun.1 bytes left) [
      | inl unfinished ↦ inl (none bytes unfinished.gate unfinished.mark unfinished.behind_number)
      | inr keeps ↦ inr keeps
    ]

-- ---- why none is made

pub ledger_not_made : {D : Type 0} (meaning : DiskMeaning D) (making : MakingKnown D) (size : ℕ) (old old' : StoreState Numbers) (made last : D) (why : CopyLedgerFault)
    → IsDisk (making.disk size) made → LedgerNotKept making.folder size old old' (meaning.state_of made) (meaning.state_of last) why
    → IsNoneOrLedger old (meaning.state_of made) (meaning.state_of last) → LedgerNotMade meaning making size old old' why
ledger_not_made meaning making size old old' made last fault.Failed is_made refused left =
    record { made = made; last = last; is_made = is_made; cause = refused; left_is = left }
ledger_not_made meaning making size old old' made last fault.Unmade is_made refused left =
    inr (record { made = made; last = last; is_made = is_made; failed = refused; left_is = left })
ledger_not_made meaning making size old old' made last fault.OutOfMemory is_made refused left = absurd refused
ledger_not_made meaning making size old old' made last fault.Unopened is_made refused left = absurd refused
ledger_not_made meaning making size old old' made last fault.NewVersion is_made refused left = absurd refused

-- ---- what is brought up

-- numbers that are kept from a place on are inside the bytes
log_fits : (numbers : Numbers) (place : ℕ) (bytes : List ℕ) → 16 * place ≤ length bytes → AreKeptFrom log_format numbers 0 place bytes → 16 * (place + length numbers) ≤ length bytes
log_fits [] place bytes before kept = omega (arith, before)
log_fits (number ∷ numbers) place bytes before kept =
    let inside : 16 * place + 16 ≤ length bytes =
    omega (arith, kept.2.whole, length-drop 1 (record_at 16 place bytes), length-take 16 (drop (16 * place) bytes), length-drop (16 * place) bytes) in
    let later : AreKeptFrom log_format numbers 0 (place + 1) bytes = subst (λ (n : ℕ). AreKeptFrom log_format numbers n (place + 1) bytes) kept.2.alone kept.3 in
    let fits : 16 * (place + 1 + length numbers) ≤ length bytes = log_fits numbers (place + 1) bytes (omega (arith, inside)) later in
    omega (arith, fits)

-- records of twice as many bytes
doubled_room : (count size records : ℕ) → size ≡ 16 * records → 16 * count ≤ size → 32 * (1 + (count + (size / 16 - 0 - count))) ≡ 2 * size + 32
doubled_room count size records is inside =
    let whole : size / 16 ≡ records = omega (arith, is) in
    omega (arith, whole, is, inside)

pub comes_up : {D V : Type 0} (meaning : DiskMeaning D) (old new : DiskLogOf D) (takes : V → Serial → V → Type 0) (visitor visited : V) (count : ℕ)
    → LeavesItsSize (meaning.state_of new.disk) → (meaning.state_of new.disk).size ≡ (meaning.state_of old.disk).size
    → ListRestarted (records_meaning meaning (λ (format : LogFormat). log_format)) takes old new visitor visited count
    → count_in new.kept ≡ count → LeavesWithin (meaning.state_of old.disk) (meaning.state_of new.disk) → IsUp meaning old new
comes_up meaning old new takes visitor visited count its_size same_size up counted restored = record {
  numbers = up.taken.items;
  restarted = record {
    settles = record { nature = up.nature; no_failure = up.no_failure; runs = up.runs; finds = λ honest. (up.taken.found honest).finds };
    was_found = λ honest. (up.taken.found honest).was_found;
  };
  counted = up.taken.counted ∙ sym counted;
  restored = restored;
  doubled = doubled;
}
  where
    last : DiskState
    last = meaning.state_of new.disk

    doubled : (meaning.state_of old.disk).honest → ledger_copy_size meaning new ≡ 2 * (meaning.state_of old.disk).size + 32
    doubled honest =
        let now : last.honest = up.nature.honest.0 honest in
        let held : MayFindItems log_format last up.taken.items = ((up.taken.found honest).finds up.taken.items).1 refl in
        let fits : 16 * (0 + length up.taken.items) ≤ length held.0 = log_fits up.taken.items 0 held.0 (omega arith) held.2.listed in
        let size : length held.0 ≡ last.size = its_size now held.0 held.1 in
        let inside : 16 * count_in new.kept ≤ last.size = omega (arith, fits, size, up.taken.counted, counted) in
        let whole = (up.sound honest).size in
        let copied : 32 * (1 + (count_in new.kept + (last.size / 16 - 0 - count_in new.kept))) ≡ 2 * last.size + 32 = doubled_room (count_in new.kept) last.size whole.0 whole.2 inside in
        ap (λ (running : Bool). 32 * (1 + ((if running then count_in new.kept else 0) + (if running then last.size / 16 - 0 - count_in new.kept else 0)))) up.runs
        ∙ copied ∙ ap (λ (size : ℕ). 2 * size + 32) same_size

pub comes_not_up : {D V : Type 0} (meaning : DiskMeaning D) (old new : DiskLogOf D) (takes : V → Serial → V → Type 0) (visitor : V) (why : StoreFault)
    → ListRestartFailed (records_meaning meaning (λ (format : LogFormat). log_format)) takes (λ before item fault. ⊥) old new visitor why
    → IsNotUp meaning old new fault.Failed
comes_not_up meaning old new takes visitor why failed = (
  why,
  record {
    stops = failed.stops;
    fault_is = elim failed.cause [
      | inl cause ↦ cause
      | inr refused ↦ absurd refused.0.refused
    ];
  },
)

-- ---- how much room there is

room_enough : (count kept more : ℕ) → kept ≡ count → 32 * (1 + count) ≤ 32 * (1 + (kept + more))
room_enough count kept more is = omega (arith, is)

-- a copy has room for a header, and for as many records
pub ledger_room : {D : Type 0} (meaning : DiskMeaning D) (ledger : DiskLogOf D) → are_running ledger.kept ≡ true
    → 32 * (1 + count_in ledger.kept) ≤ ledger_copy_size meaning ledger
ledger_room meaning ledger runs =
    room_enough (count_in ledger.kept) (length_of (old_ledger_meaning meaning) ledger) (room_of (old_ledger_meaning meaning) ledger)
    (ap (λ (running : Bool). if running then count_in ledger.kept else 0) runs)

-- its size is that of records
copy_is_records : (records made : ℕ) → made ≡ 32 * (1 + records) → IsRecordsSize issued_format made
copy_is_records records made is = (1 + records, omega arith, is)

-- ---- the command

-- one that is not opened
pub ledger_not_opened : {D : Type 0} (meaning : DiskMeaning D) (known : DiskKnown D) (making : MakingKnown D) (why : CopyLedgerFault)
    → IsOldUnopened meaning known why → IsCopyLedgerRefused meaning known making why
ledger_not_opened meaning known making fault.Unopened refused = refused
ledger_not_opened meaning known making fault.NewVersion refused = refused
ledger_not_opened meaning known making fault.Failed refused = inl refused
ledger_not_opened meaning known making fault.OutOfMemory refused = absurd refused
ledger_not_opened meaning known making fault.Unmade refused = absurd refused

-- one that does not come up
pub ledger_not_up : {D : Type 0} (meaning : DiskMeaning D) (known : DiskKnown D) (making : MakingKnown D) (opened : D) (last : DiskLogOf D) (why : CopyLedgerFault)
    → IsLedgerDisk One meaning known opened → IsNotUp meaning (new_disk_log opened) last why → IsCopyLedgerRefused meaning known making why
ledger_not_up meaning known making opened last fault.Failed is_opened refused =
    inr (inl (record { opened = opened; last = last; why = refused.0; is_opened = is_opened; refused = refused.1 }))
ledger_not_up meaning known making opened last fault.OutOfMemory is_opened refused = absurd refused
ledger_not_up meaning known making opened last fault.Unopened is_opened refused = absurd refused
ledger_not_up meaning known making opened last fault.NewVersion is_opened refused = absurd refused
ledger_not_up meaning known making opened last fault.Unmade is_opened refused = absurd refused

module _ {D : Type 0} (meaning : DiskMeaning D) (known : DiskKnown D) (making : MakingKnown D) (opened : D) (last : DiskLogOf D)
    (is_opened : IsLedgerDisk One meaning known opened) (up : IsUp meaning (new_disk_log opened) last) where
  abbrev old_ledger : IsOldLedger meaning known
  old_ledger = record { opened = opened; last = last; numbers = up.numbers; is_opened = is_opened; restarted = up.restarted; doubled = up.doubled }

  still_honest : (meaning.state_of opened).honest → (old_ledger_state meaning last).honest
  still_honest honest = up.restarted.settles.nature.honest.0 honest

  finds : (meaning.state_of opened).honest → FindsOnly (old_ledger_state meaning last) up.numbers
  finds honest = up.restarted.settles.finds honest

  -- what is left of a disk that was made, by what is kept
  left_copy : (made left : DiskState) → IsNoneOrLedger (old_ledger_state meaning last) made left → IsNoLedgerOrCopy meaning known old_ledger made left
  left_copy made left is = λ honest. is (still_honest honest) up.numbers (finds honest)

  part_copied : (size : ℕ) → IsUnmade meaning making size (IsNoneOrLedger (old_ledger_state meaning last)) → IsUnmade meaning making size (IsNoLedgerOrCopy meaning known old_ledger)
  part_copied size (inl none) = inl none
  part_copied size (inr part) = inr (record {
    made = part.made;
    last = part.last;
    is_made = part.is_made;
    failed = part.failed;
    left_is = left_copy (meaning.state_of part.made) (meaning.state_of part.last) part.left_is;
  })

  -- why it is not read
  not_read : (old' : StoreState Numbers) → IsNotRead (old_ledger_state meaning last) old'
      → (old'.failures ≢ (meaning.state_of last.disk).failures) ⊎ ((meaning.state_of opened).honest → ¬ AreInitial up.numbers)
  not_read old' (inl failed) = inl failed
  not_read old' (inr counted) = inr (λ honest. counted (still_honest honest) up.numbers (finds honest))

  -- it is read alone
  old_stays : (after : DiskLogOf D) → PreservesBytes (meaning.state_of last.disk) (meaning.state_of after.disk)
      → LeavesWithin (meaning.state_of opened) (meaning.state_of after.disk)
  old_stays after same = λ honest bytes left. up.restored honest bytes ((same.may_leave bytes).0 left)

  -- its copy keeps the numbers in front of all zeros
  copy_is_own : (identity : ℕ) → ((disk : D) → LeavesItsSize (meaning.state_of disk)) → ((disk : D) → ReadsMayStay (meaning.state_of disk))
      → (made copy : D) → (meaning.state_of made).size ≡ ledger_copy_size meaning last
      → IsLedgerCopied identity (count_in last.kept) (old_ledger_state meaning last) (meaning.state_of made) (meaning.state_of copy)
      → (meaning.state_of opened).honest → (meaning.state_of made).honest → IsLedgerOf Two (meaning.state_of copy).reads
  copy_is_own identity its_size may_stay made copy size_is written honest new_honest =
      let count : ℕ = count_in last.kept in
      let reads : List ℕ = (meaning.state_of copy).reads in
      let now : (meaning.state_of copy).honest = written.nature.honest.0 new_honest in
      let held : MayFindItems issued_format (meaning.state_of copy) (issues_of up.numbers) =
      (written.keeps (still_honest honest) new_honest up.numbers (finds honest) (issues_of up.numbers)).1 refl in
      let keeps : KeepsIssues reads (issues_of up.numbers) =
      subst (λ (l : List ℕ). KeepsIssues l (issues_of up.numbers)) ((written.leaves new_honest held.0).0 held.1) held.2 in
      own_ledger identity count (length_of (old_ledger_meaning meaning) last + room_of (old_ledger_meaning meaning) last)
      ((meaning.state_of made).size - 32 * (1 + count)) reads (issues_of up.numbers) written.identity_fits
      (its_size copy now reads (may_stay copy now) ∙ written.nature.size ∙ size_is)
      (written.header new_honest) (written.behind new_honest) keeps (length-map up.numbers issue_of ∙ up.counted)

  pub has_copied_ledger : (identity : ℕ) → ((disk : D) → LeavesItsSize (meaning.state_of disk)) → ((disk : D) → ReadsMayStay (meaning.state_of disk))
      → (after : DiskLogOf D) → PreservesBytes (meaning.state_of last.disk) (meaning.state_of after.disk)
      → IsLedgerMade identity (count_in last.kept) meaning making (ledger_copy_size meaning last) (old_ledger_state meaning last)
      → HasCopiedLedger identity meaning known making
  has_copied_ledger identity its_size may_stay after same copy = record {
    old = old_ledger;
    after = after;
    made = copy.made;
    last = copy.last;
    is_made = copy.is_made;
    size_is = copy.kept.size_is;
    written = copy.kept.written;
    initial = λ honest. copy.kept.written.initial (still_honest honest) up.numbers (finds honest);
    finds = λ honest new_honest. copy.kept.written.keeps (still_honest honest) new_honest up.numbers (finds honest);
    sound = λ honest new_honest. copy.kept.written.sound (still_honest honest) new_honest
        (copy_is_records (length_of (old_ledger_meaning meaning) last + room_of (old_ledger_meaning meaning) last) (meaning.state_of copy.made).size copy.kept.size_is)
        up.numbers (finds honest);
    own = copy_is_own identity its_size may_stay copy.made copy.last copy.kept.size_is copy.kept.written;
    old_stays = old_stays after same;
    folder = copy.kept.synced;
  }

  pub ledger_not_copied : (after : DiskLogOf D) (why : CopyLedgerFault) → PreservesBytes (meaning.state_of last.disk) (meaning.state_of after.disk)
      → LedgerNotMade meaning making (ledger_copy_size meaning last) (old_ledger_state meaning last) (old_ledger_state meaning after) why
      → IsCopyLedgerRefused meaning known making why
  ledger_not_copied after fault.Failed same refused = inr (inr (record {
    old = old_ledger;
    after = after;
    made = refused.made;
    last = refused.last;
    is_made = refused.is_made;
    cause = not_read (old_ledger_state meaning after) refused.cause;
    old_stays = old_stays after same;
    left_is = left_copy (meaning.state_of refused.made) (meaning.state_of refused.last) refused.left_is;
  }))
  ledger_not_copied after fault.Unmade same refused =
      record { old = old_ledger; after = after; old_stays = old_stays after same; unmade = inr (part_copied (ledger_copy_size meaning last) refused) }
  ledger_not_copied after fault.OutOfMemory same refused = absurd refused
  ledger_not_copied after fault.Unopened same refused = absurd refused
  ledger_not_copied after fault.NewVersion same refused = absurd refused

  -- no file has so many bytes
  pub no_ledger_size : 2 ^ 64 ≤ ledger_copy_size meaning last → IsCopyLedgerRefused meaning known making fault.Unmade
  no_ledger_size large = record { old = old_ledger; after = last; old_stays = up.restored; unmade = inl large }
