-- What is left of a disk that was made for a journal, whenever it is stopped.
use Rattle.std.proofs.Common.{◌≡◌, ℕ, inl, inr, subst, sym}
use Rattle.std.specs.Prelude.{None, Option}
use Rattle.duk_journal_copy.specs.Copy.{IsCopied}
use Rattle.duk_journal_copy.specs.Version.{format_of}
use Rattle.duk_journal_copy.specs.declared.copy.Kept.{Kept}
use Rattle.duk_journal_copy.specs.declared.version.Version.{Version}
use Rattle.duk_journal_copy.specs.declared.version.Version.TheVariants.{Two}
use Rattle.duk_journal.specs.DiskJournal.{disk_journal_state}
use Rattle.duk_journal.specs.Groups.{Entries, KeepsChecked}
use Rattle.duk_service.specs.inner.CopyJournal.{IsNoneOrKept, IsReadOver}
use Rattle.duk_store.specs.Disk.{DiskMeaning, DiskState}
use Rattle.duk_store.specs.DiskRecords.{records_state}
use Rattle.duk_store.specs.StoreState.{StoreState, Stops}
use Rattle.duk_host.specs.declared.fault.HostFault.{HostFault}
use Rattle.duk_host.specs.declared.fault.HostFault.TheVariants as host_fault
use Rattle.duk_journal_copy.specs.Version.{JournalRecords, journal_records_meaning}
use Rattle.duk_journal_host.specs.Check.{CheckRefused, IsChecked}
use Rattle.duk_journal_host.specs.declared.check.Checked.{Checked}

-- and then it is read
pub left_read_over : (kept : Kept) (identity : ℕ) (old made filled last : DiskState) (version : Version) (running : Option ℕ) → version ≡ Two
    → IsCopied kept identity old made filled → IsReadOver (disk_journal_state filled None) (records_state (format_of version) last running) → IsNoneOrKept kept old made last
left_read_over kept identity old made filled last version running is copied read_so = λ old_honest entries keeps counted honest size bytes left.
    let read : IsReadOver (disk_journal_state filled None) (disk_journal_state last running) =
    subst (λ (v : Version). IsReadOver (disk_journal_state filled None) (records_state (format_of v) last running)) is read_so in
    let filled_honest = copied.nature.honest.0 honest in
    let held = (read.sound filled_honest (copied.sound old_honest honest size entries keeps counted)).each_keeps bytes left in
    let same : held.0 ≡ entries = (copied.keeps old_honest honest entries keeps counted held.0).0 (read.within filled_honest held.0 (bytes, left, held.1)) in
    inr (subst (λ (it : Entries). KeepsChecked bytes it) same held.1)

-- a journal that was checked, or not, was read alone
stops_read : (old new : StoreState Entries) → Stops old new old.found → IsReadOver old new
stops_read old new stops = record { sound = λ honest sound. stops.nature.sound honest sound; within = λ honest. stops.within honest }

pub read_checked : {D : Type 0} (meaning : DiskMeaning D) (old new : JournalRecords D) (found : Checked) → IsChecked (journal_records_meaning meaning) old new found
    → IsReadOver ((journal_records_meaning meaning).state_of old) ((journal_records_meaning meaning).state_of new)
read_checked meaning old new found checked = record {
  sound = λ honest sound. checked.sound honest;
  within = λ honest other found_now.
      subst (λ (it : Entries). ((journal_records_meaning meaning).state_of old).found it) (sym ((checked.journal.settles.finds honest other).0 found_now)) (checked.journal.was_found honest);
}

pub read_refused : {D : Type 0} (meaning : DiskMeaning D) (old new : JournalRecords D) (why : HostFault) → CheckRefused (journal_records_meaning meaning) old new why
    → IsReadOver ((journal_records_meaning meaning).state_of old) ((journal_records_meaning meaning).state_of new)
read_refused meaning old new (host_fault.Store why) (inl failed) =
    stops_read ((journal_records_meaning meaning).state_of old) ((journal_records_meaning meaning).state_of new) failed.stops
read_refused meaning old new (host_fault.Store why) (inr unusable) =
    stops_read ((journal_records_meaning meaning).state_of old) ((journal_records_meaning meaning).state_of new) unusable.1.journal.stops
read_refused meaning old new host_fault.NoMemory given_up =
    stops_read ((journal_records_meaning meaning).state_of old) ((journal_records_meaning meaning).state_of new) given_up.stops
read_refused meaning old new _ never = absurd never
