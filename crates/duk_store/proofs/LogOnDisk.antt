-- The meaning of a log on a disk, by that of its records.
use Rattle.std.proofs.Common.{◌≡◌, ℕ, ◌+◌, List, [], ◌∷◌, Some, sym, ◌∙◌, ap}
use Rattle.duk_tree.specs.Serial.{Serial}
use Rattle.duk_store.specs.Disk.{DiskMeaning}
use Rattle.duk_store.specs.DiskLog.{DiskLogOf, disk_log_meaning}
use Rattle.duk_store.specs.DiskRecords.{records_meaning}
use Rattle.duk_store.specs.Listed.{GroupAppendFailed, IsGroupAppended, IsItemRead, ItemReadFailed, ListRestarted}
use Rattle.duk_store.specs.Log.{AppendFailed, IsAppended, IsReadAt, LogRestarted, ReadFailed}
use Rattle.duk_store.specs.LogFormat.{SaysNumber, log_format}
use Rattle.duk_store.specs.RecordFormat.{number_in}
use Rattle.duk_store.specs.Records.{after_gate}
use Rattle.duk_store.specs.declared.fault.StoreFault.{StoreFault}
use Rattle.duk_store.specs.declared.fault.StoreFault.TheVariants as fault
use Rattle.duk_store.specs.declared.log_format.LogFormat.{LogFormat}

module _ {D : Type 0} (meaning : DiskMeaning D) (old new : DiskLogOf D) where
  pub log_restarted : {V : Type 0} (takes : V → Serial → V → Type 0) (visitor visited : V) (count : ℕ) → ListRestarted (records_meaning meaning (λ (format : LogFormat). log_format)) takes old new visitor visited count → LogRestarted (disk_log_meaning meaning) old new count
  log_restarted takes visitor visited count up = record {
    numbers = up.taken.items;
    restarted = record {
      settles = record { nature = up.nature; no_failure = up.no_failure; runs = up.runs; finds = λ h. (up.taken.found h).finds };
      was_found = λ h. (up.taken.found h).was_found;
    };
    counted = λ h. up.taken.counted;
  }

  pub number_read : (place : ℕ) (bytes : List ℕ) (number : Serial) → number ≡ number_in bytes
      → IsItemRead (records_meaning meaning (λ (format : LogFormat). log_format)) (λ item. (followers : ℕ) × SaysNumber 0 (0 + place) followers item (after_gate bytes)) old new place → IsReadAt (disk_log_meaning meaning) old new place number
  number_read place bytes number is read = record {
    was_running = read.was_running;
    stays = read.stays;
    number_is = λ h numbers finds.
        let it = read.says_it h numbers finds in
        let says : (followers : ℕ) × SaysNumber 0 (0 + place) followers it.0 (after_gate bytes) = it.2 in
        it.1 ∙ ap Some (says.1.number_is ∙ sym is);
  }

  pub read_failed : (why : StoreFault) → ItemReadFailed (records_meaning meaning (λ (format : LogFormat). log_format)) old new why → ReadFailed (disk_log_meaning meaning) old new why
  read_failed fault.Device failed = record {
    was_running = failed.was_running;
    nature = failed.nature;
    not_calm = failed.not_calm;
    stopped = failed.stopped;
    found = failed.found;
    failure = failed.failure;
  }
  read_failed fault.Stopped failed = failed
  read_failed fault.Damaged failed = absurd failed
  read_failed fault.Worn failed = absurd failed
  read_failed fault.NoMemory failed = absurd failed

  pub number_appended : (number : Serial) → IsGroupAppended (records_meaning meaning (λ (format : LogFormat). log_format)) old new (number ∷ []) → IsAppended (disk_log_meaning meaning) old new number
  number_appended number done = record { was_running = done.was_running; nature = done.nature; no_failure = done.no_failure; runs = done.runs; finds = done.finds }

  pub append_failed : (number : Serial) (why : StoreFault) → GroupAppendFailed (records_meaning meaning (λ (format : LogFormat). log_format)) old new (number ∷ []) why → AppendFailed (disk_log_meaning meaning) old new number why
  append_failed number fault.Device failed = record { was_running = failed.was_running; stops = failed.stops; failure = failed.failure }
  append_failed number fault.Stopped failed = failed
  append_failed number fault.Damaged failed = absurd failed
  append_failed number fault.Worn failed = absurd failed
  append_failed number fault.NoMemory failed = absurd failed
