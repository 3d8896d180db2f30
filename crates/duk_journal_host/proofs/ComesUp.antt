-- Where no restart of a host, and no check, is refused as damaged.
use Rattle.std.proofs.Common.{inl, inr, subst, sym}
use Rattle.duk_host.specs.declared.fault.HostFault.TheVariants as fault
use Rattle.duk_journal.specs.Groups.{Entries}
use Rattle.duk_journal.specs.Journal.{JournalMeaning}
use Rattle.duk_journal.specs.Standing.{UseNewNumbers}
use Rattle.duk_store.specs.declared.fault.StoreFault.TheVariants.{Damaged}
use Rattle.duk_journal_host.specs.Check.{CheckRefused, IsChecked}
use Rattle.duk_journal_host.specs.Restart.{IsUsableJournal}
use Rattle.duk_journal_host.specs.declared.check.Checked.{Checked}

-- a usable journal is neither unsound, nor does a restart find what a host may not judge by
pub not_damaged : {J : Type 0} (meaning : JournalMeaning J) (old new : J) → IsUsableJournal (meaning.state_of old) → ¬ CheckRefused meaning old new (fault.Store Damaged)
not_damaged meaning old new journal (inl failed) = failed.fault_is.unsound journal.honest journal.sound
not_damaged meaning old new journal (inr (same, bad)) =
    let list = bad.not_usable journal.honest journal.sound in list.2 (journal.usable list.0 list.1)

-- what a check has passed is usable
pub usable_once_checked : {J : Type 0} (meaning : JournalMeaning J) (old new : J) (found : Checked) → IsChecked meaning old new found → (meaning.state_of old).honest → IsUsableJournal (meaning.state_of new)
usable_once_checked meaning old new found checked honest =
    let now = checked.journal.settles.nature.honest.0 honest in
    record {
      honest = now;
      sound = checked.sound honest;
      usable = λ entries may_find. subst (λ (entries : Entries). UseNewNumbers entries) (sym ((checked.kept.finds now entries).0 may_find)) checked.new_numbers;
    }
