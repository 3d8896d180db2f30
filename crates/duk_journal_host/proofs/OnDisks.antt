-- A host that is made over the disk which another left.
use Rattle.std.proofs.Common.{◌≡◌, refl, subst, sym}
use Rattle.duk_host.specs.Judgement.{Decision}
use Rattle.duk_journal.specs.DiskJournal.{DiskJournalOf, disk_journal_meaning, new_disk_journal}
use Rattle.duk_journal.specs.Groups.{Entries}
use Rattle.duk_store.specs.Disk.{DiskMeaning}
use Rattle.duk_store.specs.StoreState.{FindsWithin, StoreState}
use Rattle.duk_journal_host.specs.Host.{HostOf, host_meaning_of}
use Rattle.duk_journal_host.specs.Lifetime.{IsMadeOver}
use Rattle.duk_journal_host.specs.Restart.{IsUsableJournal}

module _ {D : Type 0} (meaning : DiskMeaning D) where
  abbrev state_of : DiskJournalOf D → StoreState Entries
  state_of journal = (disk_journal_meaning meaning).state_of journal

  pub goes_on : {I : Type 0} (decides : I → Decision) (last again : HostOf (DiskJournalOf D) I) → IsUsableJournal (state_of last.journal) → again.journal ≡ new_disk_journal last.journal.disk
      → IsMadeOver (host_meaning_of (disk_journal_meaning meaning) decides) again.keys (state_of last.journal).found again
  goes_on decides last again usable is = record {
    keys_are = refl;
    honest = subst (λ journal. (state_of journal).honest) (sym is) usable.honest;
    within = subst (λ journal. FindsWithin (state_of journal) (state_of last.journal).found) (sym is) (λ entries found. found);
  }

  pub usable_on_disk : {I : Type 0} (last again : HostOf (DiskJournalOf D) I) → IsUsableJournal (state_of last.journal) → again.journal ≡ new_disk_journal last.journal.disk → IsUsableJournal (state_of again.journal)
  usable_on_disk last again usable is =
      subst (λ journal. IsUsableJournal (state_of journal)) (sym is) (record { honest = usable.honest; sound = usable.sound; usable = usable.usable })
