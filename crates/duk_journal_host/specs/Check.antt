-- A journal that is checked as a host checks it: this project's own, over a host's restart.
use Rattle.std.specs.Prelude.{◌≡◌, ◌⊎◌, length}
use Rattle.duk_host.specs.declared.fault.HostFault.{HostFault}
use Rattle.duk_host.specs.declared.fault.HostFault.TheVariants as fault
use Rattle.duk_journal.specs.CheckSum.{check_sum_of}
use Rattle.duk_journal.specs.Groups.{Entries}
use Rattle.duk_journal.specs.Journal.{JournalMeaning}
use Rattle.duk_journal.specs.Standing.{UseNewNumbers}
use Rattle.duk_store.specs.Restart.{Restarted, RestartFailed}
use Rattle.duk_store.specs.declared.fault.StoreFault.TheVariants.{Damaged}
use Rattle.duk_journal_host.specs.Host.{KeepsAlone}
use Rattle.duk_journal_host.specs.Restart.{FoundUnusable, IsGivenUp}
use Rattle.duk_journal_host.specs.declared.check.Checked.{Checked}

-- how many entries these are, and their check sum
abbrev pub checked_of : Entries → Checked
checked_of entries = record { count = length entries; sum = check_sum_of entries }

-- a journal's restart found entries of which this is told, it keeps them and nothing else, and a host
-- may judge by them: each uses a new number. An honest journal is sound then, so that no restart of a
-- host over it is refused as damaged
pub record IsChecked {J : Type 0} (meaning : JournalMeaning J) (old new : J) (found : Checked)
    : Type 0 where
  pub entries : Entries
  pub journal : Restarted (meaning.state_of old) (meaning.state_of new) entries
  pub sound : (meaning.state_of old).honest → (meaning.state_of new).sound
  pub told : checked_of entries ≡ found
  pub kept : KeepsAlone meaning new entries
  pub new_numbers : UseNewNumbers entries

-- why it is not: as the restart of a host is refused
abbrev pub CheckRefused : {J : Type 0} → JournalMeaning J → J → J → HostFault → Type 0
CheckRefused meaning old new (fault.Store why) =
    RestartFailed (meaning.state_of old) (meaning.state_of new) why
    ⊎ ((why ≡ Damaged) × FoundUnusable meaning old new)
CheckRefused meaning old new fault.NoMemory = IsGivenUp meaning old new
CheckRefused meaning old new _ = ⊥
