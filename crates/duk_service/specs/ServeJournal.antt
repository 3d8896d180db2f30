-- What `serve` answers over a journal (this project's own, over what a host over a journal does with
-- a stream of frames).
use Rattle.std.specs.Prelude.{◌⊎◌, ℕ, [], None}
use Rattle.duk_config.specs.Opened.{keys_for}
use Rattle.duk_config.specs.Settings.{Settings}
use Rattle.duk_host.specs.Table.{CardTable, table_decision}
use Rattle.duk_host.specs.declared.fault.HostFault.{HostFault}
use Rattle.duk_journal.specs.Journal.{JournalMeaning}
use Rattle.duk_journal_host.specs.Host.{HostMeaning, HostOf, host_meaning_of}
use Rattle.duk_journal_host.specs.Restart.{HostRestartRefused, IsHostRestarted}
use Rattle.duk_journal_host.specs.Serve.{IsReadToEnd, ServiceFailed, service}
use Rattle.duk_service.specs.Serve.{HasNotServed, HasNothingServed, HasServed, IsNotMade, Serving}
use Rattle.duk_service.specs.declared.left_records.RecordFormat.TheVariants.{Journal}
use Rattle.duk_service.specs.declared.serve_fault.ServeFault.{ServeFault}
use Rattle.duk_tdes.specs.KeyBytes.{bytes_of}

-- what a journal and the issuer of a configuration mean
abbrev pub over_journal : {J : Type 0} → JournalMeaning J → HostMeaning J CardTable
over_journal journal = host_meaning_of journal table_decision

-- the host of a configuration over this journal, as it is made: stopped
abbrev pub journal_host_of : {J : Type 0} → Settings → J → HostOf J CardTable
journal_host_of config journal = record {
  keys = keys_for (bytes_of config.lmk) config;
  issuer = record { zone = bytes_of config.zone; cards = config.cards };
  journal = journal;
  state = None;
}

-- a host was brought up over its journal
pub record IsJournalHostUp {J I : Type 0} (meaning : HostMeaning J I) (made up : HostOf J I)
    : Type 0 where
  pub found : ℕ
  pub restarted : IsHostRestarted meaning made up found

-- a host was brought up, and served the frames to the end of the input
pub record IsJournalServed
    {J I : Type 0} (meaning : HostMeaning J I) (made : HostOf J I) (s : Serving) : Type 0 where
  pub up : HostOf J I
  pub last : HostOf J I
  pub is_up : IsJournalHostUp meaning made up
  pub read_up : IsReadToEnd meaning (service up s.output_before) (service last s.output_after)
      s.input_before s.input_after []

-- a host was not brought up
pub record IsJournalHostDown
    {J I : Type 0} (meaning : HostMeaning J I) (made : HostOf J I) (s : Serving)
    (why : HostFault) : Type 0 where
  pub idle : HasNothingServed s
  pub last : HostOf J I
  pub refused : HostRestartRefused meaning.journal made last why

-- a host was brought up, and stopped serving before the end of the input
pub record IsJournalServiceStopped
    {J I : Type 0} (meaning : HostMeaning J I) (made : HostOf J I) (s : Serving)
    (why : HostFault) : Type 0 where
  pub up : HostOf J I
  pub last : HostOf J I
  pub is_up : IsJournalHostUp meaning made up
  pub failed : ServiceFailed meaning (service up s.output_before) (service last s.output_after)
      s.input_before s.input_after why

-- why the input is not served to its end by this host: the first of these
abbrev pub JournalServiceRefused : {J I : Type 0} → HostMeaning J I → HostOf J I → Serving
    → HostFault → Type 0
JournalServiceRefused meaning made s why =
    IsNotMade s why
    ⊎ IsJournalHostDown meaning made s why ⊎ IsJournalServiceStopped meaning made s why

-- so it did, and its answers are handed on
abbrev pub HasServedJournal : {J I : Type 0} → HostMeaning J I → HostOf J I → Serving → Type 0
HasServedJournal meaning made = HasServed (IsJournalServed meaning made)

-- why it did not
abbrev pub HasNotServedJournal : {J I : Type 0} → HostMeaning J I → HostOf J I → Serving → ServeFault
    → Type 0
HasNotServedJournal meaning made = HasNotServed Journal (IsJournalServed meaning made)
    (λ why s. JournalServiceRefused meaning made s why)
