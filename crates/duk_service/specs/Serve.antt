-- What `serve` answers (this project's own, over what a host does with a stream of frames).
use Rattle.std.specs.Prelude.{◌≡◌, ◌⊎◌, ℕ, Bool, List, [], codes, Option, true, false}
use Rattle.duk_commands.specs.HandedOn.{HasHandedOn, HasLost}
use Rattle.duk_host.specs.Host.{HostMeaning, HostOf, host_meaning_of}
use Rattle.duk_host.specs.Restart.{HostRestartRefused, IsHostRestarted}
use Rattle.duk_host.specs.Serve.{IsReadToEnd, ServiceFailed, Supply, service, supply}
use Rattle.duk_host.specs.Table.{CardTable, table_decision}
use Rattle.duk_host.specs.declared.fault.HostFault.{HostFault}
use Rattle.duk_host.specs.declared.fault.HostFault.TheVariants as fault
use Rattle.duk_io.specs.Known.{Known}
use Rattle.duk_service.specs.declared.left_records.RecordFormat.{RecordFormat}
use Rattle.duk_service.specs.declared.left_records.RecordFormat.TheVariants.{Log}
use Rattle.duk_service.specs.declared.serve_fault.ServeFault.{ServeFault}
use Rattle.duk_service.specs.declared.serve_fault.ServeFault.TheVariants as serve_fault
use Rattle.duk_store.specs.Log.{LogMeaning}

-- what a log and the issuer of a configuration mean
abbrev pub over_log : {L : Type 0} → LogMeaning L → HostMeaning L CardTable
over_log log = host_meaning_of log table_decision

-- what the reader of frames and the writer of answers make known before and after
pub record Serving : Type 0 where
  pub input_before : Supply
  pub input_after : Supply
  pub output_before : Known
  pub output_after : Known

abbrev pub serving : Supply → Supply → Known → Known → Serving
serving input_before input_after output_before output_after = record {
  input_before = input_before;
  input_after = input_after;
  output_before = output_before;
  output_after = output_after;
}

-- what a reader of frames and a writer of answers make known before and after, by what each makes
-- known at all
abbrev pub serving_of : {R W : Type 0} → (R → Known) → (R → Option ℕ) → (W → Known) → R → R → W → W
    → Serving
serving_of known reads written input input' output output' =
    serving (supply (known input) (reads input)) (supply (known input') (reads input'))
    (written output) (written output')

-- the writer of answers made this known when they were written
abbrev pub answered_at : Serving → Known → Serving
answered_at s written = serving s.input_before s.input_after s.output_before written

-- a host was brought up over its log
pub record IsHostUp {L I : Type 0} (meaning : HostMeaning L I) (made up : HostOf L I) : Type 0 where
  pub found : ℕ
  pub restarted : IsHostRestarted meaning.log made up found

-- a host was brought up, and served so many frames to the end of the input
pub record IsServedUp
    {L I : Type 0} (meaning : HostMeaning L I) (made : HostOf L I) (s : Serving)
    (count : ℕ) : Type 0 where
  pub up : HostOf L I
  pub last : HostOf L I
  pub is_up : IsHostUp meaning made up
  pub read_up : IsReadToEnd meaning (service up s.output_before) (service last s.output_after)
      s.input_before s.input_after [] count

-- nothing was read or written
pub record HasNothingServed (s : Serving) : Type 0 where
  pub unread : s.input_after ≡ s.input_before
  pub quiet : s.output_after ≡ s.output_before

-- a host was not brought up
pub record IsNotUp
    {L I : Type 0} (meaning : HostMeaning L I) (made : HostOf L I) (s : Serving)
    (why : HostFault) : Type 0 where
  pub idle : HasNothingServed s
  pub last : HostOf L I
  pub refused : HostRestartRefused meaning.log made last why

-- a host was brought up, and stopped serving before the end of the input
pub record IsServingStopped
    {L I : Type 0} (meaning : HostMeaning L I) (made : HostOf L I) (s : Serving)
    (why : HostFault) : Type 0 where
  pub up : HostOf L I
  pub last : HostOf L I
  pub is_up : IsHostUp meaning made up
  pub failed : ServiceFailed meaning (service up s.output_before) (service last s.output_after)
      s.input_before s.input_after why

-- why a host does not serve the input to its end: the first of these
abbrev pub HostRefused : {L I : Type 0} → HostMeaning L I → HostOf L I → Serving → HostFault
    → Type 0
HostRefused meaning made s why = IsNotUp meaning made s why ⊎ IsServingStopped meaning made s why

-- memory was refused before there was a host
pub record IsNotMade (s : Serving) (why : HostFault) : Type 0 where
  pub idle : HasNothingServed s
  pub memory : why ≡ fault.NoMemory

-- why the input is not served to its end by this host, or there is none
abbrev pub ServeRefused : {L I : Type 0} → HostMeaning L I → HostOf L I → Serving → HostFault
    → Type 0
ServeRefused meaning made s why = IsNotMade s why ⊎ HostRefused meaning made s why

-- the line of a fault of serving
abbrev pub serve_line : HostFault → List ℕ
serve_line fault.NoMemory = codes "out of memory\n"
serve_line (fault.Store why) = codes "log: failed\n"
serve_line fault.Stopped = codes "log: failed\n"
serve_line fault.Read = codes "serve: read failed\n"
serve_line fault.Write = codes "serve: write failed\n"
serve_line fault.Truncated = codes "serve: input ends in a frame\n"
serve_line fault.TooLong = codes "serve: frame too long\n"

-- a fault of a host is one of its store
abbrev pub is_of_store : HostFault → Bool
is_of_store (fault.Store why) = true
is_of_store fault.Stopped = true
is_of_store _ = false

-- a host served to the end of the input, as this says of the answers that were written, and they are
-- handed on
abbrev pub HasServed : (Serving → Type 0) → Serving → Type 0
HasServed Served s = HasHandedOn (λ written. Served (answered_at s written)) s.output_after

-- it did not, for a fault that is one of its store or none, as this says
abbrev pub HasRefused : Bool → (HostFault → Serving → Type 0) → Serving → Type 0
HasRefused of_store Refused s =
    (cause : HostFault) × (is_of_store cause ≡ of_store) × Refused cause s

-- why the input is not served to its end over a log or a journal, by what it is to be served and not
-- to be: the fault of the host; or that its answers are lost, alone or beside a fault of its store
abbrev pub HasNotServed : RecordFormat → (Serving → Type 0) → (HostFault → Serving → Type 0) → Serving
    → ServeFault → Type 0
HasNotServed format Served Refused s (serve_fault.NotOpened kind why) = ⊥
HasNotServed format Served Refused s (serve_fault.Host kind why) = (kind ≡ format)
    × (HasHandedOn (λ written. Refused why (answered_at s written)) s.output_after
    ⊎ ((why ≡ fault.Write) × HasLost (λ written. Served (answered_at s written)
    ⊎ HasRefused false Refused (answered_at s written)) s.output_after))
HasNotServed format Served Refused s (serve_fault.StoreAndAnswers kind) = (kind ≡ format)
    × HasLost (λ written. HasRefused true Refused (answered_at s written)) s.output_after

-- a host over this log is brought up, and serves to the end of the input
abbrev pub IsServed : {L I : Type 0} → HostMeaning L I → HostOf L I → Serving → Type 0
IsServed meaning made s = (count : ℕ) × IsServedUp meaning made s count

-- so it is, and its answers are handed on
abbrev pub HasServedLog : {L I : Type 0} → HostMeaning L I → HostOf L I → Serving → Type 0
HasServedLog meaning made = HasServed (IsServed meaning made)

-- why it is not
abbrev pub HasNotServedLog : {L I : Type 0} → HostMeaning L I → HostOf L I → Serving → ServeFault
    → Type 0
HasNotServedLog meaning made = HasNotServed Log (IsServed meaning made)
    (λ why s. ServeRefused meaning made s why)
