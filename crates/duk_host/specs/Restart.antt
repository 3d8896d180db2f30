-- A host's restart: this project's own.
use Rattle.std.specs.Prelude.{◌≡◌, ◌⊎◌, ℕ, [], Some, None, length}
use Rattle.duk_store.specs.Log.{LogMeaning, Numbers}
use Rattle.duk_store.specs.Restart.{Restarted, RestartFailed}
use Rattle.duk_store.specs.declared.fault.StoreFault.{StoreFault}
use Rattle.duk_store.specs.declared.fault.StoreFault.TheVariants.{Damaged}
use Rattle.duk_host.specs.Host.{HostOf}
use Rattle.duk_host.specs.Used.{AreUsable, Lists}
use Rattle.duk_host.specs.declared.fault.HostFault.{HostFault}
use Rattle.duk_host.specs.declared.fault.HostFault.TheVariants as fault
use Rattle.duk_host.specs.declared.running.Running.{Running}

-- all but the log and the state is as it was
pub record PreservesEnds {L I : Type 0} (old new : HostOf L I) : Type 0 where
  pub keys : new.keys ≡ old.keys
  pub issuer : new.issuer ≡ old.issuer

-- a restart that is done: the log's restart is, and the host runs, with the numbers of the list
-- that it found as the used ones, and without any request that was accepted before
pub record IsHostRestarted
    {L I : Type 0} (meaning : LogMeaning L) (old new : HostOf L I) (found : ℕ) : Type 0 where
  pub numbers : Numbers
  pub running : Running
  pub ends : PreservesEnds old new
  pub log : Restarted (meaning.state_of old.log) (meaning.state_of new.log) numbers
  pub counted : (meaning.state_of old.log).honest → length numbers ≡ found
  pub runs : new.state ≡ Some running
  pub lists : (meaning.state_of old.log).honest → Lists numbers running.used
  pub forgets : running.recent ≡ []

-- the log kept a list in which a number occurs twice, or one that numbers no transaction
pub record FoundUnusable
    {L I : Type 0} (meaning : LogMeaning L) (old new : HostOf L I) : Type 0 where
  pub numbers : Numbers
  pub log : Restarted (meaning.state_of old.log) (meaning.state_of new.log) numbers
  pub not_usable : (meaning.state_of old.log).honest → ¬ AreUsable numbers

-- a restart that failed: the host is stopped, since its log failed, or found such a list
pub record HostRestartStopped
    {L I : Type 0} (meaning : LogMeaning L) (old new : HostOf L I) (why : StoreFault) : Type 0 where
  pub ends : PreservesEnds old new
  pub stopped : new.state ≡ None
  pub cause : RestartFailed (meaning.state_of old.log) (meaning.state_of new.log) why
      ⊎ ((why ≡ Damaged) × FoundUnusable meaning old new)

-- a restart that was refused memory: the host is stopped, and its log's restart is done
pub record HostRestartNoMemory
    {L I : Type 0} (meaning : LogMeaning L) (old new : HostOf L I) : Type 0 where
  pub numbers : Numbers
  pub ends : PreservesEnds old new
  pub stopped : new.state ≡ None
  pub log : Restarted (meaning.state_of old.log) (meaning.state_of new.log) numbers

-- why a restart is refused
abbrev pub HostRestartRefused : {L I : Type 0} → LogMeaning L → HostOf L I → HostOf L I → HostFault
    → Type 0
HostRestartRefused meaning old new (fault.Store why) = HostRestartStopped meaning old new why
HostRestartRefused meaning old new fault.NoMemory = HostRestartNoMemory meaning old new
HostRestartRefused meaning old new _ = ⊥
