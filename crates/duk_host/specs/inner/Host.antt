-- What only private functions and proofs say beside `Host.antt`: this project's own.
use Rattle.std.specs.Prelude.{◌≡◌, true, Option, Some, None, IsSome}
use Rattle.duk_hsm.specs.Keys.{HsmKeys}
use Rattle.duk_store.specs.Log.{Numbers}
use Rattle.duk_store.specs.StoreState.{StoreState, FindsOnly}
use Rattle.duk_tree.specs.Serial.{Serial}
use Rattle.duk_host.specs.Used.{IsUsed, Lists}
use Rattle.duk_host.specs.declared.running.Running.{Running}

-- a host in this state runs, and the key serial number is not used
abbrev pub IsFreshIn : Option Running → Serial → Type 0
IsFreshIn None ksn = ⊥
IsFreshIn (Some running) ksn = ¬ IsUsed running.used ksn

-- the log runs, a restart would find one list alone, and the used numbers are those of that list
pub record LogHolds (log : StoreState Numbers) (used : Numbers) : Type 0 where
  pub runs : log.running ≡ true
  pub lists : log.honest → (numbers : Numbers) × FindsOnly log numbers × Lists numbers used

-- what the log of a running host holds
abbrev pub LogAgrees : StoreState Numbers → Option Running → Type 0
LogAgrees log None = Unit {0}
LogAgrees log (Some running) = LogHolds log running.used

-- what holds of a host at all times: a zone key is held, and the log of a running host holds its
-- used numbers
pub record AgreesWithLog
    (keys : HsmKeys) (log : StoreState Numbers) (state : Option Running) : Type 0 where
  pub zone : IsSome keys.zone
  pub holds : LogAgrees log state
