-- A host: what it is, and what its log holds of it: this project's own.
use Rattle.std.specs.Prelude.{◌-◌, Option, Some, None}
use Rattle.duk_hsm.specs.Keys.{HsmKeys}
use Rattle.duk_store.specs.Log.{LogMeaning}
use Rattle.duk_tree.specs.Serial.{Serial}
use Rattle.duk_host.specs.Judgement.{JudgementBasis, Decision, basis_with}
use Rattle.duk_host.specs.Used.{IsUsed}
use Rattle.duk_host.specs.declared.running.Running.{Running}

-- a host: the keys of its security module, its issuer, its log, and what it has in memory while it
-- runs; where it is stopped, that is nothing
pub record HostOf (L I : Type 0) : Type 0 where
  pub keys : HsmKeys
  pub issuer : I
  pub log : L
  pub state : Option Running

-- a key serial number is used at a host in this state; at one that is stopped none is
abbrev pub IsUsedIn : Option Running → Serial → Type 0
IsUsedIn None ksn = ⊥
IsUsedIn (Some running) ksn = IsUsed running.used ksn

-- what its log and its issuer mean
pub record HostMeaning (L I : Type 0) : Type 1 where
  pub log : LogMeaning L
  pub decides : I → Decision

-- those meanings together
abbrev pub host_meaning_of : {L I : Type 0} → LogMeaning L → (I → Decision) → HostMeaning L I
host_meaning_of log decides = record { log = log; decides = decides }

-- what a running host judges by
abbrev pub basis_of : {L I : Type 0} → HostMeaning L I → HostOf L I → Running → JudgementBasis
basis_of meaning host running =
    let room = meaning.log.capacity host.log - meaning.log.count host.log in
    basis_with host.keys running.used running.recent room (meaning.decides host.issuer)
