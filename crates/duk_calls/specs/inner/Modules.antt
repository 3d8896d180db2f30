-- What the parts of the calls over security modules promise to each other: this project's own.
use Rattle.std.specs.Prelude.{◌≡◌, ◌⊎◌, ◌<◌, ◌≤◌, ◌+◌, ℕ, List, length}
use Rattle.duk_hsm.specs.Keys.{HsmKeys}
use Rattle.duk_hsm.specs.declared.fault.HsmFault.{HsmFault}
use Rattle.duk_calls.specs.Answer.{with_front}
use Rattle.duk_calls.specs.Modules.{IsModule, IsNoModule, IsReasonIn, count_in, entry_at, image_with, lmk_in}
use Rattle.duk_calls.specs.declared.fault.Fault.{Fault}
use Rattle.duk_calls.specs.declared.fault.Fault.TheVariants as fault

-- a module has this entry behind those that it had
pub record IsAppended (entry old new : List ℕ) : Type 0 where
  pub length_is : length new ≡ 4706
  pub count_is : count_in new ≡ count_in old + 1
  pub lmk_is : lmk_in new ≡ lmk_in old
  pub before : (i : ℕ) → i < count_in old → entry_at new i ≡ entry_at old i
  pub entry_is : entry_at new (count_in old) ≡ with_front entry (entry_at old (count_in old))
  pub image_is : new ≡ image_with entry old

-- the module has keys with which the key of a key block is loaded, and room for an entry more
pub record MayBeLoaded (Loads : HsmKeys → HsmKeys → Type 0) (image block : List ℕ) : Type 0 where
  pub before : HsmKeys
  pub after : HsmKeys
  pub is_module : IsModule image before
  pub loads : Loads before after
  pub room : count_in image < 9
  pub fits : length block ≤ 512

-- the bytes are no module, or its keys are the reason for this fault
abbrev pub MayNotBeLoaded : (HsmKeys → HsmFault → Type 0) → List ℕ → Fault → Type 0
MayNotBeLoaded Refuses image why =
    ((why ≡ fault.NotAModule) × IsNoModule image) ⊎ IsReasonIn Refuses image why
