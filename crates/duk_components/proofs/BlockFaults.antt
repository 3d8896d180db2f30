-- Why there is no key block under a local master key.
use Rattle.std.proofs.Common.{◌≡◌, ◌⊎◌, List, inl, inr, subst, ℕ}
use Rattle.duk_commands.specs.CheckValues.{combined}
use Rattle.duk_commands.specs.Wrap.{IsWrapRefused}
use Rattle.duk_commands.specs.declared.fault.Fault.{Fault}
use Rattle.duk_commands.specs.declared.fault.Fault.TheVariants.{OutOfMemory}
use Rattle.duk_components.specs.Blocks.{IsBlockRefused, Wrapped, wrap_under}
use Rattle.duk_components.specs.Components.{AreOfLmk}
use Rattle.duk_components.specs.declared.fault.ComponentFault.TheVariants.{Wrap}
use Rattle.duk_tdes.specs.KeyBytes.{bytes_of}
use Rattle.duk_tdes.specs.declared.key.KeyBytes.{KeyBytes}

pub refused_under : (lines : List (List ℕ)) (given : Wrapped) (lmk : KeyBytes) (keys : List KeyBytes) (why : Fault)
    → AreOfLmk lines keys → bytes_of lmk ≡ combined keys
    → (why ≡ OutOfMemory) ⊎ IsWrapRefused (wrap_under (bytes_of lmk) given) why
    → IsBlockRefused lines given (Wrap why)
refused_under lines given lmk keys why are same (inl memory) = inl memory
refused_under lines given lmk keys why are same (inr refused) =
    inr (record { keys = keys; are = are; refused = subst (λ key. IsWrapRefused (wrap_under key given) why) same refused })
