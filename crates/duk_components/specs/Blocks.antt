-- The key block of a key under a local master key, of which the components are given (this project's
-- own, over what `wrap` makes of its arguments).
use Rattle.std.specs.Prelude.{◌≡◌, ◌⊎◌, ℕ, List, ◌++◌, codes}
use Rattle.hex.specs.Hex.{encode_upper}
use Rattle.duk_commands.specs.CheckValues.{combined}
use Rattle.duk_commands.specs.Wrap.{IsWrapRefused, IsWrapText, WrapArguments, wrap_arguments}
use Rattle.duk_commands.specs.declared.fault.Fault.{Fault}
use Rattle.duk_commands.specs.declared.fault.Fault.TheVariants.{OutOfMemory}
use Rattle.duk_components.specs.Components.{AreOfLmk, IsLmkRefused, lmk_text}
use Rattle.duk_components.specs.declared.fault.ComponentFault.{ComponentFault}
use Rattle.duk_components.specs.declared.fault.ComponentFault.TheVariants.{Wrap}
use Rattle.duk_tdes.specs.declared.key.KeyBytes.{KeyBytes}

-- what is to be wrapped, as written
pub record Wrapped : Type 0 where
  pub key : List ℕ
  pub fields : List ℕ
  pub pad : List ℕ

abbrev pub wrapped : List ℕ → List ℕ → List ℕ → Wrapped
wrapped key fields pad = record { key = key; fields = fields; pad = pad }

-- the arguments of `wrap` with the digits of this protection key
abbrev pub wrap_under : List ℕ → Wrapped → WrapArguments
wrap_under protection_key given =
    wrap_arguments (encode_upper protection_key) given.fields given.key given.pad

-- the check values of components and of the local master key that they make, and behind them the line
-- of the key block that `wrap` writes with that key
pub record IsBlockText (lines : List (List ℕ)) (given : Wrapped) (text : List ℕ) : Type 0 where
  pub keys : List KeyBytes
  pub are : AreOfLmk lines keys
  pub block : List ℕ
  pub block_is : IsWrapText (wrap_under (combined keys) given) block
  pub text_is : text ≡ lmk_text keys ++ codes "block " ++ block

-- the lines write components of a local master key, and `wrap` refuses the others under it
pub record IsWrapRefusedUnder (lines : List (List ℕ)) (given : Wrapped) (why : Fault) : Type 0 where
  pub keys : List KeyBytes
  pub are : AreOfLmk lines keys
  pub refused : IsWrapRefused (wrap_under (combined keys) given) why

-- why there is no key block: the components are refused, or then what is to be wrapped; memory may be
-- refused at any time
abbrev pub IsBlockRefused : List (List ℕ) → Wrapped → ComponentFault → Type 0
IsBlockRefused lines given (Wrap why) = (why ≡ OutOfMemory) ⊎ IsWrapRefusedUnder lines given why
IsBlockRefused lines given why = IsLmkRefused lines why
