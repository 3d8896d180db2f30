-- What the arguments of `issue` ask for (this project's own).
use Rattle.std.specs.Prelude.{◌≡◌, ⊤, ℕ, List, None, Option, Some, IsSome}
use Rattle.std.specs.Result.{result_ok}
use Rattle.hex.specs.Hex.{decode_sized}
use Rattle.duk_commands.specs.Decimal.{IsDecimal}
use Rattle.duk_io.specs.FirstFault.{IsFirst}
use Rattle.duk_mac.specs.CheckValue.{check_value_of}
use Rattle.duk_tdes.specs.KeyText.{double_key_of_text, tdes_key_of_text}
use Rattle.duk_tree.specs.Serial.{iksn_of_text}
use Rattle.duk_commands.specs.IssueFault.{issue_rank}
use Rattle.duk_commands.specs.Numbers.{FitsFrom, most_terminals}
use Rattle.duk_commands.specs.declared.issue.fault.IssueFault.{IssueFault}
use Rattle.duk_commands.specs.declared.issue.fault.IssueFault.TheVariants as fault
use Rattle.duk_commands.specs.declared.issue.order.Order.{Order}

-- the arguments, as written
pub record OrderArguments : Type 0 where
  pub bdk : List ℕ
  pub loading : List ℕ
  pub iksn : List ℕ
  pub count : List ℕ
  pub kcv : Option (List ℕ)

-- the five together
abbrev pub order_arguments : List ℕ → List ℕ → List ℕ → List ℕ → Option (List ℕ) → OrderArguments
order_arguments bdk loading iksn count kcv =
    record { bdk = bdk; loading = loading; iksn = iksn; count = count; kcv = kcv }

-- a text says for how many terminals, from this initial key serial number on
pub record IsCountFrom (first : ℕ) (text : List ℕ) (count : ℕ) : Type 0 where
  pub decimal : IsDecimal most_terminals text count
  pub fits : FitsFrom first count

-- the check value that six hexadecimal digits of either case write
abbrev pub check_value_of_text : List ℕ → Option (List ℕ)
check_value_of_text text = result_ok (decode_sized text 3)

-- a text that is there writes a check value
abbrev pub WritesCheckValue : Option (List ℕ) → Type 0
WritesCheckValue None = ⊤
WritesCheckValue (Some text) = IsSome (check_value_of_text text)

-- a base derivation key has the check value that a text writes, where it is there
abbrev pub HasCheckValue : Option (List ℕ) → List ℕ → Type 0
HasCheckValue None bdk = ⊤
HasCheckValue (Some text) bdk = check_value_of_text text ≡ Some (check_value_of bdk)

-- the arguments are read
pub record IsOrderOf (arguments : OrderArguments) (order : Order) : Type 0 where
  pub bdk_read : double_key_of_text arguments.bdk ≡ Some order.bdk
  pub loading_read : tdes_key_of_text arguments.loading ≡ Some order.loading
  pub iksn_read : iksn_of_text arguments.iksn ≡ Some order.first
  pub count_read : IsCountFrom order.first arguments.count order.count
  pub checked : HasCheckValue arguments.kcv order.bdk

-- what the arguments must meet, or else are refused with this fault
abbrev pub MeetsOrder : OrderArguments → IssueFault → Type 0
MeetsOrder arguments fault.BdkRefused = IsSome (double_key_of_text arguments.bdk)
MeetsOrder arguments fault.LoadingRefused = IsSome (tdes_key_of_text arguments.loading)
MeetsOrder arguments fault.IksnRefused = IsSome (iksn_of_text arguments.iksn)
MeetsOrder arguments fault.CountRefused =
    (first count : ℕ) × (iksn_of_text arguments.iksn ≡ Some first)
    × IsCountFrom first arguments.count count
MeetsOrder arguments fault.KcvRefused = WritesCheckValue arguments.kcv
MeetsOrder arguments fault.KcvDiffers =
    (bdk : List ℕ) × (double_key_of_text arguments.bdk ≡ Some bdk)
    × HasCheckValue arguments.kcv bdk
MeetsOrder arguments _ = Unit {0}

-- why the arguments are refused: the first of the faults, in their order, whose condition they do
-- not meet
abbrev pub IsOrderRefused : OrderArguments → IssueFault → Type 0
IsOrderRefused arguments =
    IsFirst issue_rank (MeetsOrder arguments) (λ fault. ¬ MeetsOrder arguments fault)
