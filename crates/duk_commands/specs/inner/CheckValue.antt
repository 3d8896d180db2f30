-- How a check value is tested: this project's own.
use Rattle.std.specs.Prelude.{List, Option, ℕ}
use Rattle.duk_commands.specs.Order.{HasCheckValue, WritesCheckValue}
use Rattle.duk_commands.specs.declared.issue.fault.IssueFault.{IssueFault}
use Rattle.duk_commands.specs.declared.issue.fault.IssueFault.TheVariants as fault

-- why a key is refused for the check value that it is to have
abbrev pub IsCheckValueRefused : Option (List ℕ) → List ℕ → IssueFault → Type 0
IsCheckValueRefused kcv bdk fault.KcvRefused = ¬ WritesCheckValue kcv
IsCheckValueRefused kcv bdk fault.KcvDiffers = WritesCheckValue kcv × ¬ HasCheckValue kcv bdk
IsCheckValueRefused kcv bdk _ = ⊥
