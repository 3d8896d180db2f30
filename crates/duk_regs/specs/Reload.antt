-- A terminal is given another initial key: this project's own.
use Rattle.std.specs.Prelude.{◌≡◌, ℕ, List, [], ◌∷◌, ◌++◌}
use Rattle.duk_regs.specs.Registers.{RegisterSet, IsRegisterSet, AreFutureKeysOf}

-- how a reload changes what a terminal keeps: its registers hold the future keys of the new initial
-- key at the first number, and the initial key serial number that it had is past
pub record IsReloaded (initial : List ℕ) (iksn : ℕ) (old new : RegisterSet) : Type 0 where
  pub iksn_is : new.iksn ≡ iksn
  pub first_counter : new.counter ≡ 1
  pub past_is : new.past ≡ old.past ++ old.iksn ∷ []
  pub future_keys : AreFutureKeysOf initial new
  pub set_is : IsRegisterSet new
