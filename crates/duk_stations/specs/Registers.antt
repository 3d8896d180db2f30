-- What the crates below say of registers from which numbers are taken: this project's own.
use Rattle.std.specs.Prelude.{◌≤◌, ◌<◌, ◌^◌, ℕ, List, length}
use Rattle.duk_regs.specs.Registers.{AreFutureKeysOf, HaveSixteenBytes, IsRegisterSet, IsTaken, RegisterSet}
use Rattle.duk_tdes.specs.Key.{IsKey}
use Rattle.duk_term.specs.Begin.{TakesNumber}
use Rattle.duk_term.specs.Body.{IsFoundAgain}
use Rattle.duk_tree.specs.Path.{IsUsable, path_of}

-- a counter has 21 bits, one to ten of them ones
abbrev pub UsableFits : Type 0
UsableFits =
    (counter : ℕ) → IsUsable counter
    → (counter < 2 ^ 21) × (1 ≤ length (path_of counter)) × (length (path_of counter) ≤ 10)

-- registers that are kept are found again; and where a number is taken from registers, what is left
-- are registers, and hold the future keys of the same initial key
pub record RegisterLaws : Type 0 where
  pub left : (set left : RegisterSet) (key : List ℕ) → TakesNumber set key left
      → HaveSixteenBytes left.registers → IsFoundAgain left
  pub of_key : (initial : List ℕ) (set : RegisterSet) → IsKey 16 initial → IsRegisterSet set
      → AreFutureKeysOf initial set → IsFoundAgain set
  pub fits : UsableFits
  pub set : (old new : RegisterSet) (key : List ℕ) → IsUsable old.counter → IsTaken old key new
      → IsRegisterSet old → IsRegisterSet new
  pub future_keys : (initial : List ℕ) (old new : RegisterSet) (key : List ℕ)
      → IsUsable old.counter → IsTaken old key new → AreFutureKeysOf initial old
      → AreFutureKeysOf initial new
