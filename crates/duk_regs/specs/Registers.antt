-- The future key registers of a terminal (ANSI X9.24-1:2009 annex A).
use Rattle.std.specs.Prelude.{◌≡◌, ◌≢◌, ◌⊎◌, ◌<◌, ◌≤◌, ◌+◌, ◌^◌, ℕ, List, All, AllPairs, Contains, length, replicate, slice_index_or}
use Rattle.duk_tree.specs.Serial.{IsIksn, low_bytes}
use Rattle.duk_tree.specs.Path.{IsUsable, path_of, last_place}
use Rattle.duk_tree.specs.Next.{spent_counter, ComesAfter}
use Rattle.duk_tree.specs.Frontier.{IsInFrontier}
use Rattle.duk_tree.specs.Derivation.{step_of, transaction_key_of}

-- what a terminal keeps: its initial key serial number, the counter that it uses next, its
-- registers, and (this project's own) the initial key serial numbers that it had before, in order
-- of their loading
pub record RegisterSet : Type 0 where
  pub iksn : ℕ
  pub counter : ℕ
  pub registers : List (List ℕ)
  pub past : List ℕ

-- the terminal had this initial key serial number before
abbrev pub IsPastOf : ℕ → RegisterSet → Type 0
IsPastOf iksn set = Contains set.past iksn

-- the terminal has this initial key serial number, or had it before
abbrev pub IsSpentIksn : ℕ → RegisterSet → Type 0
IsSpentIksn iksn set = (iksn ≡ set.iksn) ⊎ IsPastOf iksn set

-- this project's own: what a register holds where it holds no key
abbrev pub empty_register : List ℕ
empty_register = replicate 16 0

-- a register by its bit place of the counter: place p is Future Key Register #(21 - p), since the
-- standard numbers bits from the left
abbrev pub register_at : List (List ℕ) → ℕ → List ℕ
register_at registers place = slice_index_or registers place empty_register

-- the place of the lowest one bit of a counter, where `Set Bit` sets a bit
abbrev pub lowest_place : ℕ → ℕ
lowest_place counter = last_place (path_of counter)

-- at this counter the frontier has no node whose lowest one bit is at this place
abbrev pub IsEmptyAt : ℕ → ℕ → Type 0
IsEmptyAt counter place = (node : ℕ) → IsInFrontier counter node → lowest_place node ≢ place

-- each register that has no node of the frontier holds no key
abbrev pub LeavesEmpty : ℕ → List (List ℕ) → Type 0
LeavesEmpty counter registers = (place : ℕ) → place < 21 → IsEmptyAt counter place
    → register_at registers place ≡ empty_register

-- each of the 21 registers has sixteen bytes
abbrev pub HaveSixteenBytes : List (List ℕ) → Type 0
HaveSixteenBytes registers =
    (place : ℕ) → place < 21 → length (register_at registers place) ≡ 16

-- what holds of each terminal
pub record IsRegisterSet (set : RegisterSet) : Type 0 where
  pub iksn_is : IsIksn set.iksn
  pub counter_is : IsUsable set.counter ⊎ (set.counter ≡ spent_counter)
  pub are_21 : length set.registers ≡ 21
  pub leaves_empty : LeavesEmpty set.counter set.registers
  pub past_are_iksns : All IsIksn set.past
  pub past_are_at_most_8 : length set.past ≤ 8
  pub past_are_different : AllPairs (λ one other. one ≢ other) set.past
  pub iksn_is_not_past : ¬ IsPastOf set.iksn set

-- registers hold the future keys of an initial key: each node of the frontier has its key in the
-- register of its lowest one bit, and each other register is empty
pub record AreFutureKeysOf (initial : List ℕ) (set : RegisterSet) : Type 0 where
  pub are_21 : length set.registers ≡ 21
  pub holds : (node : ℕ) → IsInFrontier set.counter node
      → register_at set.registers (lowest_place node) ≡ transaction_key_of initial set.iksn node
  pub leaves_empty : LeavesEmpty set.counter set.registers

-- the register of a place holds the key of a node of the frontier
pub record IsKeyOfNode (initial : List ℕ) (set : RegisterSet) (place : ℕ) : Type 0 where
  pub node : ℕ
  pub is_in_frontier : IsInFrontier set.counter node
  pub is_at : lowest_place node ≡ place
  pub holds : register_at set.registers place ≡ transaction_key_of initial set.iksn node

-- how a transaction changes what a terminal keeps (`Set Bit`, `New Key`), whatever its registers
-- stand for: the register of the lowest one bit gives its key and is emptied, and under ten one
-- bits the registers below it get the keys of the children
pub record IsTaken (old : RegisterSet) (key : List ℕ) (new : RegisterSet) : Type 0 where
  pub same_iksn : new.iksn ≡ old.iksn
  pub same_past : new.past ≡ old.past
  pub same_length : length new.registers ≡ length old.registers
  pub next_counter : ComesAfter old.counter new.counter
  pub key_is : key ≡ register_at old.registers (lowest_place old.counter)
  pub emptied : register_at new.registers (lowest_place old.counter) ≡ empty_register
  pub filled : length (path_of old.counter) < 10 → (place : ℕ) → place < lowest_place old.counter
      → register_at new.registers place
      ≡ step_of key (low_bytes (record { iksn = old.iksn; counter = old.counter + 2 ^ place }))
  pub not_filled : 10 ≤ length (path_of old.counter) → (place : ℕ)
      → place < lowest_place old.counter
      → register_at new.registers place ≡ register_at old.registers place
  pub others_stay : (place : ℕ) → lowest_place old.counter < place
      → register_at new.registers place ≡ register_at old.registers place
