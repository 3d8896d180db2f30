-- That no register or image of a till's terminal has the key of a used number, or of an ancestor of
-- one. This project's own, over the key tree of ANSI X9.24-1:2009 annex A.
use Rattle.std.specs.Prelude.{◌≡◌, ◌<◌, ◌⊎◌, ℕ, List, Some, None, length}
use Rattle.duk_hsm.specs.Keys.{HsmKeys}
use Rattle.duk_regs.specs.Registers.{IsSpentIksn, RegisterSet, AreFutureKeysOf, empty_register, register_at}
use Rattle.duk_store.specs.Cell.{Kept}
use Rattle.duk_term.specs.Body.{IsTerminalBody, KeepsRegisters, set_of_body}
use Rattle.duk_term.specs.declared.state.State.{State}
use Rattle.duk_term.specs.declared.state.State.TheVariants.{Stopped, Empty, Loaded}
use Rattle.duk_till.specs.Till.{TillOf}
use Rattle.duk_tree.specs.Derivation.{transaction_key_of}
use Rattle.duk_tree.specs.Frontier.{IsAncestorOrSelf}
use Rattle.duk_tree.specs.Next.{spent_counter}
use Rattle.duk_tree.specs.Path.{IsUsable}
use Rattle.duk_tree.specs.Serial.{Serial}
use Rattle.duk_books.specs.Books.{Frame, Meanings}
use Rattle.duk_stations.specs.Places.{IsAt}
use Rattle.duk_hsm.specs.InitialKey.{IsInitialKeyOf}
use Rattle.duk_books.specs.Numbers.{IsUsedNumber}
use Rattle.duk_stations.specs.Owner.{IsOwner, Owns}
use Rattle.duk_stations.specs.declared.owner.Owner.{Owner}

-- the counter is above every used one under this initial key serial number
abbrev pub IsAboveUsed : List Frame → ℕ → ℕ → Type 0
IsAboveUsed requests iksn counter =
    (ksn : Serial) → IsUsedNumber requests ksn → ksn.iksn ≡ iksn → ksn.counter < counter

-- registers with the future keys of the till's own initial key, at a counter, or spent, above every
-- used one
pub record AreRegistersAboveUsed
    (keys : HsmKeys) (requests : List Frame) (set : RegisterSet) : Type 0 where
  pub initial : List ℕ
  pub initial_is : IsInitialKeyOf keys set.iksn initial
  pub counter_is : IsUsable set.counter ⊎ (set.counter ≡ spent_counter)
  pub future_keys : AreFutureKeysOf initial set
  pub above : IsAboveUsed requests set.iksn set.counter

-- a usable node, and so not the root, that is neither a used number nor an ancestor of one
pub record IsUnusedNode (requests : List Frame) (iksn node : ℕ) : Type 0 where
  pub usable : IsUsable node
  pub unused : (ksn : Serial) → IsUsedNumber requests ksn → ksn.iksn ≡ iksn
      → ¬ IsAncestorOrSelf node ksn.counter

-- a register holds the key of such a node
pub record IsKeyOfUnusedNode
    (requests : List Frame) (initial : List ℕ) (set : RegisterSet) (place : ℕ) : Type 0 where
  pub node : ℕ
  pub unused : IsUnusedNode requests set.iksn node
  pub holds : register_at set.registers place ≡ transaction_key_of initial set.iksn node

-- a register holds no key, or that of such a node
abbrev pub IsEmptyOrOfUnusedNode : List Frame → List ℕ → RegisterSet → ℕ → Type 0
IsEmptyOrOfUnusedNode requests initial set place =
    (register_at set.registers place ≡ empty_register)
    ⊎ IsKeyOfUnusedNode requests initial set place

-- none of the 21 registers holds the key of a used number or of an ancestor of one, the root among
-- these
pub record NoUsedKey (keys : HsmKeys) (requests : List Frame) (set : RegisterSet) : Type 0 where
  pub initial : List ℕ
  pub initial_is : IsInitialKeyOf keys set.iksn initial
  pub are_21 : length set.registers ≡ 21
  pub registers : (place : ℕ) → place < 21 → IsEmptyOrOfUnusedNode requests initial set place

-- this holds of the registers of a running terminal
abbrev pub IfLoaded : (RegisterSet → Type 0) → State → Type 0
IfLoaded P Stopped = Unit {0}
IfLoaded P Empty = Unit {0}
IfLoaded P (Loaded set pending) = P set

-- the body is an image with its zeros after it, which has no byte but those of its registers, and
-- this holds of them
pub record HasImageWith (P : RegisterSet → Type 0) (body : List ℕ) : Type 0 where
  pub is_body : IsTerminalBody body
  pub keeps : KeepsRegisters body (set_of_body body)
  pub holds : P (set_of_body body)

-- this holds of what a terminal's cell keeps
abbrev pub IfKept : (RegisterSet → Type 0) → Kept → Type 0
IfKept P None = Unit {0}
IfKept P (Some body) = HasImageWith P body

-- this holds of the registers of a till's terminal, if it runs, and of each image that the terminal's
-- cell may find after a stop
pub record InRegistersAndImages
    {C B J I : Type 0} (m : Meanings C B J I) (P : RegisterSet → Type 0) (till : TillOf C B)
    : Type 0 where
  pub registers : IfLoaded P till.terminal.state
  pub images : (kept : Kept) → (m.cell.state_of till.terminal.cell).found kept → IfKept P kept

-- this holds of each till by its number: of its terminal's registers, if it runs, and of each image
-- that the terminal's cell may find after a stop
abbrev pub InEachTill : {C B J I : Type 0} → Meanings C B J I → (ℕ → RegisterSet → Type 0)
    → List (TillOf C B) → Type 0
InEachTill m P tills =
    (t : ℕ) (till : TillOf _ _) → IsAt tills t till → InRegistersAndImages m (P t) till

-- a till's registers remember each of its initial key serial numbers under which a request or a
-- reversal was sent: it is their present one, or a past one
abbrev pub RemembersUsed : List Frame → List Owner → ℕ → RegisterSet → Type 0
RemembersUsed requests owners t set =
    (ksn : Serial) → IsUsedNumber requests ksn → Owns owners ksn.iksn t
    → IsSpentIksn ksn.iksn set

-- a till owns the initial key serial number of its registers, which hold the future keys of its own
-- initial key above every used number, and remember those of all its used numbers
pub record OwnsAboveUsed
    (keys : HsmKeys) (requests : List Frame) (owners : List Owner) (t : ℕ)
    (set : RegisterSet) : Type 0 where
  pub owned : IsOwner owners set.iksn t
  pub above : AreRegistersAboveUsed keys requests set
  pub remembers : RemembersUsed requests owners t set
