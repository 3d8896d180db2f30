-- What a till shows to whoever opens it: this project's own, over the key tree of ANSI X9.24-1:2009
-- annex A.
--
-- Whoever opens a till between its calls, or after a stop, finds in it:
-- - registers, in the memory of its terminal and in each image that the terminal's cell may keep;
-- - while the terminal waits for a reply, in its memory alone, the number that it took last and that
--   number's reply key. No other key of a used number is in a till, and this one is given up with the
--   reply, with the next number, at a load and at each restart;
-- - its last purchase, in the memory of the till and in its book (`duk_till`, Image.antt).
--
-- That a counter and the past serial numbers move as they should, whatever is paid, is said by
-- `duk_regs` (`IsTaken`), and that a book keeps the amount of its own purchase, by `duk_till`.
--
-- Registers follow from keys and numbers alone, and so do images and reply keys: no PIN, no PAN and no
-- amount goes into them. A call that is under way, and a slot of a disk that does not count, are not
-- looked into here.
use Rattle.std.specs.Prelude.{◌≡◌, ◌⊎◌, ℕ, List, Option, Some, None, Any}
use Rattle.duk_hsm.specs.InitialKey.{IsInitialKeyOf}
use Rattle.duk_hsm.specs.Keys.{HsmKeys, key_set_of}
use Rattle.duk_regs.specs.Registers.{RegisterSet}
use Rattle.duk_term.specs.Body.{set_of_body}
use Rattle.duk_term.specs.Reversal.{HasUsed}
use Rattle.duk_term.specs.declared.state.Pending.{Pending}
use Rattle.duk_term.specs.declared.state.State.{State}
use Rattle.duk_term.specs.declared.state.State.TheVariants.{Stopped, Empty, Loaded}
use Rattle.duk_till.specs.Till.{TillOf}
use Rattle.duk_tree.specs.Derivation.{response_key_of, transaction_key_of}
use Rattle.duk_tree.specs.Serial.{iksn_prefix_of}
use Rattle.duk_books.specs.Books.{Meanings}

-- ---- what is found in a till

-- some till has this in the memory of its terminal
abbrev pub HasMemory : {C B : Type 0} → List (TillOf C B) → State → Type 0
HasMemory tills state = Any (λ till. till.terminal.state ≡ state) tills

-- the cell of some till's terminal may find these bytes after a stop
abbrev pub HasImage : {C B J I : Type 0} → Meanings C B J I → List (TillOf C B) → List ℕ → Type 0
HasImage m tills body =
    Any (λ till. (m.cell.state_of till.terminal.cell).found (Some body)) tills

-- some till shows these registers: its terminal has them in memory, or they are read in an image that
-- the terminal's cell may find
abbrev pub ShowsRegisters : {C B J I : Type 0} → Meanings C B J I → List (TillOf C B) → RegisterSet
    → Type 0
ShowsRegisters m tills set =
    ((waits : Option Pending) × HasMemory tills (Loaded set waits))
    ⊎ ((body : List ℕ) × HasImage m tills body × (set ≡ set_of_body body))

-- ---- when two tills stand alike, whatever was paid at them

-- registers of two tills, each over a host with these keys, stand alike: they have one initial key
-- serial number, one next counter and the same past initial key serial numbers, and the hosts hold
-- one base derivation key for them
pub record StandAlike (keys others : HsmKeys) (one other : RegisterSet) : Type 0 where
  pub same_iksn : one.iksn ≡ other.iksn
  pub same_counter : one.counter ≡ other.counter
  pub same_past : one.past ≡ other.past
  pub one_key : key_set_of keys (iksn_prefix_of one.iksn)
      ≡ key_set_of others (iksn_prefix_of other.iksn)

-- two terminals wait for the reply to one number, or both for none
abbrev pub WaitForOneNumber : Option Pending → Option Pending → Type 0
WaitForOneNumber None None = Unit {0}
WaitForOneNumber (Some one) (Some other) = one.ksn ≡ other.ksn
WaitForOneNumber _ _ = ⊥

-- terminals with these memories stand alike: their registers do, and they wait for one number or for
-- none; a stopped terminal, and one that was not loaded, has neither
abbrev pub TerminalsStandAlike : HsmKeys → HsmKeys → State → State → Type 0
TerminalsStandAlike keys others Stopped Stopped = Unit {0}
TerminalsStandAlike keys others Empty Empty = Unit {0}
TerminalsStandAlike keys others (Loaded one waits) (Loaded other awaits) =
    StandAlike keys others one other × WaitForOneNumber waits awaits
TerminalsStandAlike keys others _ _ = ⊥

-- ---- what a terminal has while it waits

-- a terminal waits for the reply to a number that it used, under its present initial key serial
-- number, and what it has for that is the number's reply key: the variant for responses of its
-- transaction key
pub record WaitsWithItsReplyKey (keys : HsmKeys) (set : RegisterSet) (pending : Pending)
    : Type 0 where
  pub initial : List ℕ
  pub initial_is : IsInitialKeyOf keys set.iksn initial
  pub used : HasUsed set pending.ksn
  pub key_is : pending.response_key
      ≡ response_key_of (transaction_key_of initial set.iksn pending.ksn.counter)
