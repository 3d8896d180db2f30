-- What the crates below say of transaction keys and PIN blocks: this project's own.
use Rattle.std.specs.Prelude.{◌≡◌, ℕ, List}
use Rattle.duk_pin.specs.PinBlock.{IsPinBlock, pin_block}
use Rattle.duk_regs.specs.Registers.{AreFutureKeysOf, IsTaken, RegisterSet}
use Rattle.duk_store.specs.Cell.{CellMeaning}
use Rattle.duk_tdes.specs.Key.{IsKey}
use Rattle.duk_tdes.specs.Tdes.{tdes_decrypted, tdes_encrypted}
use Rattle.duk_term.specs.Begin.{IsBegun}
use Rattle.duk_term.specs.Terminal.{TerminalOf}
use Rattle.duk_term.specs.declared.purchase.Purchase.{Purchase}
use Rattle.duk_tree.specs.Derivation.{node_key, pin_key_of, transaction_key_of}
use Rattle.duk_tree.specs.Path.{IsUsable}
use Rattle.duk_tree.specs.Serial.{IsSerial, Serial, iksn_prefix_of, prefix_of}

-- the key that registers give is the transaction key of their number, of sixteen bytes, and what is
-- enciphered under its variant for PINs is deciphered again: the PIN block of a purchase that begins
pub record KeyLaws {C : Type 0} (cell : CellMeaning C) : Type 0 where
  pub readable : (purchase : Purchase) (before after : TerminalOf C) (frame : List ℕ)
      → IsBegun cell purchase before after frame
      → IsPinBlock purchase.pin purchase.pan (pin_block purchase.pin purchase.pan)
  pub taken : (initial : List ℕ) (old new : RegisterSet) (key : List ℕ) → IsUsable old.counter
      → IsTaken old key new → AreFutureKeysOf initial old
      → key ≡ transaction_key_of initial old.iksn old.counter
  pub prefixes : (ksn : Serial) → IsSerial ksn → prefix_of ksn ≡ iksn_prefix_of ksn.iksn
  pub node : (initial : List ℕ) (iksn : ℕ) (path : List ℕ) → IsKey 16 initial
      → IsKey 16 (node_key initial iksn path)
  pub pin_key : (key : List ℕ) → IsKey 16 key → IsKey 16 (pin_key_of key)
  pub deciphered : (key pin pan : List ℕ) → IsKey 16 key → IsPinBlock pin pan (pin_block pin pan)
      → tdes_decrypted key (tdes_encrypted key (pin_block pin pan)) ≡ pin_block pin pan
