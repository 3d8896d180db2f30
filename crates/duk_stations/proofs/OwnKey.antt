-- Registers of the own initial key give the transaction key of their next number.
use Rattle.std.proofs.Common.{ℕ, List, sym, ap, subst, ◌∙◌}
use Rattle.duk_frame.specs.Payment.{enciphered_pin, request_of}
use Rattle.duk_frame.specs.Request.{IsRequest}
use Rattle.duk_hsm.specs.Commands.{IsPinOf, IsTransactionKey}
use Rattle.duk_hsm.specs.Keys.{HsmKeys, key_set_of}
use Rattle.duk_pin.specs.PinBlock.{IsPinBlock}
use Rattle.duk_regs.specs.Registers.{RegisterSet}
use Rattle.duk_store.specs.Cell.{CellMeaning}
use Rattle.duk_tdes.specs.Key.{IsKey}
use Rattle.duk_term.specs.Begin.{IsBegun, TakesNumber}
use Rattle.duk_term.specs.Terminal.{TerminalOf, serial_of}
use Rattle.duk_term.specs.declared.purchase.Purchase.{Purchase}
use Rattle.duk_tree.specs.Derivation.{pin_key_of, transaction_key_of}
use Rattle.duk_tree.specs.Path.{path_of}
use Rattle.duk_tree.specs.Serial.{IsSerial}
use Rattle.duk_stations.specs.Keys.{KeyLaws}
use Rattle.duk_stations.proofs.Safe.{HasOwnKeys}

-- the frame of a transaction that is begun is a request
abbrev pub BegunIsRequest : {C : Type 0} → CellMeaning C → Type 0
BegunIsRequest cell = (purchase : Purchase) (old new : TerminalOf _) (frame : List ℕ) → (begun : IsBegun cell purchase old new frame)
    → IsRequest frame (request_of begun.key (serial_of begun.set) purchase.pan purchase.pin purchase.amount)

module _ {C : Type 0} (cell : CellMeaning C) (laws : KeyLaws cell) (keys : HsmKeys) where
  pub own_transaction_key : (set left : RegisterSet) (key : List ℕ) → TakesNumber set key left → IsSerial (serial_of set) → HasOwnKeys keys set → IsTransactionKey keys (serial_of set) key
  own_transaction_key set left key takes serial own =
      let initial = own.initial_is in
      let taken = laws.taken own.initial set left key takes.usable takes.taken own.future_keys in
      record {
        bdk = initial.bdk;
        held = ap (key_set_of keys) (laws.prefixes (serial_of set) serial) ∙ initial.held;
        usable = takes.usable;
        key_is = taken ∙ ap (λ (root : List ℕ). transaction_key_of root set.iksn set.counter) initial.initial_is;
      }

  -- and the PIN in the block of a request that is made with it is found again
  pub pin_found : (purchase : Purchase) (before after : TerminalOf C) (frame : List ℕ) (begun : IsBegun cell purchase before after frame) → HasOwnKeys keys begun.set
      → IsPinOf begun.key (enciphered_pin begun.key purchase.pin purchase.pan) purchase.pan purchase.pin
  pin_found purchase before after frame begun own =
      let takes = begun.takes.takes in
      let readable = laws.readable purchase before after frame begun in
      let taken = laws.taken own.initial begun.set begun.left begun.key takes.usable takes.taken own.future_keys in
      let is_key : IsKey 16 begun.key = subst (IsKey 16) (sym taken) (laws.node own.initial begun.set.iksn (path_of begun.set.counter) own.initial_is.is_key) in
      subst (IsPinBlock purchase.pin purchase.pan) (sym (laws.deciphered (pin_key_of begun.key) purchase.pin purchase.pan (laws.pin_key begun.key is_key) readable)) readable
