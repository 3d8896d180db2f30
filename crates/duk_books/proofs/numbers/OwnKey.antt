-- The keys of what tills send.
use Rattle.std.proofs.Common.{◌≡◌, ◌++◌, ◌∷◌, [], ℕ, List, Option, All, inl, inr, suc, refl, sym, ap, subst}
use Rattle.std.proofs.lemmas.List.Elements.{All-nil, All-push}
use Rattle.duk_frame.specs.Payment.{request_of}
use Rattle.duk_hsm.specs.Keys.{HsmKeys}
use Rattle.duk_regs.specs.Registers.{RegisterSet}
use Rattle.duk_reversal.specs.Authentic.{reversal_of}
use Rattle.duk_term.specs.Begin.{IsBegun}
use Rattle.duk_term.specs.Reversal.{IsReversalBegun, numbers_of}
use Rattle.duk_term.specs.Terminal.{TerminalOf, serial_of}
use Rattle.duk_term.specs.declared.purchase.Purchase.{Purchase}
use Rattle.duk_term.specs.declared.state.Pending.{Pending}
use Rattle.duk_term.specs.declared.state.State.TheVariants.{Loaded}
use Rattle.duk_till.specs.Till.{TillOf}
use Rattle.duk_tree.specs.Serial.{Serial}
use Rattle.duk_books.specs.Books.{BooksOf, Frame, Meanings}
use Rattle.duk_stations.specs.Places.{ChangesOnly}
use Rattle.duk_books.specs.NoUsedKey.{AreRegistersAboveUsed, IfLoaded, InEachTill, OwnsAboveUsed}
use Rattle.duk_books.specs.OwnKeyOfRequests.{IsOwnKeyRequest, IsOwnKeyReversal, IsOwnKeySent}
use Rattle.duk_books.specs.Reached.{Reached}
use Rattle.duk_stations.proofs.PlacesInLists.{before_at}
use Rattle.duk_books.proofs.moves.KeysStay.{change_keys}
use Rattle.duk_books.proofs.moves.ReachedByMoves.{reached_all}
use Rattle.duk_books.proofs.moves.StepChanges.{Change, answered, host, load, move_change, nothing, quiet, reverse, send, tell, unanswered}
use Rattle.duk_books.proofs.numbers.AllSafe.{BegunIsReversal}
use Rattle.duk_stations.proofs.OwnKey.{BegunIsRequest, own_transaction_key, pin_found}
use Rattle.duk_stations.specs.Keys.{KeyLaws}
use Rattle.duk_stations.proofs.Safe.{HasOwnKeys}

-- what the laws of the crates below say of keys and frames, and that the registers of each till's
-- terminal stand for its own initial key
pub record OwnKeyLaws {C B J I : Type 0} (m : Meanings C B J I) : Type 0 where
  pub future_keys : (books : BooksOf C B J I) → Reached m books → InEachTill m (OwnsAboveUsed books.host.keys books.requests books.owners) books.tills
  pub request : BegunIsRequest m.cell
  pub reversal : BegunIsReversal m.cell
  pub keys : KeyLaws m.cell

module _ {C B J I : Type 0} (m : Meanings C B J I) (laws : OwnKeyLaws m) (keys : HsmKeys) (requests : List Frame) where
  pub of_above : (set : RegisterSet) → AreRegistersAboveUsed keys requests set → HasOwnKeys keys set
  of_above set above = record { initial = above.initial; initial_is = above.initial_is; future_keys = above.future_keys }

  own_request : (purchase : Purchase) (before after : TerminalOf C) (frame : Frame) (begun : IsBegun m.cell purchase before after frame.items) → AreRegistersAboveUsed keys requests begun.set → IsOwnKeyRequest keys frame
  own_request purchase before after frame begun above =
      let set = begun.set in
      let key = begun.key in
      let takes = begun.takes.takes in
      let is_request = laws.request purchase before after frame.items begun in
      record {
        request = request_of key (serial_of set) purchase.pan purchase.pin purchase.amount;
        pin = purchase.pin;
        is_request = is_request;
        authentic = record { key = key; key_is = own_transaction_key m.cell laws.keys keys set begun.left key takes is_request.fields.ksn_is (of_above set above); mac_is = refl };
        frame_is = begun.frame_is;
        pin_is_found = pin_found m.cell laws.keys keys purchase before after frame.items begun (of_above set above);
      }

  own_reversal : (reversed ksn : Serial) (before after : TerminalOf C) (frame : Frame) (begun : IsReversalBegun m.cell reversed ksn frame.items before after) → AreRegistersAboveUsed keys requests begun.set → IsOwnKeyReversal keys frame
  own_reversal reversed ksn before after frame begun above =
      let is_reversal = laws.reversal reversed ksn frame.items before after begun in
      record {
        reversal = reversal_of begun.key (numbers_of begun.set reversed);
        is_reversal = is_reversal;
        authentic = record { key = begun.key; key_is = own_transaction_key m.cell laws.keys keys begun.set begun.left begun.key begun.takes.takes is_reversal.fields.numbers_are.ksn_is (of_above begun.set above); mac_is = refl };
        frame_is = begun.frame_is;
      }

-- all that was sent is made under the transaction keys of its numbers
abbrev AreOwn : {C B J I : Type 0} → BooksOf C B J I → Type 0
AreOwn books = All (IsOwnKeySent books.host.keys) books.requests

module _ {C B J I : Type 0} (m : Meanings C B J I) (laws : OwnKeyLaws m) (old : BooksOf C B J I) (reached : Reached m old) (own : AreOwn old) where
  -- the registers of a till from which a number is taken
  above_of : (t : ℕ) (P : TillOf C B → TillOf C B → Type 0) (new : List (TillOf C B)) (change : ChangesOnly t P old.tills new) (set : RegisterSet) (pending : Option Pending)
      → change.before.terminal.state ≡ Loaded set pending → AreRegistersAboveUsed old.host.keys old.requests set
  above_of t P new change set pending had =
      (subst (IfLoaded (OwnsAboveUsed old.host.keys old.requests old.owners t)) had (laws.future_keys old reached t change.before (before_at t P old.tills new change)).registers).above

  -- nothing is sent
  none_sent : (new : BooksOf C B J I) → new.requests ≡ old.requests → new.host.keys ≡ old.host.keys → AreOwn new
  none_sent new requests keys = subst (λ list. All (IsOwnKeySent new.host.keys) list) (sym requests) (subst (λ it. All (IsOwnKeySent it) old.requests) (sym keys) own)

  one_sent : (new : BooksOf C B J I) (frame : Frame) → new.requests ≡ old.requests ++ frame ∷ [] → new.host.keys ≡ old.host.keys → IsOwnKeySent old.host.keys frame → AreOwn new
  one_sent new frame requests keys is =
      subst (λ list. All (IsOwnKeySent new.host.keys) list) (sym requests) (subst (λ it. All (IsOwnKeySent it) (old.requests ++ frame ∷ [])) (sym keys) (All-push (IsOwnKeySent old.host.keys) old.requests frame own is))

  own_after : (new : BooksOf C B J I) → Change m old new → AreOwn new
  own_after new (nothing same) = none_sent new (ap (λ (it : BooksOf C B J I). it.requests) same) (ap (λ (it : BooksOf C B J I). it.host.keys) same)
  own_after new (quiet t call is change rest) = none_sent new (ap (λ (it : BooksOf C B J I). it.requests) rest) (ap (λ (it : BooksOf C B J I). it.host.keys) rest)
  own_after new (load t iksn outcome is) = none_sent new (ap (λ (it : BooksOf C B J I). it.requests) is.rest) (ap (λ (it : BooksOf C B J I). it.host.keys) is.rest)
  own_after new (send t purchase it change rest) =
      let begins = change.changed.terminal.begun in
      one_sent new it.frame (ap (λ (it : BooksOf C B J I). it.requests) rest) (ap (λ (it : BooksOf C B J I). it.host.keys) rest)
      (inl (own_request m laws old.host.keys old.requests purchase change.before.terminal change.after.terminal it.frame begins
      (above_of t _ new.tills change begins.set begins.takes.pending begins.takes.had)))
  own_after new (reverse t it sent is_reversal change rest) =
      let begins = change.changed.terminal in
      one_sent new it.frame (ap (λ (it : BooksOf C B J I). it.requests) rest) (ap (λ (it : BooksOf C B J I). it.host.keys) rest)
      (inr (own_reversal m laws old.host.keys old.requests change.changed.reversed it.ksn change.before.terminal change.after.terminal it.frame begins
      (above_of t _ new.tills change begins.set begins.takes.pending begins.takes.had)))
  own_after new (tell t call telling change takes rest) = none_sent new (ap (λ (it : BooksOf C B J I). it.requests) rest) (ap (λ (it : BooksOf C B J I). it.host.keys) rest)
  own_after new (answered frame answer sent is rest) = none_sent new (ap (λ (it : BooksOf C B J I). it.requests) rest) (change_keys m old new (answered frame answer sent is rest))
  own_after new (unanswered frame answers why sent is rest) = none_sent new (ap (λ (it : BooksOf C B J I). it.requests) rest) (change_keys m old new (unanswered frame answers why sent is rest))
  own_after new (host touches rest) = none_sent new (ap (λ (it : BooksOf C B J I). it.requests) rest) (change_keys m old new (host touches rest))

pub reached_own : {C B J I : Type 0} (m : Meanings C B J I) → OwnKeyLaws m → (books : BooksOf C B J I) → Reached m books → All (IsOwnKeySent books.host.keys) books.requests
reached_own {C} {B} {J} {I} m laws books reached =
    (reached_all m (λ (it : BooksOf C B J I). Reached m it × AreOwn it)
    (λ first is. ((0, is), subst (λ list. All (IsOwnKeySent first.host.keys) list) (sym is.no_requests) (All-nil (IsOwnKeySent first.host.keys))))
    (λ old new was moves. ((suc was.0.0, (old, was.0.1, moves)), own_after m laws old was.0 was.1 new (move_change m old new moves))) books reached).1
