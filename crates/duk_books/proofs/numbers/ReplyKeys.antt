-- What a terminal has while it waits: the reply key of the number that it took last.
use Rattle.std.proofs.Common.{◌≡◌, ◌<◌, ◌^◌, ℕ, List, Some, Ok, inl, inr, suc, sym, ap, subst, ◌∙◌}
use Rattle.std.proofs.lemmas.List.Elements.{All-contains}
use Rattle.duk_hsm.specs.InitialKey.{IsInitialKeyOf}
use Rattle.duk_hsm.specs.Keys.{HsmKeys}
use Rattle.duk_regs.specs.Registers.{AreFutureKeysOf, IsTaken, RegisterSet}
use Rattle.duk_store.specs.Cell.{CellMeaning}
use Rattle.duk_term.specs.Begin.{TakesFrom, TakesNumber, pending_of}
use Rattle.duk_term.specs.Load.{Loading}
use Rattle.duk_term.specs.declared.state.Pending.{Pending}
use Rattle.duk_term.specs.declared.state.State.{State}
use Rattle.duk_term.specs.declared.state.State.TheVariants.{Loaded}
use Rattle.duk_till.specs.Lifetime.{Begin, Call, IsCalled, Reverse}
use Rattle.duk_till.specs.Till.{TillOf}
use Rattle.duk_tree.specs.Derivation.{response_key_of, transaction_key_of}
use Rattle.duk_tree.specs.Path.{IsUsable}
use Rattle.duk_books.specs.Books.{BooksOf, Frame, Meanings}
use Rattle.duk_stations.specs.Places.{ChangesOnly, IsAt}
use Rattle.duk_books.specs.First.{IsFirst, IsNewTill}
use Rattle.duk_books.specs.Load.{TakesLoad}
use Rattle.duk_books.specs.NoUsedKey.{AreRegistersAboveUsed, IfLoaded, InEachTill, OwnsAboveUsed}
use Rattle.duk_books.specs.Reached.{Reached}
use Rattle.duk_books.specs.StolenTill.{WaitsWithItsReplyKey}
use Rattle.duk_books.specs.declared.outcome.Outcome.{Outcome}
use Rattle.duk_books.specs.declared.outcome.Outcome.TheVariants as came
use Rattle.duk_stations.specs.declared.owner.Owner.{Owner}
use Rattle.duk_stations.proofs.PlacesInLists.{after_at, before_at}
use Rattle.duk_stations.proofs.Memory.{Subsides, goes_subsides, load_subsides, loaded_is_idle, stopped_is_idle}
use Rattle.duk_stations.proofs.Numbers.{next_is_above}
use Rattle.duk_books.proofs.moves.KeysStay.{change_keys}
use Rattle.duk_books.proofs.moves.TillMoves.{IsMove, call_goes, load_fails, quiet_is_move, telling_is_move}
use Rattle.duk_books.proofs.moves.ReachedByMoves.{reached_all}
use Rattle.duk_books.proofs.moves.StepChanges.{Change, answered, host, load, move_change, nothing, quiet, reverse, send, tell, unanswered}
use Rattle.duk_stations.proofs.PlacesInLists.{at_contains}

-- ---- how a call leaves the memory of a terminal

-- as it was; or waiting for none; or waiting for the reply to the number that it took
pub data LeavesMemory (old new : State) : Type 0 where
  subsides : Subsides old new → LeavesMemory old new
  waits_for_taken : (set left : RegisterSet) (key : List ℕ) → TakesFrom old set key left → new ≡ Loaded left (Some (pending_of set key)) → LeavesMemory old new

module _ {C B : Type 0} (cell : CellMeaning C) (book : CellMeaning B) (old new : TillOf C B) where
  call_leaves : (call : Call) → IsMove call → IsCalled cell book call old new → LeavesMemory old.terminal.state new.terminal.state
  call_leaves call moves is = elim (call_goes cell book old new call moves is) [
    | inl goes ↦ subsides (goes_subsides cell old.terminal new.terminal goes)
    | inr next ↦ waits_for_taken next.set next.left next.key next.takes next.state_is
  ]

  load_leaves : (t : ℕ) (asked : Loading) (outcome : Outcome) → TakesLoad cell book t asked outcome old new → LeavesMemory old.terminal.state new.terminal.state
  load_leaves t asked (came.Loaded u number) is = subsides (inr (loaded_is_idle new.terminal.state is.2.terminal.set is.2.terminal.state_is))
  load_leaves t asked (came.TillFaulted u why) is = subsides (load_subsides cell old.terminal new.terminal (Unit {0}) asked (load_fails cell book old new (Unit {0}) asked why (λ store same. tt) is.1))
  load_leaves t asked _ is = absurd is

-- ---- what a terminal waits with

-- what is known of numbers, of the keys that registers give, and of the registers of each till
pub record ReplyKeyLaws {C B J I : Type 0} (m : Meanings C B J I) : Type 0 where
  pub above_used : (books : BooksOf C B J I) → Reached m books → InEachTill m (OwnsAboveUsed books.host.keys books.requests books.owners) books.tills
  pub fits : (counter : ℕ) → IsUsable counter → counter < 2 ^ 21
  pub taken : (initial : List ℕ) (old new : RegisterSet) (key : List ℕ) → IsUsable old.counter → IsTaken old key new → AreFutureKeysOf initial old → key ≡ transaction_key_of initial old.iksn old.counter

-- where a terminal waits, it does with the reply key of its number
abbrev pub Waits : HsmKeys → State → Type 0
Waits keys state = (set : RegisterSet) (pending : Pending) → state ≡ Loaded set (Some pending) → WaitsWithItsReplyKey keys set pending

abbrev pub EachWaits : {C B J I : Type 0} → BooksOf C B J I → Type 0
EachWaits books = (t : ℕ) (till : TillOf _ _) → IsAt books.tills t till → Waits books.host.keys till.terminal.state

same_loaded : (one other : RegisterSet) (waits awaits : Pending) → Loaded one (Some waits) ≡ Loaded other (Some awaits) → (one ≡ other) × (waits ≡ awaits)
same_loaded one other waits awaits same = (cc, cc)

module _ {C B J I : Type 0} (m : Meanings C B J I) (laws : ReplyKeyLaws m) where
  taken_waits : (keys : HsmKeys) (requests : List Frame) (set left : RegisterSet) (key : List ℕ) → TakesNumber set key left → AreRegistersAboveUsed keys requests set → WaitsWithItsReplyKey keys left (pending_of set key)
  taken_waits keys requests set left key takes held =
      let iksn = sym takes.taken.same_iksn in
      record {
        initial = held.initial;
        initial_is = subst (λ (it : ℕ). IsInitialKeyOf keys it held.initial) iksn held.initial_is;
        used = record { same_iksn = iksn; usable = takes.usable; below = next_is_above set.counter left.counter (laws.fits set.counter takes.usable) takes.taken.next_counter };
        key_is = ap response_key_of (laws.taken held.initial set left key takes.usable takes.taken held.future_keys ∙ ap (λ (it : ℕ). transaction_key_of held.initial it set.counter) iksn);
      }

  left_waits : (keys : HsmKeys) (requests : List Frame) (owners : List Owner) (t : ℕ) (old new : State) → IfLoaded (OwnsAboveUsed keys requests owners t) old → Waits keys old → LeavesMemory old new → Waits keys new
  left_waits keys requests owners t old new held waits (subsides (inl same)) set pending is = waits set pending (sym same ∙ is)
  left_waits keys requests owners t old new held waits (subsides (inr idle)) set pending is = absurd (idle pending (set, is))
  left_waits keys requests owners t old new held waits (waits_for_taken had left key takes_from now) set pending is =
      let same = same_loaded left set (pending_of had key) pending (sym now ∙ is) in
      let registers = (subst (IfLoaded (OwnsAboveUsed keys requests owners t)) takes_from.had held).above in
      subst (λ (it : RegisterSet). WaitsWithItsReplyKey keys it pending) same.0 (subst (WaitsWithItsReplyKey keys left) same.1 (taken_waits keys requests had left key takes_from.takes registers))

  module _ (old : BooksOf C B J I) (reached : Reached m old) (waits : EachWaits old) where
    tills_wait : (t : ℕ) (P : TillOf C B → TillOf C B → Type 0) (tills : List (TillOf C B)) (change : ChangesOnly t P old.tills tills) → LeavesMemory change.before.terminal.state change.after.terminal.state
        → (u : ℕ) (till : TillOf C B) → IsAt tills u till → Waits old.host.keys till.terminal.state
    tills_wait t P tills change leaves u till at = elim (after_at t P old.tills tills change u till at) [
      | inl same ↦
          let was = before_at t P old.tills tills change in
          subst (λ (it : TillOf C B). Waits old.host.keys it.terminal.state) (sym same.1)
          (left_waits old.host.keys old.requests old.owners t change.before.terminal.state change.after.terminal.state (laws.above_used old reached t change.before was).registers (waits t change.before was) leaves)
      | inr apart ↦ waits u till apart.1
    ]

    -- where no till is called, or one is
    with_tills : (new : BooksOf C B J I) → Change m old new → ((u : ℕ) (till : TillOf C B) → IsAt new.tills u till → Waits old.host.keys till.terminal.state) → EachWaits new
    with_tills new change now u till at = subst (λ (it : HsmKeys). Waits it till.terminal.state) (sym (change_keys m old new change)) (now u till at)

    same_tills : (new : BooksOf C B J I) → Change m old new → new.tills ≡ old.tills → EachWaits new
    same_tills new change same = with_tills new change (λ u till at. waits u till (subst (λ (it : List (TillOf C B)). IsAt it u till) same at))

    one_called : (new : BooksOf C B J I) → Change m old new → (t : ℕ) (P : TillOf C B → TillOf C B → Type 0) (change : ChangesOnly t P old.tills new.tills) → LeavesMemory change.before.terminal.state change.after.terminal.state → EachWaits new
    one_called new is t P change leaves = with_tills new is (tills_wait t P new.tills change leaves)

    waits_after : (new : BooksOf C B J I) → Change m old new → EachWaits new
    waits_after new (nothing same) = subst (λ (it : BooksOf C B J I). EachWaits it) (sym same) waits
    waits_after new (quiet t call is change rest) = one_called new (quiet t call is change rest) t _ change (call_leaves m.cell m.book change.before change.after call (quiet_is_move call is) change.changed)
    waits_after new (load t iksn outcome is) = one_called new (load t iksn outcome is) t _ is.till (load_leaves m.cell m.book is.till.before is.till.after t is.asked outcome is.till.changed)
    waits_after new (send t purchase it change rest) = one_called new (send t purchase it change rest) t _ change (call_leaves m.cell m.book change.before change.after (Begin purchase (Ok it)) tt change.changed)
    waits_after new (reverse t it sent is_reversal change rest) = one_called new (reverse t it sent is_reversal change rest) t _ change (call_leaves m.cell m.book change.before change.after (Reverse (Ok it)) tt change.changed)
    waits_after new (tell t call telling change takes_sale rest) = one_called new (tell t call telling change takes_sale rest) t _ change (call_leaves m.cell m.book change.before change.after call (telling_is_move old.answers call telling) change.changed)
    waits_after new (answered frame answer sent is rest) = same_tills new (answered frame answer sent is rest) (ap (λ (it : BooksOf C B J I). it.tills) rest)
    waits_after new (unanswered frame answers why sent is rest) = same_tills new (unanswered frame answers why sent is rest) (ap (λ (it : BooksOf C B J I). it.tills) rest)
    waits_after new (host touches rest) = same_tills new (host touches rest) (ap (λ (it : BooksOf C B J I). it.tills) rest)

  none_waits : (books : BooksOf C B J I) → IsFirst m books → EachWaits books
  none_waits books is t till at set pending waits =
      absurd (stopped_is_idle till.terminal.state (All-contains (IsNewTill m) books.tills till is.tills (at_contains books.tills t till at)).terminal_stopped pending (set, waits))

  pub reached_waits : (books : BooksOf C B J I) → Reached m books → EachWaits books
  reached_waits books reached =
      (reached_all m (λ (it : BooksOf C B J I). Reached m it × EachWaits it)
      (λ first is. ((0, is), none_waits first is))
      (λ old new was moves. ((suc was.0.0, (old, was.0.1, moves)), waits_after old was.0 was.1 new (move_change m old new moves))) books reached).1
