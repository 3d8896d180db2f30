-- What two tills show that stand alike is the same.
use Rattle.std.proofs.Common.{◌≡◌, ◌≤◌, ◌+◌, ℕ, List, Option, Some, None, Any, inl, inr, refl, sym, ap, subst, ◌∙◌, arith}
use Rattle.std.proofs.lemmas.List.Elements.{All-contains}
use Rattle.std.specs.List.{slice_index}
use Rattle.duk_hsm.specs.InitialKey.{IsInitialKeyOf}
use Rattle.duk_hsm.specs.Keys.{HsmKeys, key_set_of}
use Rattle.duk_regs.specs.Image.{IsImageOfVersion2}
use Rattle.duk_regs.specs.Registers.{AreFutureKeysOf, RegisterSet}
use Rattle.duk_term.specs.Body.{KeepsRegisters, body_bytes, body_bytes_of_version_1, image_in, set_of_body}
use Rattle.duk_term.specs.declared.state.Pending.{Pending}
use Rattle.duk_term.specs.declared.state.State.{State}
use Rattle.duk_term.specs.declared.state.State.TheVariants.{Stopped, Empty, Loaded}
use Rattle.duk_till.specs.Till.{TillOf}
use Rattle.duk_tree.specs.Derivation.{initial_key_of, response_key_of, transaction_key_of}
use Rattle.duk_tree.specs.Serial.{Serial, iksn_prefix_of}
use Rattle.duk_books.specs.Books.{BooksOf, Meanings}
use Rattle.duk_stations.specs.Places.{IsAt}
use Rattle.duk_books.specs.Images.{FindVersion2, FindsVersion2}
use Rattle.duk_books.specs.NoUsedKey.{AreRegistersAboveUsed, IfLoaded, OwnsAboveUsed}
use Rattle.duk_books.specs.Reached.{Reached}
use Rattle.duk_books.specs.StolenTill.{HasImage, HasMemory, ShowsRegisters, StandAlike, TerminalsStandAlike, WaitForOneNumber, WaitsWithItsReplyKey}
use Rattle.duk_stations.proofs.PlacesInLists.{stands_at}
use Rattle.duk_stations.proofs.PlacesInLists.{at_contains}
use Rattle.duk_stations.specs.Registers.{UsableFits}
use Rattle.duk_stations.proofs.NoUsedKey.{counter_fits}
use Rattle.duk_books.proofs.numbers.ReplyKeys.{ReplyKeyLaws, reached_waits}

-- what registers are found with: those above every used number
pub record OpenedLaws {C B J I : Type 0} (m : Meanings C B J I) : Type 0 where
  pub reply_keys : ReplyKeyLaws m
  pub version_2 : (books : BooksOf C B J I) → Reached m books → FindVersion2 m books.tills
  pub fits : UsableFits
  pub same : (initial : List ℕ) (one other : RegisterSet) → 1 ≤ one.counter → one.iksn ≡ other.iksn → one.counter ≡ other.counter → one.past ≡ other.past
      → AreFutureKeysOf initial one → AreFutureKeysOf initial other → one ≡ other

-- ---- one till of these

pub record SomeTill {C B : Type 0} (tills : List (TillOf C B)) (P : TillOf C B → Type 0) : Type 0 where
  pub t : ℕ
  pub till : TillOf C B
  pub at : IsAt tills t till
  pub holds : P till

some_till : {C B : Type 0} (tills : List (TillOf C B)) (P : TillOf C B → Type 0) → Any P tills → SomeTill tills P
some_till tills P (place, till, within, is, holds) = record {
  t = place + 1;
  till = till;
  at = record { place = place; number_is = refl; thing_is = stands_at tills place till within (sym is) };
  holds = holds;
}

-- ---- initial keys

same_some : (one other : List ℕ) → Some one ≡ Some other → one ≡ other
same_some one other same = cc

-- the initial keys of registers that stand alike are one
one_initial : (keys others : HsmKeys) (iksn : ℕ) (one other : List ℕ) → key_set_of keys (iksn_prefix_of iksn) ≡ key_set_of others (iksn_prefix_of iksn) → IsInitialKeyOf keys iksn one → IsInitialKeyOf others iksn other → one ≡ other
one_initial keys others iksn one other held a b =
    a.initial_is ∙ ap (λ (bdk : List ℕ). initial_key_of bdk iksn) (same_some a.bdk b.bdk (sym a.held ∙ held ∙ b.held)) ∙ sym b.initial_is

module _ (keys others : HsmKeys) (one other : RegisterSet) (alike : StandAlike keys others one other) where
  held_alike : key_set_of keys (iksn_prefix_of one.iksn) ≡ key_set_of others (iksn_prefix_of one.iksn)
  held_alike = alike.one_key ∙ ap (λ (iksn : ℕ). key_set_of others (iksn_prefix_of iksn)) (sym alike.same_iksn)

  same_initial : (a b : List ℕ) → IsInitialKeyOf keys one.iksn a → IsInitialKeyOf others other.iksn b → a ≡ b
  same_initial a b is_a is_b = one_initial keys others one.iksn a b held_alike is_a (subst (λ (iksn : ℕ). IsInitialKeyOf others iksn b) (sym alike.same_iksn) is_b)

  same_pending : (waits awaits : Pending) → waits.ksn ≡ awaits.ksn → WaitsWithItsReplyKey keys one waits → WaitsWithItsReplyKey others other awaits → waits ≡ awaits
  same_pending waits awaits number a b =
      let initial = same_initial a.initial b.initial a.initial_is b.initial_is in
      let key : waits.response_key ≡ awaits.response_key =
      a.key_is
      ∙ ap (λ (it : List ℕ). response_key_of (transaction_key_of it one.iksn waits.ksn.counter)) initial
      ∙ ap (λ (it : ℕ). response_key_of (transaction_key_of b.initial it waits.ksn.counter)) alike.same_iksn
      ∙ ap (λ (it : Serial). response_key_of (transaction_key_of b.initial other.iksn it.counter)) number
      ∙ sym b.key_is in
      ap (λ (it : Serial). record { ksn = it; response_key = waits.response_key }) number ∙ ap (λ (it : List ℕ). record { ksn = awaits.ksn; response_key = it }) key

-- ---- images

-- the first byte of the image in a body of version 1 is 1
first_is_1 : (set : RegisterSet) → slice_index (image_in (body_bytes_of_version_1 set)) 0 ≡ 1
first_is_1 set = refl

-- a body that keeps registers, and whose image is of version 2, is theirs
body_of_version_2 : (body : List ℕ) (set : RegisterSet) → IsImageOfVersion2 (image_in body) → KeepsRegisters body set → body ≡ body_bytes set
body_of_version_2 body set two (inl own) = own
body_of_version_2 body set two (inr one) =
    absurd (omega (arith, ap (λ (bytes : List ℕ). slice_index bytes 0) two.bytes_are, subst (λ (it : List ℕ). slice_index (image_in it) 0 ≡ 1) (sym one.1) (first_is_1 set)))

-- ---- registers

module _ {C B J I : Type 0} (m : Meanings C B J I) (laws : OpenedLaws m) where
  -- what a till shows it has above every used number
  shown_above : (books : BooksOf C B J I) (set : RegisterSet) → Reached m books → ShowsRegisters m books.tills set → AreRegistersAboveUsed books.host.keys books.requests set
  shown_above books set reached (inl (waits, memory)) =
      let it = some_till books.tills (λ till. till.terminal.state ≡ Loaded set waits) memory in
      (subst (IfLoaded (OwnsAboveUsed books.host.keys books.requests books.owners it.t)) it.holds (laws.reply_keys.above_used books reached it.t it.till it.at).registers).above
  shown_above books set reached (inr (body, image, is)) =
      let it = some_till books.tills (λ till. (m.cell.state_of till.terminal.cell).found (Some body)) image in
      subst (AreRegistersAboveUsed books.host.keys books.requests) (sym is) ((laws.reply_keys.above_used books reached it.t it.till it.at).images (Some body) it.holds).holds.above

  pub same_registers : (books others : BooksOf C B J I) (one other : RegisterSet) → Reached m books → Reached m others → ShowsRegisters m books.tills one → ShowsRegisters m others.tills other
      → StandAlike books.host.keys others.host.keys one other → one ≡ other
  same_registers books others one other was were shows show alike =
      let a = shown_above books one was shows in
      let b = shown_above others other were show in
      let initial = same_initial books.host.keys others.host.keys one other alike a.initial b.initial a.initial_is b.initial_is in
      laws.same a.initial one other (counter_fits one.counter laws.fits a.counter_is).0 alike.same_iksn alike.same_counter alike.same_past a.future_keys
      (subst (λ (it : List ℕ). AreFutureKeysOf it other) (sym initial) b.future_keys)

  -- ---- images

  own_body : (books : BooksOf C B J I) (body : List ℕ) → Reached m books → HasImage m books.tills body → body ≡ body_bytes (set_of_body body)
  own_body books body reached image =
      let it = some_till books.tills (λ till. (m.cell.state_of till.terminal.cell).found (Some body)) image in
      body_of_version_2 body (set_of_body body)
      (All-contains (FindsVersion2 m) books.tills it.till (laws.version_2 books reached) (at_contains books.tills it.t it.till it.at) (Some body) it.holds)
      ((laws.reply_keys.above_used books reached it.t it.till it.at).images (Some body) it.holds).keeps

  pub same_images : (books others : BooksOf C B J I) (one other : List ℕ) → Reached m books → Reached m others → HasImage m books.tills one → HasImage m others.tills other
      → StandAlike books.host.keys others.host.keys (set_of_body one) (set_of_body other) → one ≡ other
  same_images books others one other was were has have alike =
      own_body books one was has
      ∙ ap body_bytes (same_registers books others (set_of_body one) (set_of_body other) was were (inr (one, has, refl)) (inr (other, have, refl)) alike)
      ∙ sym (own_body others other were have)

  -- ---- memory

  pub waits_with : (books : BooksOf C B J I) (set : RegisterSet) (pending : Pending) → Reached m books → HasMemory books.tills (Loaded set (Some pending)) → WaitsWithItsReplyKey books.host.keys set pending
  waits_with books set pending reached memory =
      let it = some_till books.tills (λ till. till.terminal.state ≡ Loaded set (Some pending)) memory in
      reached_waits m laws.reply_keys books reached it.t it.till it.at set pending it.holds

  same_waits : (books others : BooksOf C B J I) (one other : RegisterSet) (waits awaits : Option Pending) → Reached m books → Reached m others → HasMemory books.tills (Loaded one waits) → HasMemory others.tills (Loaded other awaits)
      → StandAlike books.host.keys others.host.keys one other → WaitForOneNumber waits awaits → waits ≡ awaits
  same_waits books others one other None None was were has have alike number = refl
  same_waits books others one other (Some waits) (Some awaits) was were has have alike number =
      ap Some (same_pending books.host.keys others.host.keys one other alike waits awaits number (waits_with books one waits was has) (waits_with others other awaits were have))
  same_waits books others one other None (Some awaits) was were has have alike number = absurd number
  same_waits books others one other (Some waits) None was were has have alike number = absurd number

  pub same_memory : (books others : BooksOf C B J I) (one other : State) → Reached m books → Reached m others → HasMemory books.tills one → HasMemory others.tills other
      → TerminalsStandAlike books.host.keys others.host.keys one other → one ≡ other
  same_memory books others Stopped Stopped was were has have alike = refl
  same_memory books others Empty Empty was were has have alike = refl
  same_memory books others (Loaded one waits) (Loaded other awaits) was were has have alike =
      ap (λ (it : RegisterSet). Loaded it waits) (same_registers books others one other was were (inl (waits, has)) (inl (awaits, have)) alike.0)
      ∙ ap (λ (it : Option Pending). Loaded other it) (same_waits books others one other waits awaits was were has have alike.0 alike.1)
  same_memory books others _ _ was were has have alike = absurd alike
