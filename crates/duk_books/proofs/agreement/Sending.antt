-- What holds of a till still holds after it sent a request or a reversal.
use Rattle.std.proofs.Common.{◌≡◌, ◌≢◌, inl, inr, ℕ, [], ◌∷◌, ◌++◌, Some, ap, arith, refl, subst, sym, ◌∙◌}
use Rattle.std.proofs.lemmas.List.Elements.{Contains-push}
use Rattle.duk_frame.specs.Request.{IsRequest}
use Rattle.duk_frame.specs.declared.request.Request.{Request}
use Rattle.duk_reversal.specs.Reversal.{IsReversal}
use Rattle.duk_reversal.specs.declared.reversal.Reversal as reversal_frame
use Rattle.duk_term.specs.Reply.{IsPending}
use Rattle.duk_term.specs.Terminal.{serial_of}
use Rattle.duk_term.specs.declared.purchase.Purchase.{Purchase}
use Rattle.duk_term.specs.declared.state.Pending.{Pending}
use Rattle.duk_term.specs.declared.state.State.{State}
use Rattle.duk_term.specs.declared.state.State.TheVariants as term_state
use Rattle.duk_till.specs.Begin.{IsTillBegun, opened}
use Rattle.duk_till.specs.Reversal.{IsTillReversing}
use Rattle.duk_till.specs.Till.{TillOf}
use Rattle.duk_till.specs.declared.last.Last.TheVariants.{Open, Approved}
use Rattle.duk_till.specs.declared.state.TillState.{TillState}
use Rattle.duk_till.specs.declared.state.TillState.TheVariants.{Running}
use Rattle.duk_tree.specs.Serial.{Serial}
use Rattle.duk_books.specs.Books.{Frame, Meanings}
use Rattle.duk_stations.specs.Owner.{IsOwner}
use Rattle.duk_books.specs.Came.{IsAsked}
use Rattle.duk_books.specs.inner.Known.{CallLaws, FrameLaws}
use Rattle.duk_books.proofs.agreement.Facts.{Lists, asked_or_added, is_asked_now, not_asked, not_called_back}
use Rattle.duk_books.proofs.agreement.QuietCalls.{ListsHold, begun_fields, is_fresh, not_in_doubt_at_rest, takes_begun, takes_on}
use Rattle.duk_books.proofs.agreement.Registers.{RegistersHold, SetHolds}
use Rattle.duk_books.proofs.agreement.TellingCalls.{same_open}
use Rattle.duk_stations.proofs.Terminals.{StateHas, request_takes, reversal_takes, takes_has}
use Rattle.duk_books.proofs.agreement.Tills.{IsAwaited, IsInDoubt, TillHolds, book_has, book_put, same_last}

-- the lists once a request was sent, or a reversal
abbrev pub with_request : Lists → Serial → Frame → Lists
with_request lists ksn frame = record lists { begun = lists.begun ++ ksn ∷ []; requests = lists.requests ++ frame ∷ [] }

abbrev pub with_reversal : Lists → Frame → Lists
with_reversal lists frame = record lists { requests = lists.requests ++ frame ∷ [] }

open_is_not_approved : (state : TillState) (ksn other : Serial) (amount more : ℕ) → state ≡ Running (Some (Open ksn amount)) → state ≢ Running (Some (Approved other more))
open_is_not_approved state ksn other amount more is approved = absurd (cc)

same_pending : (state : State) (set : _) (one other : Pending) → state ≡ term_state.Loaded set (Some one) → IsPending state other → one ≡ other
same_pending state set one other is (more, waits) = cc

module _ {C B J I : Type 0} (laws : CallLaws) (frames : FrameLaws) (m : Meanings C B J I) (t : ℕ) (lists : Lists) (all : ListsHold lists t) where
  -- a request was sent
  pub sends : (purchase : Purchase) (ksn : Serial) (frame : Frame) (request : Request) (old new : TillOf C B) → TillHolds m lists t old → IsRequest frame.items request → request.ksn ≡ ksn → request.amount ≡ purchase.amount
      → IsTillBegun m.cell m.book purchase ksn frame.items old new → TillHolds m (with_request lists ksn frame) t new
  sends purchase ksn frame request old new holds is_request number amount is =
      let it = is.terminal.begun in
      let after = with_request lists ksn frame in
      let set : SetHolds lists t it.set = subst (StateHas (RegistersHold lists t)) it.takes.had holds.terminal.state in
      let fresh = is_fresh laws m t lists it.set it.left it.key ksn it.takes.takes is.terminal.ksn_is set in
      let owned : IsOwner lists.owners ksn.iksn t = subst (λ (number : Serial). IsOwner lists.owners number.iksn t) (sym is.terminal.ksn_is) set.owned in
      let fields = begun_fields laws.registers m.cell purchase ksn frame.items old.terminal new.terminal is.terminal in
      let asked_now : IsAsked after.requests ksn purchase.amount =
      subst (λ (number : Serial). IsAsked after.requests number purchase.amount) number (subst (λ sum. IsAsked after.requests request.ksn sum) amount (is_asked_now frames lists.requests frame request is_request)) in
      record {
        terminal = takes_has laws.registers m.cell (RegistersHold lists t) (RegistersHold after t) old.terminal new.terminal (request_takes m.cell old.terminal new.terminal purchase frame.items it) holds.terminal
            (takes_begun laws m t lists it.set it.left it.key ksn it.takes.takes is.terminal.ksn_is);
        book = book_put laws.reading m.book t after old new (opened ksn purchase) holds.book.honest is.kept is.state_is fields
            (Contains-push lists.begun ksn, λ other sold. fresh (all.asked ksn other (all.sold ksn other sold).awaited.asked));
        waits = λ other sum pending opens_on waits same_number.
            let same = same_open ksn other purchase.amount sum (same_last new.state (Some (Open ksn purchase.amount)) (Some (Open other sum)) is.state_is opens_on) in
            subst (λ (number : Serial). IsAwaited after t number sum) same.0 (subst (λ sum. IsAwaited after t ksn sum) same.1 (record {
              asked = asked_now;
              not_back = λ back. fresh (all.called_back ksn (not_called_back frames lists.requests frame request ksn is_request back));
              owned = owned;
            }));
        entered = λ other sum approved. absurd (open_is_not_approved new.state ksn other purchase.amount sum is.state_is approved);
        known = λ other sum asked owned. elim (asked_or_added frames lists.requests frame request other sum is_request asked) [
          | inl before ↦ elim (holds.known other sum before owned) [
            | inl settled ↦ inl settled
            | inr doubt ↦ absurd (not_in_doubt_at_rest m.book other sum old is.was_at_rest doubt)
          ]
          | inr here ↦
              let same_ksn = sym number ∙ here.0 in
              let same_sum = sym amount ∙ here.1 in
              inr (subst (λ (number : Serial). IsInDoubt m.book number sum new) same_ksn (subst (λ sum. IsInDoubt m.book ksn sum new) same_sum (record {
                runs = λ last runs. same_last new.state last (Some (Open ksn purchase.amount)) runs is.state_is;
                found = λ kept found. record { last = opened ksn purchase; fields = fields; kept_is = (is.kept.settles.finds holds.book.honest kept).0 found; is_of = refl };
              })))
        ];
      }

  -- a reversal was sent
  pub reverses : (ksn : Serial) (frame : Frame) (sent : reversal_frame.Reversal) (old new : TillOf C B) → TillHolds m lists t old → IsReversal frame.items sent → (is : IsTillReversing m.cell ksn frame.items old new)
      → TillHolds m (with_reversal lists frame) t new
  reverses ksn frame sent old new holds is_reversal is =
      let after = with_reversal lists frame in
      let opens_on : new.state ≡ Running (Some (Open is.reversed is.amount)) = is.same_book.state_is ∙ is.was_open in
      let was = holds.book.runs (Some (Open is.reversed is.amount)) is.was_open in
      record {
        terminal = takes_has laws.registers m.cell (RegistersHold lists t) (RegistersHold after t) old.terminal new.terminal (reversal_takes m.cell old.terminal new.terminal is.reversed ksn frame.items is.terminal) holds.terminal
            (takes_on laws m t lists is.terminal.set is.terminal.left is.terminal.key is.terminal.takes.takes);
        book = book_has laws.reading m.book t after new (Some (Open is.reversed is.amount)) (subst (λ it. (m.book.state_of it).honest) (sym is.same_book.book_is) holds.book.honest)
            (λ kept found. holds.book.only (Some (Open is.reversed is.amount)) is.was_open kept (subst (λ it. (m.book.state_of it).found kept) is.same_book.book_is found)) opens_on was.0 was.1;
        waits = λ other sum pending opens waits number.
            let same = same_open is.reversed other is.amount sum (same_last new.state (Some (Open is.reversed is.amount)) (Some (Open other sum)) opens_on opens) in
            let counter : (serial_of is.terminal.set).counter ≡ is.reversed.counter =
            ap (λ (it : Pending). it.ksn.counter) (same_pending new.terminal.state _ _ pending is.terminal.state_is waits) ∙ ap (λ (it : Serial). it.counter) (number ∙ sym same.0) in
            absurd (omega (arith, counter, is.terminal.used.below));
        entered = λ other sum approved. absurd (open_is_not_approved new.state is.reversed other is.amount sum opens_on approved);
        known = λ other sum asked owned. elim (holds.known other sum (not_asked frames lists.requests frame sent other sum is_reversal asked) owned) [
          | inl settled ↦ inl settled
          | inr doubt ↦ inr (record {
            runs = λ last runs. doubt.runs last (sym is.same_book.state_is ∙ runs);
            found = λ kept found. doubt.found kept (subst (λ it. (m.book.state_of it).found kept) is.same_book.book_is found);
          })
        ];
      }
