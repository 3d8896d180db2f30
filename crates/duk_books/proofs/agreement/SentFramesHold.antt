-- How a request or a reversal that is sent keeps what holds.
use Rattle.std.proofs.Common.{◌≡◌, ◌≢◌, ◌++◌, ◌∷◌, [], ℕ, List, Some, Ok, Contains, inl, inr, refl, sym, ap, subst, ◌∙◌}
use Rattle.std.proofs.lemmas.List.Elements.{Contains-append_cases, Contains-append_left, Contains-push}
use Rattle.duk_frame.specs.Payment.{request_of}
use Rattle.duk_frame.specs.Request.{IsRequest}
use Rattle.duk_frame.specs.declared.request.Request.{Request}
use Rattle.duk_reversal.specs.Authentic.{reversal_of}
use Rattle.duk_reversal.specs.Reversal.{IsReversal}
use Rattle.duk_reversal.specs.declared.reversal.Reversal as reversal_frame
use Rattle.duk_term.specs.Reversal.{numbers_of}
use Rattle.duk_term.specs.Terminal.{serial_of}
use Rattle.duk_term.specs.declared.answer.Begun.{Begun}
use Rattle.duk_term.specs.declared.purchase.Purchase.{Purchase}
use Rattle.duk_till.specs.Lifetime.{Begin, Reverse}
use Rattle.duk_till.specs.Till.{TillOf}
use Rattle.duk_till.specs.declared.last.Last.TheVariants.{Open}
use Rattle.duk_tree.specs.Serial.{Serial}
use Rattle.duk_books.specs.Books.{BooksOf, Frame, Meanings}
use Rattle.duk_stations.specs.Places.{IsAt}
use Rattle.duk_stations.specs.Owner.{IsOwner}
use Rattle.duk_books.specs.inner.Known.{BookLaws}
use Rattle.duk_books.proofs.agreement.BooksHold.{BooksHold, Holds, begun_owned_too, lists_hold, lists_of, one_till, set_of, tills_after}
use Rattle.duk_stations.proofs.PlacesInLists.{before_at}
use Rattle.duk_books.specs.Came.{IsAsked}
use Rattle.duk_books.proofs.agreement.Facts.{GrowBeside, IsSold, Lists, asked_before, asked_or_added, called_back_or_added, not_asked, not_called_back, the_only}
use Rattle.duk_books.proofs.agreement.HostHolds.{more_requests}
use Rattle.duk_books.proofs.agreement.QuietCalls.{is_fresh}
use Rattle.duk_books.proofs.agreement.Sending.{reverses, sends, with_request, with_reversal}
use Rattle.duk_books.proofs.agreement.Tills.{IsGood, TillHolds}
use Rattle.duk_books.proofs.moves.StepChanges.{CallsOnly}

module _ {C B J I : Type 0} (m : Meanings C B J I) (laws : BookLaws m) (old : BooksOf C B J I) (begun : List Serial) (holds : BooksHold m old begun) where
  abbrev Before : Lists
  Before = lists_of old begun

  -- ---- a request is sent

  module _ (t : ℕ) (ksn : Serial) (frame : Frame) (request : Request) (is_request : IsRequest frame.items request) (number : request.ksn ≡ ksn) (owned : IsOwner old.owners ksn.iksn t) (fresh : ¬ Contains begun ksn) where
    not_of : (u : ℕ) (other : Serial) → u ≢ t → request.ksn ≡ other → ¬ IsOwner old.owners other.iksn u
    not_of u other apart same is = apart (one_till old.owners ksn.iksn t u owned (subst (λ (it : Serial). IsOwner old.owners it.iksn u) (sym same ∙ number) is))

    grow_sent : (u : ℕ) → u ≢ t → GrowBeside u Before (with_request Before ksn frame)
    grow_sent u apart = record {
      owner = λ iksn v is. is;
      begun = λ other has is. elim (Contains-append_cases begun (ksn ∷ []) other has) [
        | inl before ↦ (before, is)
        | inr here ↦ absurd (not_of u other apart (number ∙ sym (the_only ksn other here)) is)
      ];
      begun_stays = λ other has. Contains-append_left begun (ksn ∷ []) other has;
      asked = λ other amount asked is. elim (asked_or_added laws.frames old.requests frame request other amount is_request asked) [
        | inl before ↦ (before, is)
        | inr here ↦ absurd (not_of u other apart here.0 is)
      ];
      asked_stays = λ other amount is. asked_before old.requests (frame ∷ []) other amount is;
      called_back = λ other back is. not_called_back laws.frames old.requests frame request other is_request back;
      replied = λ other code is. is;
      undone = λ other is. is;
      sold = λ other amount is. is;
      sold_stays = λ other amount is. is;
    }

    good_sent : (u : ℕ) (other : Serial) (amount : ℕ) → IsGood Before u other amount → IsGood (with_request Before ksn frame) u other amount
    good_sent u other amount is = record {
      awaited = record {
        asked = asked_before old.requests (frame ∷ []) other amount is.awaited.asked;
        not_back = λ back. is.awaited.not_back (not_called_back laws.frames old.requests frame request other is_request back);
        owned = is.awaited.owned;
      };
      replied = is.replied;
    }

    asked_sent : (other : Serial) (amount : ℕ) → IsAsked (old.requests ++ frame ∷ []) other amount → Contains (begun ++ ksn ∷ []) other
    asked_sent other amount asked = elim (asked_or_added laws.frames old.requests frame request other amount is_request asked) [
      | inl before ↦ Contains-append_left begun (ksn ∷ []) other (holds.asked other amount before)
      | inr here ↦ subst (λ (it : Serial). Contains (begun ++ ksn ∷ []) it) (sym number ∙ here.0) (Contains-push begun ksn)
    ]

    not_before : (other : Serial) (amount : ℕ) → request.ksn ≡ other → ¬ IsAsked old.requests other amount
    not_before other amount same asked = fresh (subst (λ (it : Serial). Contains begun it) (sym same ∙ number) (holds.asked other amount asked))

    one_amount_sent : (other : Serial) (one more : ℕ) → IsAsked (old.requests ++ frame ∷ []) other one → IsAsked (old.requests ++ frame ∷ []) other more → one ≡ more
    one_amount_sent other one more is also = elim (asked_or_added laws.frames old.requests frame request other one is_request is) [
      | inl before ↦ elim (asked_or_added laws.frames old.requests frame request other more is_request also) [
        | inl too ↦ holds.one_amount other one more before too
        | inr here ↦ absurd (not_before other one here.0 before)
      ]
      | inr here ↦ elim (asked_or_added laws.frames old.requests frame request other more is_request also) [
        | inl too ↦ absurd (not_before other more here.0 too)
        | inr there ↦ sym here.1 ∙ there.1
      ]
    ]

    sent_holds : (tills : List (TillOf C B)) → ((u : ℕ) (till : TillOf C B) → IsAt tills u till → TillHolds m (with_request Before ksn frame) u till)
        → BooksHold m (record old { tills = tills; requests = old.requests ++ frame ∷ [] }) (begun ++ ksn ∷ [])
    sent_holds tills hold = record {
      once = holds.once;
      one_owner = holds.one_owner;
      begun_owned = begun_owned_too m old begun holds t ksn owned;
      asked = asked_sent;
      one_amount = one_amount_sent;
      called_back = λ other back. Contains-append_left begun (ksn ∷ []) other (holds.called_back other (not_called_back laws.frames old.requests frame request other is_request back));
      sold = λ u other amount sold. good_sent u other amount (holds.sold u other amount sold);
      tills = hold;
      host = record {
        honest = holds.host.honest;
        entries = λ entries found. more_requests old.requests (frame ∷ []) old.answers entries (holds.host.entries entries found);
        runs = holds.host.runs;
      };
    }

  pub send_holds : (t : ℕ) (purchase : Purchase) (it : Begun) (new : BooksOf C B J I) → CallsOnly m t (Begin purchase (Ok it)) old.tills new.tills → Holds m (record old { tills = new.tills; requests = old.requests ++ it.frame ∷ [] })
  send_holds t purchase it new change =
      let is = change.changed in
      let before = holds.tills t change.before (before_at t _ old.tills new.tills change) in
      let terminal = is.terminal.begun in
      let set = set_of m Before t change.before terminal.set terminal.takes.pending before terminal.takes.had in
      let owned : IsOwner old.owners it.ksn.iksn t = subst (λ (it : Serial). IsOwner old.owners it.iksn t) (sym is.terminal.ksn_is) set.owned in
      let fresh = is_fresh laws.calls m t Before terminal.set terminal.left terminal.key it.ksn terminal.takes.takes is.terminal.ksn_is set in
      let request = request_of terminal.key (serial_of terminal.set) purchase.pan purchase.pin purchase.amount in
      let is_request = laws.request purchase change.before.terminal change.after.terminal it.frame.items terminal in
      let number : request.ksn ≡ it.ksn = sym is.terminal.ksn_is in
      let after = with_request Before it.ksn it.frame in (
        begun ++ it.ksn ∷ [],
        sent_holds t it.ksn it.frame request is_request number owned fresh new.tills
            (tills_after m t _ old.tills new.tills Before after change holds.tills (grow_sent t it.ksn it.frame request is_request number owned fresh)
            (sends laws.calls laws.frames m t Before (lists_hold m old begun holds t) purchase it.ksn it.frame request change.before change.after before is_request number refl is)),
      )

  -- ---- a reversal is sent

  module _ (t : ℕ) (frame : Frame) (sent : reversal_frame.Reversal) (is_reversal : IsReversal frame.items sent) (owned : IsOwner old.owners sent.numbers.reversed.iksn t) (has_begun : Contains begun sent.numbers.reversed)
      (unsold : (amount : ℕ) → ¬ IsSold Before t sent.numbers.reversed amount) where
    grow_reversed : (u : ℕ) → u ≢ t → GrowBeside u Before (with_reversal Before frame)
    grow_reversed u apart = record {
      owner = λ iksn v is. is;
      begun = λ other has is. (has, is);
      begun_stays = λ other has. has;
      asked = λ other amount asked is. (not_asked laws.frames old.requests frame sent other amount is_reversal asked, is);
      asked_stays = λ other amount is. asked_before old.requests (frame ∷ []) other amount is;
      called_back = λ other back is. elim (called_back_or_added laws.frames old.requests frame sent other is_reversal back) [
        | inl before ↦ before
        | inr here ↦ absurd (apart (one_till old.owners sent.numbers.reversed.iksn t u owned (subst (λ (it : Serial). IsOwner old.owners it.iksn u) (sym here) is)))
      ];
      replied = λ other code is. is;
      undone = λ other is. is;
      sold = λ other amount is. is;
      sold_stays = λ other amount is. is;
    }

    good_reversed : (u : ℕ) (other : Serial) (amount : ℕ) → IsSold Before u other amount → IsGood Before u other amount → IsGood (with_reversal Before frame) u other amount
    good_reversed u other amount sold is = record {
      awaited = record {
        asked = asked_before old.requests (frame ∷ []) other amount is.awaited.asked;
        not_back = λ back. elim (called_back_or_added laws.frames old.requests frame sent other is_reversal back) [
          | inl before ↦ is.awaited.not_back before
          | inr here ↦
              let same : u ≡ t = one_till old.owners sent.numbers.reversed.iksn t u owned (subst (λ (it : Serial). IsOwner old.owners it.iksn u) (sym here) is.awaited.owned) in
              unsold amount (subst (λ (it : Serial). IsSold Before t it amount) (sym here) (subst (λ v. IsSold Before v other amount) same sold))
        ];
        owned = is.awaited.owned;
      };
      replied = is.replied;
    }

    reversed_holds : (tills : List (TillOf C B)) → ((u : ℕ) (till : TillOf C B) → IsAt tills u till → TillHolds m (with_reversal Before frame) u till)
        → BooksHold m (record old { tills = tills; requests = old.requests ++ frame ∷ [] }) begun
    reversed_holds tills hold = record {
      once = holds.once;
      one_owner = holds.one_owner;
      begun_owned = holds.begun_owned;
      asked = λ other amount asked. holds.asked other amount (not_asked laws.frames old.requests frame sent other amount is_reversal asked);
      one_amount = λ other one more is also.
          holds.one_amount other one more (not_asked laws.frames old.requests frame sent other one is_reversal is) (not_asked laws.frames old.requests frame sent other more is_reversal also);
      called_back = λ other back. elim (called_back_or_added laws.frames old.requests frame sent other is_reversal back) [
        | inl before ↦ holds.called_back other before
        | inr here ↦ subst (λ (it : Serial). Contains begun it) here has_begun
      ];
      sold = λ u other amount sold. good_reversed u other amount sold (holds.sold u other amount sold);
      tills = hold;
      host = record {
        honest = holds.host.honest;
        entries = λ entries found. more_requests old.requests (frame ∷ []) old.answers entries (holds.host.entries entries found);
        runs = holds.host.runs;
      };
    }

  pub reverse_holds : (t : ℕ) (it : Begun) (sent : reversal_frame.Reversal) (new : BooksOf C B J I) → IsReversal it.frame.items sent → CallsOnly m t (Reverse (Ok it)) old.tills new.tills
      → Holds m (record old { tills = new.tills; requests = old.requests ++ it.frame ∷ [] })
  reverse_holds t it sent new is_reversal change =
      let is = change.changed in
      let before = holds.tills t change.before (before_at t _ old.tills new.tills change) in
      let made = reversal_of is.terminal.key (numbers_of is.terminal.set is.reversed) in
      let same : sent ≡ made = laws.frames.one_reversal it.frame.items sent made is_reversal (laws.reversal is.reversed it.ksn it.frame.items change.before.terminal change.after.terminal is.terminal) in
      let reversed : is.reversed ≡ sent.numbers.reversed = sym (ap (λ (it : reversal_frame.Reversal). it.numbers.reversed) same) in
      let set = set_of m Before t change.before is.terminal.set is.terminal.takes.pending before is.terminal.takes.had in
      let owned_here : IsOwner old.owners is.reversed.iksn t = subst (λ iksn. IsOwner old.owners iksn t) (sym is.terminal.used.same_iksn) set.owned in
      let owned : IsOwner old.owners sent.numbers.reversed.iksn t = subst (λ (it : Serial). IsOwner old.owners it.iksn t) reversed owned_here in
      let fits = (before.book.runs (Some (Open is.reversed is.amount)) is.was_open).1 in
      let has_begun : Contains begun sent.numbers.reversed = subst (λ (it : Serial). Contains begun it) reversed fits.0 in
      let unsold = λ (amount : ℕ) (sold : IsSold Before t sent.numbers.reversed amount). fits.1 amount (subst (λ (it : Serial). IsSold Before t it amount) (sym reversed) sold) in
      let after = with_reversal Before it.frame in (
        begun,
        reversed_holds t it.frame sent is_reversal owned has_begun unsold new.tills
            (tills_after m t _ old.tills new.tills Before after change holds.tills (grow_reversed t it.frame sent is_reversal owned has_begun unsold)
            (reverses laws.calls laws.frames m t Before (lists_hold m old begun holds t) it.ksn it.frame sent change.before change.after before is_reversal is)),
      )
