-- How each move keeps all safe.
use Rattle.std.proofs.Common.{◌≡◌, ◌++◌, ◌∷◌, [], ℕ, List, Ok, Err, Contains, inl, inr, refl, sym, ap, subst, arith}
use Rattle.std.proofs.lemmas.List.Elements.{All-contains, All-nil}
use Rattle.duk_frame.specs.Payment.{request_of}
use Rattle.duk_hsm.specs.Keys.{HsmKeys}
use Rattle.duk_journal_host.specs.Host.{HostOf}
use Rattle.duk_reversal.specs.Authentic.{reversal_of}
use Rattle.duk_term.specs.Load.{Loading}
use Rattle.duk_term.specs.Reversal.{numbers_of}
use Rattle.duk_term.specs.Terminal.{serial_of}
use Rattle.duk_term.specs.declared.answer.Begun.{Begun}
use Rattle.duk_term.specs.declared.purchase.Purchase.{Purchase}
use Rattle.duk_till.specs.Lifetime.{Begin, Call, IsCalled, Load, Reverse}
use Rattle.duk_till.specs.Till.{TillOf}
use Rattle.duk_tree.specs.Serial.{Serial}
use Rattle.duk_stations.specs.inner.Moves.{GoesLoaded, TakesNext, is_loaded}
use Rattle.duk_stations.specs.Owner.{BecomesOwner, IsOwner}
use Rattle.duk_stations.specs.Places.{ChangesOnly, IsAt}
use Rattle.duk_stations.proofs.IssuedKeys.{issued_own}
use Rattle.duk_stations.proofs.Owners.{owns_loaded}
use Rattle.duk_stations.proofs.PlacesInLists.{at_contains, before_at, each_after}
use Rattle.duk_stations.proofs.Safe.{AllSafe, RegistersSafe, goes_safe, is_fresh, load_safe, sent_safe}
use Rattle.duk_stations.proofs.Terminals.{new_has, request_takes, reversal_takes}
use Rattle.duk_books.specs.Books.{BooksOf, Frame, Meanings}
use Rattle.duk_books.specs.First.{IsFirst, IsNewTill}
use Rattle.duk_books.specs.Images.{IsNothingOrLast}
use Rattle.duk_books.specs.Load.{ChangesOwners, IsGiven, TakesLoad}
use Rattle.duk_books.specs.Numbers.{HasNumber, HasUsableNumber, IsUsedNumber, UsedOnce}
use Rattle.duk_books.specs.Reached.{Reached}
use Rattle.duk_books.specs.declared.outcome.Outcome.{Outcome}
use Rattle.duk_books.specs.declared.outcome.Outcome.TheVariants as came
use Rattle.duk_books.specs.declared.sales.Sale.{Sale}
use Rattle.duk_books.proofs.agreement.Facts.{none_in}
use Rattle.duk_books.proofs.agreement.Tills.{stopped_is_not_running}
use Rattle.duk_books.proofs.moves.KeysStay.{owners_go, refused_keys, touched_keys}
use Rattle.duk_books.proofs.moves.ReachedByMoves.{reached_all}
use Rattle.duk_books.proofs.moves.StepChanges.{CallsOnly, Change, answered, host, load, move_change, nothing, quiet, reverse, send, tell, unanswered}
use Rattle.duk_books.proofs.moves.TillMoves.{IsMove, call_goes, load_fails, quiet_is_move, telling_is_move}
use Rattle.duk_books.proofs.numbers.AllSafe.{IsSafe, SafeLaws, once_more, rest_of, terminal_in, used_cases}
use Rattle.duk_books.proofs.numbers.BookBodies.{HasLasts, book_call}

module _ {C B J I : Type 0} (m : Meanings C B J I) (laws : SafeLaws m.cell) (old : BooksOf C B J I) (safe : IsSafe m old) where
  -- each book still has last purchases, as a till is called
  lasts_after : (t : ℕ) (P : TillOf C B → TillOf C B → Type 0) (new : List (TillOf C B)) (change : ChangesOnly t P old.tills new) (call : Call) → IsCalled m.cell m.book call change.before change.after
      → (u : ℕ) (till : TillOf C B) → IsAt new u till → HasLasts m.book till
  lasts_after t P new change call is =
      let lasts = λ (u : ℕ) (till : TillOf C B). HasLasts m.book till in
      each_after t P old.tills new change lasts lasts safe.lasts (λ u till apart was. was)
      (book_call laws.registers m.cell m.book call change.before change.after (safe.lasts t change.before (before_at t P old.tills new change)) is)

  -- ---- a call that sends nothing

  call_safe : (t : ℕ) (call : Call) (new : List (TillOf C B)) (sales : List Sale) → IsMove call → CallsOnly m t call old.tills new → IsSafe m (record old { tills = new; sales = sales })
  call_safe t call new sales moves change = record {
    stations = goes_safe terminal_in m.cell laws.registers (rest_of old) old.tills safe.stations t _ new change (call_goes m.cell m.book change.before change.after call moves change.changed);
    lasts = lasts_after t _ new change call change.changed;
    used_once = safe.used_once;
  }

  -- ---- a frame is sent

  sends : (t : ℕ) (call : Call) (frame : Frame) (new : List (TillOf C B)) (change : CallsOnly m t call old.tills new) (takes : TakesNext m.cell change.before.terminal change.after.terminal) → HasNumber frame (serial_of takes.set)
      → IsSafe m (record old { tills = new; requests = old.requests ++ frame ∷ [] })
  sends t call frame new change takes number = record {
    stations = sent_safe terminal_in m.cell laws.registers (rest_of old) old.tills safe.stations t _ new change takes (IsUsedNumber (old.requests ++ frame ∷ []))
        (used_cases laws.reading old.requests frame (serial_of takes.set) number);
    lasts = lasts_after t _ new change call change.changed;
    used_once = once_more laws.reading old.requests frame (serial_of takes.set) number (record { ksn = serial_of takes.set; number = number; usable = takes.takes.takes.usable })
        (is_fresh terminal_in m.cell laws.registers (rest_of old) old.tills safe.stations t _ new change takes) safe.used_once;
  }

  send_safe : (t : ℕ) (purchase : Purchase) (it : Begun) (new : List (TillOf C B)) → CallsOnly m t (Begin purchase (Ok it)) old.tills new → IsSafe m (record old { tills = new; requests = old.requests ++ it.frame ∷ [] })
  send_safe t purchase it new change =
      let begun = change.changed.terminal.begun in
      sends t (Begin purchase (Ok it)) it.frame new change (request_takes m.cell change.before.terminal change.after.terminal purchase it.frame.items begun) (inl (record {
        request = request_of begun.key (serial_of begun.set) purchase.pan purchase.pin purchase.amount;
        is_request = laws.request purchase change.before.terminal change.after.terminal it.frame.items begun;
        ksn_is = refl;
      }))

  reverse_safe : (t : ℕ) (it : Begun) (new : List (TillOf C B)) → CallsOnly m t (Reverse (Ok it)) old.tills new → IsSafe m (record old { tills = new; requests = old.requests ++ it.frame ∷ [] })
  reverse_safe t it new change =
      let is = change.changed in
      sends t (Reverse (Ok it)) it.frame new change (reversal_takes m.cell change.before.terminal change.after.terminal is.reversed it.ksn it.frame.items is.terminal) (inr (record {
        reversal = reversal_of is.terminal.key (numbers_of is.terminal.set is.reversed);
        is_reversal = laws.reversal is.reversed it.ksn it.frame.items change.before.terminal change.after.terminal is.terminal;
        ksn_is = refl;
      }))

  -- ---- a load

  module _ (t iksn : ℕ) (outcome : Outcome) (new : BooksOf C B J I) (given : IsGiven m old t iksn outcome new) where
    owns : BecomesOwner old.owners iksn t new.owners → IsOwner new.owners given.asked.iksn t
    owns becomes = subst (λ it. IsOwner new.owners it t) (sym (ap (λ (it : Loading). it.iksn) given.issued.asked_is)) (owns_loaded old.owners iksn t new.owners given.may.not_elsewhere becomes)

    load_move : (came_of : Outcome) (before after : TillOf C B) → ChangesOwners came_of old.owners iksn t new.owners → TakesLoad m.cell m.book t given.asked came_of before after
        → GoesLoaded m.cell (IsOwner new.owners given.asked.iksn t) given.asked before.terminal after.terminal × ((call : Call) × IsCalled m.cell m.book call before after)
    load_move (came.Loaded u number) before after changes takes = (is_loaded (owns changes) takes.2.terminal, (Load given.asked (Ok tt), takes.2))
    load_move (came.TillFaulted u why) before after changes takes = (
      load_fails m.cell m.book before after (IsOwner new.owners given.asked.iksn t) given.asked why (λ store why_is. owns (subst (λ it. ChangesOwners (came.TillFaulted u it) old.owners iksn t new.owners) why_is changes)) takes.1,
      (Load given.asked (Err why), takes.1),
    )
    load_move _ before after changes takes = absurd takes

    given_safe : IsSafe m (record old { tills = new.tills; owners = new.owners })
    given_safe =
        let move = load_move outcome given.till.before given.till.after given.owners given.till.changed in
        record {
          stations = load_safe terminal_in m.cell laws.registers (rest_of old) old.tills safe.stations t _ new.tills given.till new.owners (owners_go outcome old.owners iksn t new.owners given.owners) given.asked
              (issued_own laws.own_key old.host.keys iksn old.loading _ given.issued.block given.asked given.issued.loading_is given.issued.issued given.issued.asked_is) move.0;
          lasts = lasts_after t _ new.tills given.till move.1.0 move.1.1;
          used_once = safe.used_once;
        }

  -- ---- each move

  with_host : (at : HostOf J I) (answers : List Frame) → at.keys ≡ old.host.keys → IsSafe m (record old { host = at; answers = answers })
  with_host at answers same_keys = record {
    stations = subst (λ (it : HsmKeys). AllSafe terminal_in m.cell (record { keys = it; used = IsUsedNumber old.requests; owners = old.owners }) old.tills) (sym same_keys) safe.stations;
    lasts = safe.lasts;
    used_once = safe.used_once;
  }

  pub safe_after : (new : BooksOf C B J I) → Change m old new → IsSafe m new
  safe_after new (nothing same) = subst (λ (it : BooksOf C B J I). IsSafe m it) (sym same) safe
  safe_after new (quiet t call is change rest) = subst (λ (it : BooksOf C B J I). IsSafe m it) (sym rest) (call_safe t call new.tills old.sales (quiet_is_move call is) change)
  safe_after new (load t iksn outcome is) = subst (λ (it : BooksOf C B J I). IsSafe m it) (sym is.rest) (given_safe t iksn outcome new is)
  safe_after new (send t purchase it change rest) = subst (λ (it : BooksOf C B J I). IsSafe m it) (sym rest) (send_safe t purchase it new.tills change)
  safe_after new (reverse t it sent is_reversal change rest) = subst (λ (it : BooksOf C B J I). IsSafe m it) (sym rest) (reverse_safe t it new.tills change)
  safe_after new (tell t call telling change takes rest) = subst (λ (it : BooksOf C B J I). IsSafe m it) (sym rest) (call_safe t call new.tills new.sales (telling_is_move old.answers call telling) change)
  safe_after new (answered frame answer sent is rest) = subst (λ (it : BooksOf C B J I). IsSafe m it) (sym rest) (with_host new.host (old.answers ++ answer ∷ []) is.ends.keys)
  safe_after new (unanswered frame answers why sent is rest) = subst (λ (it : BooksOf C B J I). IsSafe m it) (sym rest) (with_host new.host old.answers (refused_keys m.host (frame.items ∷ []) old.host new.host answers why is))
  safe_after new (host touches rest) = subst (λ (it : BooksOf C B J I). IsSafe m it) (sym rest) (with_host new.host old.answers (touched_keys m old.host new.host touches))

-- ---- at first

module _ {C B J I : Type 0} (m : Meanings C B J I) (books : BooksOf C B J I) (is : IsFirst m books) where
  nothing_used : (ksn : Serial) → ¬ IsUsedNumber books.requests ksn
  nothing_used ksn used = none_in used.frame (subst (λ list. Contains list used.frame) is.no_requests used.sent)

  new_at : (t : ℕ) (till : TillOf C B) → IsAt books.tills t till → IsNewTill m till
  new_at t till at = All-contains (IsNewTill m) books.tills till is.tills (at_contains books.tills t till at)

  new_lasts : (till : TillOf C B) → IsNewTill m till → HasLasts m.book till
  new_lasts till made = record {
    honest = made.book.honest;
    runs = λ last runs. absurd (stopped_is_not_running till.state last made.stopped runs);
    found = λ kept found. subst (λ it. IsNothingOrLast it) (sym ((made.book.finds kept).0 found)) tt;
  }

  first_safe : IsSafe m books
  first_safe = record {
    stations = record {
      each = λ t till at. let made = new_at t till at in new_has m.cell (RegistersSafe (rest_of books) t) till.terminal made.cell.honest (λ kept found. (made.cell.finds kept).0 found) made.terminal_stopped (λ ksn used owns. nothing_used ksn used);
      owned = λ ksn used. absurd (nothing_used ksn used);
    };
    lasts = λ t till at. new_lasts till (new_at t till at);
    used_once = subst UsedOnce (sym is.no_requests) (record { usable = All-nil HasUsableNumber; different = λ i j d below within. absurd (omega (arith, within)) });
  }

-- what is reached is safe
pub reached_safe : {C B J I : Type 0} (m : Meanings C B J I) → SafeLaws m.cell → (books : BooksOf C B J I) → Reached m books → IsSafe m books
reached_safe {C} {B} {J} {I} m laws books reached =
    reached_all m (λ (it : BooksOf C B J I). IsSafe m it) (first_safe m) (λ old new was moves. safe_after m laws old was new (move_change m old new moves)) books reached
