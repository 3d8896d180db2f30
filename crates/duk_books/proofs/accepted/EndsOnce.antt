-- Each purchase ends at most once.
use Rattle.std.proofs.Common.{◌≡◌, ◌⊎◌, ◌++◌, ◌∷◌, [], ℕ, List, Some, Ok, Err, AllPairs, Any, Contains, inl, inr, refl, sym, ap, subst, ◌∙◌, append-nil}
use Rattle.duk_journal_host.specs.Group.{AnswersFrames}
use Rattle.duk_term.specs.Load.{Loading}
use Rattle.duk_till.specs.Lifetime.{Begin, Call, IsCalled, Load, Reverse, Stop}
use Rattle.duk_till.specs.Till.{IsOpen, TillOf}
use Rattle.duk_till.specs.declared.last.Last.TheVariants.{Open}
use Rattle.duk_tree.specs.Serial.{Serial}
use Rattle.duk_books.specs.Books.{BooksOf, Frame, Meanings}
use Rattle.duk_stations.specs.Places.{ChangesOnly, IsAt}
use Rattle.duk_books.specs.CallLeads.{CallLeads}
use Rattle.duk_books.specs.Completed.{CompletedByHost, EndDifferentPurchases, Ends, IsOpenNowhere, IsOver as IsOverSeen, MayBeOpen}
use Rattle.duk_books.specs.First.{IsFirst, IsNewTill}
use Rattle.duk_books.specs.Load.{TakesLoad}
use Rattle.duk_stations.specs.Owner.{IsOwner}
use Rattle.duk_books.specs.Reached.{Reached}
use Rattle.duk_books.specs.Run.{Run}
use Rattle.duk_books.specs.Step.{Step}
use Rattle.duk_books.specs.declared.event.Event.{Event}
use Rattle.duk_books.specs.declared.outcome.Outcome.{Outcome}
use Rattle.duk_books.specs.declared.outcome.Outcome.TheVariants as came
use Rattle.duk_books.specs.inner.Known.{BookLaws}
use Rattle.duk_books.proofs.accepted.ComesToBeOpen.{IsLasting, Opens, called_open, done_closes, none_is_no_body, undone_closes}
use Rattle.duk_books.proofs.accepted.EndedByHost.{done_by_host, done_number, done_step, has_its_reply, has_its_reversal_reply, undone_by_host, undone_number, undone_step}
use Rattle.duk_books.proofs.accepted.ListsOfOutcomes.{any_cases, any_none, any_of, no_pairs, pairs_first}
use Rattle.duk_books.proofs.accepted.RepliedBefore.{AnswerLaws}
use Rattle.duk_books.proofs.agreement.Agreement.{called_back, first_holds, new_at}
use Rattle.duk_books.proofs.agreement.BooksHold.{Holds, lists_of, one_till, set_of}
use Rattle.duk_stations.proofs.PlacesInLists.{after_at, before_at}
use Rattle.duk_books.proofs.agreement.EachMoveHolds.{holds_after}
use Rattle.duk_books.specs.Came.{IsAsked}
use Rattle.duk_books.proofs.agreement.Facts.{IsCalledBack, IsUndoneBy, asked_before, called_back_before, none_in}
use Rattle.duk_books.proofs.agreement.HostHolds.{answered_entries}
use Rattle.duk_stations.proofs.Owners.{owner_stays}
use Rattle.duk_books.proofs.moves.KeysStay.{change_leaves}
use Rattle.duk_books.proofs.agreement.QuietCalls.{is_fresh}
use Rattle.duk_books.proofs.agreement.Tills.{stopped_is_not_running}
use Rattle.duk_books.proofs.moves.ReachedByMoves.{reached_all, reached_step}
use Rattle.duk_books.proofs.moves.StepChanges.{Change, IsQuiet, IsTelling, answered, host, load, move_change, nothing, quiet, reverse, send, tell, unanswered}
use Rattle.duk_stations.proofs.PlacesInLists.{at_contains}

-- ---- what is known of purchases

-- beside what agrees: a reversal that was replied to was sent, and a till that may have a purchase
-- open owns its initial key serial number
pub record PurchasesHold {C B J I : Type 0} (m : Meanings C B J I) (books : BooksOf C B J I) : Type 0 where
  pub holds : Holds m books
  pub asked : (ksn : Serial) → IsUndoneBy books.answers ksn → IsCalledBack books.requests ksn
  pub owned : (t : ℕ) (till : TillOf C B) (ksn : Serial) → IsAt books.tills t till → MayBeOpen m till ksn → IsOwner books.owners ksn.iksn t

-- a purchase was sent, or a reversal of it
abbrev WasSent : {C B J I : Type 0} → BooksOf C B J I → Serial → Type 0
WasSent books ksn = ((amount : ℕ) × IsAsked books.requests ksn amount) ⊎ IsCalledBack books.requests ksn

-- a purchase is over: it was sent, and is open nowhere
record IsOver {C B J I : Type 0} (m : Meanings C B J I) (books : BooksOf C B J I) (ksn : Serial) : Type 0 where
  sent : WasSent books ksn
  nowhere : IsOpenNowhere m books.tills ksn

-- so it is seen from without
seen_over : {C B J I : Type 0} (m : Meanings C B J I) (books : BooksOf C B J I) (ksn : Serial) → IsOver m books ksn → IsOverSeen m books ksn
seen_over m books ksn over = record {
  sent = elim over.sent [
    | inl (amount, is) ↦ inl (record { frame = is.frame; sent = is.sent; number = record { request = is.request; is_request = is.is_request; ksn_is = sym is.ksn_is } })
    | inr is ↦ inr (record { frame = is.frame; reversal = is.reversal; sent = is.sent; is_reversal = is.is_reversal; reversed_is = is.reversed_is })
  ];
  nowhere = over.nowhere;
}

over_seen : {C B J I : Type 0} (m : Meanings C B J I) (books : BooksOf C B J I) (ksn : Serial) → IsOverSeen m books ksn → IsOver m books ksn
over_seen m books ksn over = record {
  sent = elim over.sent [
    | inl is ↦ inl (is.number.request.amount, record { frame = is.frame; request = is.number.request; sent = is.sent; is_request = is.number.is_request; ksn_is = sym is.number.ksn_is; amount_is = refl })
    | inr is ↦ inr (record { frame = is.frame; reversal = is.reversal; sent = is.sent; is_reversal = is.is_reversal; reversed_is = is.reversed_is })
  ];
  nowhere = over.nowhere;
}

quiet_lasts : (call : Call) → IsQuiet call → IsLasting call
quiet_lasts Stop is = is
quiet_lasts _ is = tt

telling_lasts : (answers : List Frame) (call : Call) → IsTelling answers call → IsLasting call
telling_lasts answers Stop is = is
telling_lasts answers _ is = tt

module _ {C B J I : Type 0} (m : Meanings C B J I) (laws : BookLaws m) (old : BooksOf C B J I) (safe : PurchasesHold m old) where
  -- what may be open at a till was before, or begins
  record CameOpen (t : ℕ) (ksn : Serial) : Type 0 where
    before : TillOf C B
    at : IsAt old.tills t before
    came : MayBeOpen m before ksn ⊎ Opens before.terminal ksn

  stayed_open : (new : BooksOf C B J I) (t : ℕ) (till : TillOf C B) (ksn : Serial) → new.tills ≡ old.tills → IsAt new.tills t till → MayBeOpen m till ksn → CameOpen t ksn
  stayed_open new t till ksn same at is_open = record { before = till; at = subst (λ tills. IsAt tills t till) same at; came = inl is_open }

  called_tills : (tills : List (TillOf C B)) (t : ℕ) (P : TillOf C B → TillOf C B → Type 0) (change : ChangesOnly t P old.tills tills) → ((ksn : Serial) → MayBeOpen m change.after ksn → MayBeOpen m change.before ksn ⊎ Opens change.before.terminal ksn)
      → (u : ℕ) (till : TillOf C B) (ksn : Serial) → IsAt tills u till → MayBeOpen m till ksn → CameOpen u ksn
  called_tills tills t P change follows u till ksn at is_open = elim (after_at t P old.tills tills change u till at) [
    | inl here ↦ record {
      before = change.before;
      at = subst (λ number. IsAt old.tills number change.before) (sym here.0) (before_at t P old.tills tills change);
      came = follows ksn (subst (λ (it : TillOf C B). MayBeOpen m it ksn) here.1 is_open);
    }
    | inr apart ↦ record { before = till; at = apart.1; came = inl is_open }
  ]

  honest_at : (t : ℕ) (till : TillOf C B) → IsAt old.tills t till → (m.book.state_of till.book).honest
  honest_at t till at = (safe.holds.1.tills t till at).book.honest

  call_open : (tills : List (TillOf C B)) (t : ℕ) (call : Call) → IsLasting call → ChangesOnly t (IsCalled m.cell m.book call) old.tills tills → (u : ℕ) (till : TillOf C B) (ksn : Serial) → IsAt tills u till → MayBeOpen m till ksn → CameOpen u ksn
  call_open tills t call lasts change =
      called_tills tills t (IsCalled m.cell m.book call) change
      (called_open m laws.calls.registers laws.calls.reading change.before change.after (honest_at t change.before (before_at t (IsCalled m.cell m.book call) old.tills tills change)) call lasts change.changed)

  load_open : (t : ℕ) (asked : Loading) (outcome : Outcome) (before after : TillOf C B) → (m.book.state_of before.book).honest → TakesLoad m.cell m.book t asked outcome before after
      → (ksn : Serial) → MayBeOpen m after ksn → MayBeOpen m before ksn ⊎ Opens before.terminal ksn
  load_open t asked (came.Loaded u iksn) before after honest is = called_open m laws.calls.registers laws.calls.reading before after honest (Load asked (Ok tt)) tt is.2
  load_open t asked (came.TillFaulted u why) before after honest is = called_open m laws.calls.registers laws.calls.reading before after honest (Load asked (Err why)) tt is.1
  load_open t asked _ before after honest is = absurd is

  came_open : (new : BooksOf C B J I) → Change m old new → (t : ℕ) (till : TillOf C B) (ksn : Serial) → IsAt new.tills t till → MayBeOpen m till ksn → CameOpen t ksn
  came_open new (nothing same) t till ksn at is_open = stayed_open new t till ksn (ap (λ books. books.tills) same) at is_open
  came_open new (quiet u call is change rest) t till ksn at is_open = call_open new.tills u call (quiet_lasts call is) change t till ksn at is_open
  came_open new (load u iksn outcome is) t till ksn at is_open =
      called_tills new.tills u (TakesLoad m.cell m.book u is.asked outcome) is.till
      (load_open u is.asked outcome is.till.before is.till.after (honest_at u is.till.before (before_at u (TakesLoad m.cell m.book u is.asked outcome) old.tills new.tills is.till)) is.till.changed)
      t till ksn at is_open
  came_open new (send u purchase it change rest) t till ksn at is_open = call_open new.tills u (Begin purchase (Ok it)) tt change t till ksn at is_open
  came_open new (reverse u it sent is_reversal change rest) t till ksn at is_open = call_open new.tills u (Reverse (Ok it)) tt change t till ksn at is_open
  came_open new (tell u call telling change takes rest) t till ksn at is_open = call_open new.tills u call (telling_lasts old.answers call telling) change t till ksn at is_open
  came_open new (answered frame answer sent is rest) t till ksn at is_open = stayed_open new t till ksn (ap (λ books. books.tills) rest) at is_open
  came_open new (unanswered frame answers why sent is rest) t till ksn at is_open = stayed_open new t till ksn (ap (λ books. books.tills) rest) at is_open
  came_open new (host touches rest) t till ksn at is_open = stayed_open new t till ksn (ap (λ books. books.tills) rest) at is_open

  -- ---- what a move leaves

  -- the requests that were sent, and those that are sent
  requests_grow : (new : BooksOf C B J I) → Change m old new → (more : List Frame) × (new.requests ≡ old.requests ++ more)
  requests_grow new (nothing same) = ([], ap (λ books. books.requests) same ∙ sym (append-nil old.requests))
  requests_grow new (quiet u call quiets change rest) = ([], ap (λ books. books.requests) rest ∙ sym (append-nil old.requests))
  requests_grow new (load u loaded outcome given) = ([], ap (λ books. books.requests) given.rest ∙ sym (append-nil old.requests))
  requests_grow new (send u purchase it change rest) = (it.frame ∷ [], ap (λ books. books.requests) rest)
  requests_grow new (reverse u it sent is_reversal change rest) = (it.frame ∷ [], ap (λ books. books.requests) rest)
  requests_grow new (tell u call telling change takes rest) = ([], ap (λ books. books.requests) rest ∙ sym (append-nil old.requests))
  requests_grow new (answered frame answer sent answers rest) = ([], ap (λ books. books.requests) rest ∙ sym (append-nil old.requests))
  requests_grow new (unanswered frame answers why sent refused rest) = ([], ap (λ books. books.requests) rest ∙ sym (append-nil old.requests))
  requests_grow new (host touches rest) = ([], ap (λ books. books.requests) rest ∙ sym (append-nil old.requests))

  called_stays : (new : BooksOf C B J I) (ksn : Serial) → Change m old new → IsCalledBack old.requests ksn → IsCalledBack new.requests ksn
  called_stays new ksn change is = let more = requests_grow new change in subst (λ list. IsCalledBack list ksn) (sym more.1) (called_back_before old.requests more.0 ksn is)

  sent_stays : (new : BooksOf C B J I) (ksn : Serial) → Change m old new → WasSent old ksn → WasSent new ksn
  sent_stays new ksn change (inl is) = let more = requests_grow new change in inl (is.0, subst (λ list. IsAsked list ksn is.0) (sym more.1) (asked_before old.requests more.0 ksn is.0 is.1))
  sent_stays new ksn change (inr is) = inr (called_stays new ksn change is)

  -- where no answer is given, each that was replied to was sent
  still_asked : (new : BooksOf C B J I) → Change m old new → new.answers ≡ old.answers → (ksn : Serial) → IsUndoneBy new.answers ksn → IsCalledBack new.requests ksn
  still_asked new change same ksn undone = called_stays new ksn change (safe.asked ksn (subst (λ list. IsUndoneBy list ksn) same undone))

  -- where one is given, the host keeps of each that it was sent
  asked_answered : (new : BooksOf C B J I) (frame answer : Frame) → Contains old.requests frame → AnswersFrames m.host (frame.items ∷ []) old.host new.host (answer.items ∷ []) → (ksn : Serial) → IsUndoneBy (old.answers ++ answer ∷ []) ksn
      → IsCalledBack old.requests ksn
  asked_answered new frame answer sent is ksn undone =
      let by = answered_entries laws.host m.host old.requests old.answers frame sent old.host new.host safe.holds.1.host answer is in
      called_back old.requests by.0 ksn by.2.came (by.2.undone ksn undone)

  asked_after : (new : BooksOf C B J I) → Change m old new → (ksn : Serial) → IsUndoneBy new.answers ksn → IsCalledBack new.requests ksn
  asked_after new (nothing same) ksn undone = still_asked new (nothing same) (ap (λ books. books.answers) same) ksn undone
  asked_after new (quiet u call quiets change rest) ksn undone = still_asked new (quiet u call quiets change rest) (ap (λ books. books.answers) rest) ksn undone
  asked_after new (load u loaded outcome given) ksn undone = still_asked new (load u loaded outcome given) (ap (λ books. books.answers) given.rest) ksn undone
  asked_after new (send u purchase it change rest) ksn undone = still_asked new (send u purchase it change rest) (ap (λ books. books.answers) rest) ksn undone
  asked_after new (reverse u it sent is_reversal change rest) ksn undone = still_asked new (reverse u it sent is_reversal change rest) (ap (λ books. books.answers) rest) ksn undone
  asked_after new (tell u call telling change takes rest) ksn undone = still_asked new (tell u call telling change takes rest) (ap (λ books. books.answers) rest) ksn undone
  asked_after new (answered frame answer sent answers rest) ksn undone =
      subst (λ list. IsCalledBack list ksn) (sym (ap (λ books. books.requests) rest))
      (asked_answered new frame answer sent answers ksn (subst (λ list. IsUndoneBy list ksn) (ap (λ books. books.answers) rest) undone))
  asked_after new (unanswered frame answers why sent refused rest) ksn undone = still_asked new (unanswered frame answers why sent refused rest) (ap (λ books. books.answers) rest) ksn undone
  asked_after new (host touches rest) ksn undone = still_asked new (host touches rest) (ap (λ books. books.answers) rest) ksn undone

  -- a till that begins a purchase owns its initial key serial number, and that has not begun before
  opens_owned : (t : ℕ) (till : TillOf C B) (ksn : Serial) → IsAt old.tills t till → Opens till.terminal ksn → IsOwner old.owners ksn.iksn t
  opens_owned t till ksn at is =
      let set = set_of m (lists_of old safe.holds.0) t till is.set is.pending (safe.holds.1.tills t till at) is.had in
      subst (λ (it : Serial). IsOwner old.owners it.iksn t) (sym is.number_is) set.owned

  opens_fresh : (t : ℕ) (till : TillOf C B) (ksn : Serial) → IsAt old.tills t till → Opens till.terminal ksn → ¬ Contains safe.holds.0 ksn
  opens_fresh t till ksn at is =
      let set = set_of m (lists_of old safe.holds.0) t till is.set is.pending (safe.holds.1.tills t till at) is.had in
      is_fresh laws.calls m t (lists_of old safe.holds.0) is.set is.left is.key ksn is.takes is.number_is set

  sent_began : (ksn : Serial) → WasSent old ksn → Contains safe.holds.0 ksn
  sent_began ksn (inl is) = safe.holds.1.asked ksn is.0 is.1
  sent_began ksn (inr is) = safe.holds.1.called_back ksn is

  owned_after : (new : BooksOf C B J I) → Change m old new → (t : ℕ) (till : TillOf C B) (ksn : Serial) → IsAt new.tills t till → MayBeOpen m till ksn → IsOwner new.owners ksn.iksn t
  owned_after new change t till ksn at is_open =
      let is = came_open new change t till ksn at is_open in
      owner_stays old.owners new.owners (change_leaves m old new change).owners ksn.iksn t (elim is.came [
        | inl before ↦ safe.owned t is.before ksn is.at before
        | inr begins ↦ opens_owned t is.before ksn is.at begins
      ])

  pub hold_after : (new : BooksOf C B J I) → Change m old new → PurchasesHold m new
  hold_after new change = record {
    holds = holds_after m laws old safe.holds.0 safe.holds.1 new change;
    asked = asked_after new change;
    owned = owned_after new change;
  }

  -- what is over stays so
  over_after : (new : BooksOf C B J I) (ksn : Serial) → Change m old new → IsOver m old ksn → IsOver m new ksn
  over_after new ksn change over = record {
    sent = sent_stays new ksn change over.sent;
    nowhere = λ t till at is_open.
        let is = came_open new change t till ksn at is_open in
        elim is.came [
          | inl before ↦ over.nowhere t is.before is.at before
          | inr begins ↦ opens_fresh t is.before ksn is.at begins (sent_began ksn over.sent)
        ];
  }

  -- ---- what ends

  -- what a till may have open no other has
  alone_open : (t u : ℕ) (one other : TillOf C B) (ksn : Serial) → IsAt old.tills t one → MayBeOpen m one ksn → IsAt old.tills u other → MayBeOpen m other ksn → u ≡ t
  alone_open t u one other ksn at is_open there also = one_till old.owners ksn.iksn t u (safe.owned t one ksn at is_open) (safe.owned u other ksn there also)

  -- where the till that had it open has it no more, it is open nowhere
  nowhere_else : (tills : List (TillOf C B)) (t : ℕ) (P : TillOf C B → TillOf C B → Type 0) (change : ChangesOnly t P old.tills tills) (ksn : Serial) → MayBeOpen m change.before ksn → ¬ MayBeOpen m change.after ksn → IsOpenNowhere m tills ksn
  nowhere_else tills t P change ksn was closed u till at is_open = elim (after_at t P old.tills tills change u till at) [
    | inl here ↦ closed (subst (λ (it : TillOf C B). MayBeOpen m it ksn) here.1 is_open)
    | inr apart ↦ apart.0 (alone_open t u change.before till ksn (before_at t P old.tills tills change) was apart.1 is_open)
  ]

  module _ (answers : AnswerLaws) (event : Event) (new : BooksOf C B J I) where
    ended : (outcome : Outcome) (ksn : Serial) → Step m old event outcome new → Ends ksn outcome → IsOver m new ksn
    ended (came.Done t done code) ksn step same =
        let is = done_step m answers old event t done code new step in
        let till = is.delivered.till in
        let was = has_its_reply m answers old t done code new is in
        let here = before_at is.u _ old.tills new.tills till in
        let awaited = (safe.holds.1.tills is.u till.before here).waits is.kept.ksn is.kept.amount is.kept.reply.pending is.kept.was_open is.kept.reply.waits is.kept.reply.number_is in
        let number : is.kept.ksn ≡ done = sym is.kept.reply.number_is ∙ done_number m answers old t done code new is in
        subst (IsOver m new) same (record {
          sent = inl (is.kept.amount, subst (λ list. IsAsked list done is.kept.amount) (sym (ap (λ books. books.requests) is.delivered.rest)) (subst (λ (it : Serial). IsAsked old.requests it is.kept.amount) number awaited.asked));
          nowhere = nowhere_else new.tills is.u _ till done (inl (is.kept.amount, subst (λ (it : Serial). IsOpen till.before.state it is.kept.amount) number is.kept.was_open))
              (done_closes m laws.calls.registers laws.calls.reading till.before till.after (honest_at is.u till.before here) is.delivered.frame.items code is.kept done);
        })
    ended (came.Undone t undone state) ksn step same =
        let is = undone_step m answers old event t undone state new step in
        let till = is.delivered.till in
        let here = before_at is.u _ old.tills new.tills till in
        let number = undone_number m answers old t undone state new is in
        let back = safe.asked undone (record { frame = is.delivered.frame; reply = is.reply; sent = at_contains old.answers is.k is.delivered.frame is.delivered.sent; is_reply = is.is_reply; reversed_is = is.reversed_is }) in
        subst (IsOver m new) same (record {
          sent = inr (subst (λ list. IsCalledBack list undone) (sym (ap (λ books. books.requests) is.delivered.rest)) back);
          nowhere = nowhere_else new.tills is.u _ till undone (inl (is.kept.amount, subst (λ (it : Serial). IsOpen till.before.state it is.kept.amount) number is.kept.was_open))
              (undone_closes m laws.calls.registers laws.calls.reading till.before till.after (honest_at is.u till.before here) is.delivered.frame.items state is.kept undone);
        })
    ended _ ksn step ends = absurd ends

    -- what is over does not end again
    not_again : (outcome : Outcome) (ksn : Serial) → Step m old event outcome new → IsOver m old ksn → ¬ Ends ksn outcome
    not_again (came.Done t done code) ksn step over same =
        let was = (has_its_reply m answers old t done code new (done_step m answers old event t done code new step)).waits in
        over.nowhere t was.till was.at (inl (was.amount, subst (λ (it : Serial). IsOpen was.till.state it was.amount) same was.is_open))
    not_again (came.Undone t undone state) ksn step over same =
        let was = (has_its_reversal_reply m answers old t undone state new (undone_step m answers old event t undone state new step)).waits in
        over.nowhere t was.till was.at (inl (was.amount, subst (λ (it : Serial). IsOpen was.till.state it was.amount) same was.is_open))
    not_again _ ksn step over ends = ends

-- ---- in all that is reached

pub first_open : {C B J I : Type 0} (m : Meanings C B J I) (till : TillOf C B) (ksn : Serial) → IsNewTill m till → ¬ MayBeOpen m till ksn
first_open m till ksn is (inl is_open) = stopped_is_not_running till.state (Some (Open ksn is_open.0)) is.stopped is_open.1
first_open m till ksn is (inr found) = none_is_no_body found.body ((is.book.finds (Some found.body)).0 found.found)

pub first_hold : {C B J I : Type 0} (m : Meanings C B J I) (books : BooksOf C B J I) → IsFirst m books → PurchasesHold m books
first_hold m books is = record {
  holds = first_holds m books is;
  asked = λ ksn undone. absurd (none_in undone.frame (subst (λ list. Contains list undone.frame) is.no_answers undone.sent));
  owned = λ t till ksn at is_open. absurd (first_open m till ksn (new_at m books is books.tills is.tills t till at) is_open);
}

pub reached_hold : {C B J I : Type 0} (m : Meanings C B J I) (laws : BookLaws m) (books : BooksOf C B J I) → Reached m books → PurchasesHold m books
reached_hold {C} {B} {J} {I} m laws books reached =
    reached_all m (λ (it : BooksOf C B J I). PurchasesHold m it) (first_hold m) (λ old new was moves. hold_after m laws old was new (move_change m old new moves)) books reached

module _ {C B J I : Type 0} (m : Meanings C B J I) (laws : BookLaws m) (answers : AnswerLaws) where
  -- how the purchases of a run end
  record RunEnds (old new : BooksOf C B J I) (outcomes : List Outcome) : Type 0 where
    reached : Reached m new
    once : AllPairs EndDifferentPurchases outcomes
    over : (ksn : Serial) → Any (Ends ksn) outcomes → IsOver m new ksn
    stays : (ksn : Serial) → IsOver m old ksn → IsOver m new ksn
    not_again : (ksn : Serial) → IsOver m old ksn → ¬ Any (Ends ksn) outcomes

  run_ends : (old new : BooksOf C B J I) (events : List Event) (outcomes : List Outcome) → Reached m old → Run m old events outcomes new → RunEnds old new outcomes
  run_ends old new [] [] reached run = record {
    reached = subst (λ books. Reached m books) (sym run) reached;
    once = no_pairs EndDifferentPurchases;
    over = λ ksn any. absurd (any_none (Ends ksn) any);
    stays = λ ksn over. subst (λ (books : BooksOf C B J I). IsOver m books ksn) (sym run) over;
    not_again = λ ksn over any. any_none (Ends ksn) any;
  }
  run_ends old new [] (outcome ∷ outcomes) reached run = absurd run
  run_ends old new (event ∷ events) [] reached run = absurd run
  run_ends old new (event ∷ events) (outcome ∷ outcomes) reached run =
      let mid = run.0 in
      let safe = reached_hold m laws old reached in
      let change = move_change m old mid (inl (record { event = event; outcome = outcome; step = run.1 })) in
      let later = run_ends mid new events outcomes (reached_step m old mid event outcome reached run.1) run.2 in
      record {
        reached = later.reached;
        once = pairs_first EndDifferentPurchases outcome outcomes
            (λ again has ksn first ends. later.not_again ksn (ended m laws old safe answers event mid outcome ksn run.1 first) (any_of (Ends ksn) outcomes again has ends)) later.once;
        over = λ ksn any. elim (any_cases (Ends ksn) outcome outcomes any) [
          | inl here ↦ later.stays ksn (ended m laws old safe answers event mid outcome ksn run.1 here)
          | inr after ↦ later.over ksn after
        ];
        stays = λ ksn over. later.stays ksn (over_after m laws old safe mid ksn change over);
        not_again = λ ksn over any. elim (any_cases (Ends ksn) outcome outcomes any) [
          | inl here ↦ not_again m laws old safe answers event mid outcome ksn run.1 over here
          | inr after ↦ later.not_again ksn (over_after m laws old safe mid ksn change over) after
        ];
      }

  pub completed_by_call : (old new : BooksOf C B J I) (outcomes : List Outcome) → Reached m old → CallLeads m old outcomes new → CompletedByHost m old new outcomes
  completed_by_call old new outcomes reached leads =
      let ran = run_ends old leads.mid leads.events outcomes reached leads.run in
      let over_left : (ksn : Serial) → IsOver m leads.mid ksn → IsOverSeen m new ksn = λ ksn over. elim leads.left [
        | inl same ↦ subst (λ (books : BooksOf C B J I). IsOverSeen m books ksn) (sym same) (seen_over m leads.mid ksn over)
        | inr left ↦ seen_over m new ksn (over_after m laws leads.mid (reached_hold m laws leads.mid ran.reached) new ksn (move_change m leads.mid new (inr left)) over)
      ] in
      record {
        done = λ earlier later t ksn code is. done_by_host m answers old leads.mid leads.events outcomes earlier later t ksn code leads.run is;
        undone = λ earlier later t ksn state is. undone_by_host m answers old leads.mid leads.events outcomes earlier later t ksn state leads.run is;
        once = ran.once;
        over = λ ksn any. over_left ksn (ran.over ksn any);
        stays_over = λ ksn over. over_left ksn (ran.stays ksn (over_seen m old ksn over));
        not_again = λ ksn over. ran.not_again ksn (over_seen m old ksn over);
      }
