-- A purchase ends by the host's reply to its number.
use Rattle.std.proofs.Common.{◌≡◌, ◌++◌, ◌∷◌, [], ℕ, List, inl, inr, refl, sym, ap, subst, ◌∙◌}
use Rattle.duk_frame.specs.Answer.{IsReply}
use Rattle.duk_frame.specs.declared.answer.AnswerFrame.TheVariants.{Reply}
use Rattle.duk_frame.specs.declared.code.Code.{Code}
use Rattle.duk_journal_host.specs.Judged.{TellsReversal}
use Rattle.duk_reversal.specs.Reply.{IsReversalReply}
use Rattle.duk_reversal.specs.declared.reply.ReversalReply.{ReversalReply}
use Rattle.duk_reversal.specs.declared.state.ReversalState.{ReversalState}
use Rattle.duk_till.specs.Reply.{IsOutcomeKept}
use Rattle.duk_till.specs.Reversal.{IsUndoneKept}
use Rattle.duk_till.specs.Till.{IsOpen}
use Rattle.duk_tree.specs.Serial.{Serial}
use Rattle.duk_books.specs.Books.{BooksOf, Meanings}
use Rattle.duk_stations.specs.Places.{ChangesOnly, IsAt}
use Rattle.duk_books.specs.Completed.{HasItsReply, HasItsReversalReply, IsDoneByHost, IsUndoneByHost, reversal_of}
use Rattle.duk_books.specs.Down.{IsDelivered}
use Rattle.duk_books.specs.Run.{Run}
use Rattle.duk_books.specs.Step.{Step}
use Rattle.duk_books.specs.declared.event.Event.{Event}
use Rattle.duk_books.specs.declared.outcome.Outcome.{Outcome}
use Rattle.duk_books.specs.declared.outcome.Outcome.TheVariants as came
use Rattle.duk_books.proofs.accepted.RepliedBefore.{AnswerLaws, run_replied, run_reversed, same_ksn}
use Rattle.duk_books.proofs.accepted.StepsSeen.{Seen, given, neither, step_seen, taken}
use Rattle.duk_stations.proofs.PlacesInLists.{at_contains}

-- a run up to one of its outcomes
record RunsTo {C B J I : Type 0} (m : Meanings C B J I) (old : BooksOf C B J I) (earlier : List Outcome) (outcome : Outcome) : Type 0 where
  events : List Event
  event : Event
  before : BooksOf C B J I
  after : BooksOf C B J I
  run : Run m old events earlier before
  step : Step m before event outcome after

front_is : {A : Type 0} (one other : A) (rest others : List A) → one ∷ rest ≡ other ∷ others → one ≡ other
front_is one other rest others same = cc

rest_is : {A : Type 0} (one other : A) (rest others : List A) → one ∷ rest ≡ other ∷ others → rest ≡ others
rest_is one other rest others same = cc

nothing_taken_apart : {A : Type 0} (earlier later : List A) (thing : A) → ¬ ([] ≡ earlier ++ thing ∷ later)
nothing_taken_apart [] later thing same = cc
nothing_taken_apart (first ∷ earlier) later thing same = cc

runs_to : {C B J I : Type 0} (m : Meanings C B J I) (old new : BooksOf C B J I) (events : List Event) (outcomes earlier later : List Outcome) (outcome : Outcome) → Run m old events outcomes new → outcomes ≡ earlier ++ outcome ∷ later
    → RunsTo m old earlier outcome
runs_to m old new [] [] earlier later outcome run is = absurd (nothing_taken_apart earlier later outcome is)
runs_to m old new [] (first ∷ outcomes) earlier later outcome run is = absurd run
runs_to m old new (event ∷ events) [] earlier later outcome run is = absurd run
runs_to m old new (event ∷ events) (first ∷ outcomes) [] later outcome run is = record {
  events = [];
  event = event;
  before = old;
  after = run.0;
  run = refl;
  step = subst (λ (it : Outcome). Step m old event it run.0) (front_is first outcome outcomes later is) run.1;
}
runs_to m old new (event ∷ events) (first ∷ outcomes) (other ∷ earlier) later outcome run is =
    let next = runs_to m run.0 new events outcomes earlier later outcome run.2 (rest_is first other outcomes (earlier ++ outcome ∷ later) is) in
    record {
      events = event ∷ next.events;
      event = next.event;
      before = next.before;
      after = next.after;
      run = (run.0, subst (λ (it : Outcome). Step m old event it run.0) (front_is first other outcomes (earlier ++ outcome ∷ later) is) run.1, next.run);
      step = next.step;
    }

-- ---- just before

-- a till stood there before it changed
stood_at : {A : Type 0} (t u : ℕ) (P : A → A → Type 0) (old new : List A) (change : ChangesOnly u P old new) → t ≡ u → IsAt old t change.before
stood_at t u P old new change same = record { place = change.place; number_is = same ∙ change.number_is; thing_is = change.was }

-- what a till took, where its purchase is complete
pub record TakesDone {C B J I : Type 0} (m : Meanings C B J I) (old : BooksOf C B J I) (t : ℕ) (ksn : Serial) (code : Code) (new : BooksOf C B J I) : Type 0 where
  pub k : ℕ
  pub u : ℕ
  pub delivered : IsDelivered m old k u (came.Done t ksn code) new
  pub here : t ≡ u
  pub mac : List ℕ
  pub reply : IsReply delivered.frame.items ksn code mac
  pub kept : IsOutcomeKept m.book delivered.frame.items code delivered.till.before delivered.till.after

takes_done : {C B J I : Type 0} (m : Meanings C B J I) (old : BooksOf C B J I) (t : ℕ) (ksn : Serial) (code : Code) (new : BooksOf C B J I) → Seen m old (came.Done t ksn code) new → TakesDone m old t ksn code new
takes_done m old t ksn code new (given k is) = absurd is.says
takes_done m old t ksn code new (taken k u is) = elim is.till.changed [
  | inl request ↦ record { k = k; u = u; delivered = is; here = request.takes.0; mac = request.takes.1.0; reply = request.takes.1.1; kept = request.takes.2 }
  | inr reversal ↦ absurd reversal.1
]
takes_done m old t ksn code new (neither same is) = absurd is

pub record TakesUndone {C B J I : Type 0} (m : Meanings C B J I) (old : BooksOf C B J I) (t : ℕ) (ksn : Serial) (state : ReversalState) (new : BooksOf C B J I) : Type 0 where
  pub k : ℕ
  pub u : ℕ
  pub delivered : IsDelivered m old k u (came.Undone t ksn state) new
  pub here : t ≡ u
  pub reply : ReversalReply
  pub is_reply : IsReversalReply delivered.frame.items reply
  pub reversed_is : reply.numbers.reversed ≡ ksn
  pub kept : IsUndoneKept m.book delivered.frame.items state delivered.till.before delivered.till.after

takes_undone : {C B J I : Type 0} (m : Meanings C B J I) (old : BooksOf C B J I) (t : ℕ) (ksn : Serial) (state : ReversalState) (new : BooksOf C B J I) → Seen m old (came.Undone t ksn state) new → TakesUndone m old t ksn state new
takes_undone m old t ksn state new (given k is) = absurd is.says
takes_undone m old t ksn state new (taken k u is) = elim is.till.changed [
  | inl request ↦ absurd request.takes
  | inr reversal ↦
      let takes = reversal.1 in
      record { k = k; u = u; delivered = is; here = takes.0; reply = takes.1.0; is_reply = takes.1.1; reversed_is = takes.1.2; kept = takes.2 }
]
takes_undone m old t ksn state new (neither same is) = absurd is

-- the reply tells these numbers
pub told_as : (bytes : List ℕ) (reply : ReversalReply) (number ksn : Serial) (state : ReversalState) → IsReversalReply bytes reply → reply.numbers.ksn ≡ number → reply.numbers.reversed ≡ ksn → reply.state ≡ state
    → TellsReversal (reversal_of number ksn) state bytes
told_as bytes reply number ksn state is used reversed told =
    let same : reply ≡ record { numbers = reversal_of number ksn; state = state; mac = reply.mac } =
    ap (λ (it : Serial). record { numbers = reversal_of it reply.numbers.reversed; state = reply.state; mac = reply.mac }) used
    ∙ ap (λ (it : Serial). record { numbers = reversal_of number it; state = reply.state; mac = reply.mac }) reversed
    ∙ ap (λ (it : ReversalState). record { numbers = reversal_of number ksn; state = it; mac = reply.mac }) told in
    (reply.mac, subst (IsReversalReply bytes) same is)

module _ {C B J I : Type 0} (m : Meanings C B J I) (laws : AnswerLaws) where
  -- the purchase that is complete was open
  pub done_number : (old : BooksOf C B J I) (t : ℕ) (ksn : Serial) (code : Code) (new : BooksOf C B J I) → (is : TakesDone m old t ksn code new) → is.kept.reply.pending.ksn ≡ ksn
  done_number old t ksn code new is =
      let from = is.kept.reply.from_host in
      sym (same_ksn ksn is.kept.reply.pending.ksn code code is.mac from.mac
      (laws.one_answer is.delivered.frame.items (Reply ksn code is.mac) (Reply is.kept.reply.pending.ksn code from.mac) is.reply from.reply))

  pub has_its_reply : (old : BooksOf C B J I) (t : ℕ) (ksn : Serial) (code : Code) (new : BooksOf C B J I) → TakesDone m old t ksn code new → HasItsReply old t ksn code
  has_its_reply old t ksn code new is =
      let till = is.delivered.till in
      let number = done_number old t ksn code new is in
      record {
        waits = record {
          till = till.before;
          amount = is.kept.amount;
          pending = is.kept.reply.pending;
          at = stood_at t is.u _ old.tills new.tills till is.here;
          is_open = subst (λ (it : Serial). IsOpen till.before.state it is.kept.amount) (sym is.kept.reply.number_is ∙ number) is.kept.was_open;
          waits = is.kept.reply.waits;
          number_is = number;
        };
        replied = record { frame = is.delivered.frame; mac = is.mac; sent = at_contains old.answers is.k is.delivered.frame is.delivered.sent; reply = is.reply };
      }

  -- so was the one that is undone
  pub undone_number : (old : BooksOf C B J I) (t : ℕ) (ksn : Serial) (state : ReversalState) (new : BooksOf C B J I) → (is : TakesUndone m old t ksn state new) → is.kept.reversed ≡ ksn
  undone_number old t ksn state new is =
      let from = is.kept.reply.2 in
      sym from.is_of.reversed_is
      ∙ ap (λ (it : ReversalReply). it.numbers.reversed) (laws.one_reply is.delivered.frame.items from.reply is.reply from.is_reply is.is_reply)
      ∙ is.reversed_is

  pub has_its_reversal_reply : (old : BooksOf C B J I) (t : ℕ) (ksn : Serial) (state : ReversalState) (new : BooksOf C B J I) → TakesUndone m old t ksn state new → HasItsReversalReply old t ksn state
  has_its_reversal_reply old t ksn state new is =
      let till = is.delivered.till in
      let from = is.kept.reply.2 in
      let number = undone_number old t ksn state new is in
      record {
        number = is.kept.reply.0.ksn;
        waits = record {
          till = till.before;
          amount = is.kept.amount;
          pending = is.kept.reply.0;
          at = stood_at t is.u _ old.tills new.tills till is.here;
          is_open = subst (λ (it : Serial). IsOpen till.before.state it is.kept.amount) number is.kept.was_open;
          waits = is.kept.reply.1;
          number_is = refl;
        };
        replied = record {
          frame = is.delivered.frame;
          sent = at_contains old.answers is.k is.delivered.frame is.delivered.sent;
          reply = told_as is.delivered.frame.items from.reply is.kept.reply.0.ksn ksn state from.is_reply from.is_of.ksn_is (from.is_of.reversed_is ∙ number) from.found_is;
        };
      }

  pub done_step : (old : BooksOf C B J I) (event : Event) (t : ℕ) (ksn : Serial) (code : Code) (new : BooksOf C B J I) → Step m old event (came.Done t ksn code) new → TakesDone m old t ksn code new
  done_step old event t ksn code new step = takes_done m old t ksn code new (step_seen m old event (came.Done t ksn code) new step)

  pub undone_step : (old : BooksOf C B J I) (event : Event) (t : ℕ) (ksn : Serial) (state : ReversalState) (new : BooksOf C B J I) → Step m old event (came.Undone t ksn state) new → TakesUndone m old t ksn state new
  undone_step old event t ksn state new step = takes_undone m old t ksn state new (step_seen m old event (came.Undone t ksn state) new step)

  -- ---- in a run

  pub done_by_host : (old new : BooksOf C B J I) (events : List Event) (outcomes earlier later : List Outcome) (t : ℕ) (ksn : Serial) (code : Code) → Run m old events outcomes new
      → outcomes ≡ earlier ++ came.Done t ksn code ∷ later → IsDoneByHost m old earlier t ksn code
  done_by_host old new events outcomes earlier later t ksn code run is =
      let to = runs_to m old new events outcomes earlier later (came.Done t ksn code) run is in
      let has = has_its_reply to.before t ksn code to.after (done_step to.before to.event t ksn code to.after to.step) in
      record {
        just_before = λ events event before after run step. has_its_reply before t ksn code after (done_step before event t ksn code after step);
        accepted = run_replied m laws old to.before to.events earlier ksn code to.run has.replied;
      }

  pub undone_by_host : (old new : BooksOf C B J I) (events : List Event) (outcomes earlier later : List Outcome) (t : ℕ) (ksn : Serial) (state : ReversalState) → Run m old events outcomes new
      → outcomes ≡ earlier ++ came.Undone t ksn state ∷ later → IsUndoneByHost m old earlier t ksn state
  undone_by_host old new events outcomes earlier later t ksn state run is =
      record {
        just_before = λ events event before after run step.
            let has = has_its_reversal_reply before t ksn state after (undone_step before event t ksn state after step) in
            (has, run_reversed m laws old before events earlier (reversal_of has.number ksn) state run has.replied);
      }
