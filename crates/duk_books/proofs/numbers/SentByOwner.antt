-- Whoever sends owns the number, and who owns one owns it for good.
use Rattle.std.proofs.Common.{◌≡◌, ℕ, List, All, Contains, get_or, inl, inr, refl, sym, ap, subst, ◌∙◌}
use Rattle.std.proofs.lemmas.List.Elements.{All-nil, All-push}
use Rattle.duk_reversal.specs.Authentic.{reversal_of}
use Rattle.duk_reversal.specs.declared.reversal.Reversal as reversal_frame
use Rattle.duk_term.specs.Reversal.{numbers_of}
use Rattle.duk_term.specs.declared.purchase.Purchase.{Purchase}
use Rattle.duk_tree.specs.Serial.{Serial}
use Rattle.duk_books.specs.Begin.{IsSent}
use Rattle.duk_books.specs.Books.{BooksOf, Meanings}
use Rattle.duk_books.specs.CallLeads.{CallLeads}
use Rattle.duk_books.specs.Numbers.{IsSentByOwner}
use Rattle.duk_stations.specs.Owner.{IsOwner, Owns}
use Rattle.duk_books.specs.Reached.{Moves, Reached}
use Rattle.duk_books.specs.Reverse.{IsReversalSent}
use Rattle.duk_books.specs.Sent.{SentByOwners}
use Rattle.duk_books.specs.Step.{Step}
use Rattle.duk_books.specs.declared.event.End.TheVariants as end
use Rattle.duk_books.specs.declared.event.Event.{Event}
use Rattle.duk_books.specs.declared.event.Event.TheVariants as event
use Rattle.duk_books.specs.declared.outcome.Outcome.{Outcome}
use Rattle.duk_books.specs.declared.outcome.Outcome.TheVariants as came
use Rattle.duk_stations.specs.declared.owner.Owner.{Owner}
use Rattle.duk_books.proofs.agreement.Facts.{none_in}
use Rattle.duk_stations.proofs.Owners.{HaveOneOwner, OwnersGo, one_owner_stays, owner_stays}
use Rattle.duk_stations.proofs.Safe.{taken_from}
use Rattle.duk_stations.proofs.Terminals.{request_takes, reversal_takes}
use Rattle.duk_books.proofs.moves.CallsLead.{leads_all}
use Rattle.duk_books.proofs.moves.KeysStay.{change_keys, change_leaves}
use Rattle.duk_books.proofs.moves.ReachedByMoves.{reached_all, reached_run}
use Rattle.duk_books.proofs.moves.StepChanges.{move_change}
use Rattle.duk_books.proofs.numbers.AllSafe.{IsSafe, SafeLaws, rest_of, terminal_in}
use Rattle.duk_books.proofs.numbers.EachMoveSafe.{reached_safe}

-- ---- who sends

-- the outcome is that something is sent
abbrev IsSending : Outcome → Type 0
IsSending (came.Sent u k ksn) = Unit {0}
IsSending (came.Reversing u k ksn reversed) = Unit {0}
IsSending _ = ⊥

module _ {C B J I : Type 0} (m : Meanings C B J I) (laws : SafeLaws m.cell) (old : BooksOf C B J I) (safe : IsSafe m old) where
  request_by_owner : (t : ℕ) (purchase : Purchase) (k : ℕ) (ksn : Serial) (new : BooksOf C B J I) → IsSent m old t purchase k ksn new → IsOwner old.owners ksn.iksn t
  request_by_owner t purchase k ksn new is =
      let it = is.till.changed.terminal in
      let takes = request_takes m.cell is.till.before.terminal is.till.after.terminal purchase is.begun.frame.items it.begun in
      let set = taken_from terminal_in m.cell laws.registers (rest_of old) old.tills safe.stations t _ new.tills is.till takes in
      subst (λ (it : Serial). IsOwner old.owners it.iksn t) (sym it.ksn_is ∙ is.number_is) set.numbers.owned

  reversal_by_owner : (t k : ℕ) (ksn reversed : Serial) (new : BooksOf C B J I) → IsReversalSent m old t k ksn reversed new → IsOwner old.owners ksn.iksn t
  reversal_by_owner t k ksn reversed new is =
      let it = is.till.changed.terminal in
      let takes = reversal_takes m.cell is.till.before.terminal is.till.after.terminal is.till.changed.reversed is.begun.ksn is.begun.frame.items it in
      let set = taken_from terminal_in m.cell laws.registers (rest_of old) old.tills safe.stations t _ new.tills is.till takes in
      let made = reversal_of it.key (numbers_of it.set is.till.changed.reversed) in
      let same = laws.reading.one_reversal is.begun.frame.items made is.reversal (laws.reversal is.till.changed.reversed is.begun.ksn is.begun.frame.items is.till.before.terminal is.till.after.terminal it) is.is_reversal in
      subst (λ (it : Serial). IsOwner old.owners it.iksn t) (ap (λ (it : reversal_frame.Reversal). it.numbers.ksn) same ∙ is.number_is) set.numbers.owned

  -- a request is sent by a begin alone
  request_step : (event : Event) (u k : ℕ) (ksn : Serial) (new : BooksOf C B J I) → Step m old event (came.Sent u k ksn) new → IsOwner old.owners ksn.iksn u
  request_step (event.Load t iksn) u k ksn new step = elim step [
    | inl none ↦ absurd (subst IsSending none.outcome_is tt)
    | inr there ↦ elim there [
      | inl other ↦ absurd (subst IsSending other.outcome_is tt)
      | inr free ↦ elim free [
        | inl no_keys ↦ absurd (subst IsSending no_keys.outcome_is tt)
        | inr given ↦ absurd given.till.changed
      ]
    ]
  ]
  request_step (event.Begin t purchase) u k ksn new step = subst (λ it. IsOwner old.owners ksn.iksn it) (sym step.0) (request_by_owner t purchase k ksn new step.1)
  request_step (event.Reverse t) u k ksn new step = absurd step
  request_step (event.Up n) u k ksn new step = absurd step.says
  request_step (event.Down n t) u k ksn new step = elim step [
    | inl none ↦ absurd (subst IsSending none.outcome_is tt)
    | inr there ↦ elim there [
      | inl missing ↦ absurd (subst IsSending missing.outcome_is tt)
      | inr is ↦ elim is.till.changed [
        | inl comes ↦ absurd comes.takes
        | inr comes ↦ absurd comes.1
      ]
    ]
  ]
  request_step (event.RestartTill t) u k ksn new step = elim step [
    | inl none ↦ absurd (subst IsSending none.outcome_is tt)
    | inr is ↦ absurd is.till.changed
  ]
  request_step event.RestartHost u k ksn new step = absurd step
  request_step (event.Arm end.Host steps) u k ksn new step = absurd step
  request_step (event.Arm (end.Terminal t) steps) u k ksn new step = absurd step
  request_step (event.Arm (end.Book t) steps) u k ksn new step = absurd step

  -- and a reversal by a reverse alone
  reversal_step : (event : Event) (u k : ℕ) (ksn reversed : Serial) (new : BooksOf C B J I) → Step m old event (came.Reversing u k ksn reversed) new → IsOwner old.owners ksn.iksn u
  reversal_step (event.Load t iksn) u k ksn reversed new step = elim step [
    | inl none ↦ absurd (subst IsSending none.outcome_is tt)
    | inr there ↦ elim there [
      | inl other ↦ absurd (subst IsSending other.outcome_is tt)
      | inr free ↦ elim free [
        | inl no_keys ↦ absurd (subst IsSending no_keys.outcome_is tt)
        | inr given ↦ absurd given.till.changed
      ]
    ]
  ]
  reversal_step (event.Begin t purchase) u k ksn reversed new step = absurd step
  reversal_step (event.Reverse t) u k ksn reversed new step = subst (λ it. IsOwner old.owners ksn.iksn it) (sym step.0) (reversal_by_owner t k ksn reversed new step.1)
  reversal_step (event.Up n) u k ksn reversed new step = absurd step.says
  reversal_step (event.Down n t) u k ksn reversed new step = elim step [
    | inl none ↦ absurd (subst IsSending none.outcome_is tt)
    | inr there ↦ elim there [
      | inl missing ↦ absurd (subst IsSending missing.outcome_is tt)
      | inr is ↦ elim is.till.changed [
        | inl comes ↦ absurd comes.takes
        | inr comes ↦ absurd comes.1
      ]
    ]
  ]
  reversal_step (event.RestartTill t) u k ksn reversed new step = elim step [
    | inl none ↦ absurd (subst IsSending none.outcome_is tt)
    | inr is ↦ absurd is.till.changed
  ]
  reversal_step event.RestartHost u k ksn reversed new step = absurd step
  reversal_step (event.Arm end.Host steps) u k ksn reversed new step = absurd step
  reversal_step (event.Arm (end.Terminal t) steps) u k ksn reversed new step = absurd step
  reversal_step (event.Arm (end.Book t) steps) u k ksn reversed new step = absurd step

-- what a step sends is sent by one who owned its number
pub step_by_owner : {C B J I : Type 0} (m : Meanings C B J I) → SafeLaws m.cell → (old : BooksOf C B J I) (event : Event) (outcome : Outcome) (new : BooksOf C B J I) → IsSafe m old → Step m old event outcome new → IsSentByOwner old.owners outcome
step_by_owner m laws old event (came.Sent u k ksn) new safe step = request_step m laws old safe event u k ksn new step
step_by_owner m laws old event (came.Reversing u k ksn reversed) new safe step = reversal_step m laws old safe event u k ksn reversed new step
step_by_owner m laws old event _ new safe step = tt

-- ---- who owns one

move_go : {C B J I : Type 0} (m : Meanings C B J I) (old new : BooksOf C B J I) → Moves m old new → OwnersGo old.owners new.owners
move_go m old new moves = (change_leaves m old new (move_change m old new moves)).owners

step_moves : {C B J I : Type 0} (m : Meanings C B J I) (old new : BooksOf C B J I) (event : Event) (outcome : Outcome) → Step m old event outcome new → Moves m old new
step_moves m old new event outcome step = inl (record { event = event; outcome = outcome; step = step })

-- whoever owns an initial key serial number owns it alone
reached_one_owner : {C B J I : Type 0} (m : Meanings C B J I) (books : BooksOf C B J I) → Reached m books → HaveOneOwner books.owners
reached_one_owner {C} {B} {J} {I} m books reached =
    reached_all m (λ (it : BooksOf C B J I). HaveOneOwner it.owners)
    (λ first is iksn t owns. absurd (none_in (record { iksn = iksn; t = t }) (subst (λ list. Contains list (record { iksn = iksn; t = t })) is.no_owners owns)))
    (λ old new one moves. one_owner_stays old.owners new.owners (move_go m old new moves) one) books reached

-- ---- calls

sent_stays : (before after : List Owner) → OwnersGo before after → (outcome : Outcome) → IsSentByOwner before outcome → IsSentByOwner after outcome
sent_stays before after go (came.Sent t k ksn) owned = owner_stays before after go ksn.iksn t owned
sent_stays before after go (came.Reversing t k ksn reversed) owned = owner_stays before after go ksn.iksn t owned
sent_stays before after go _ owned = tt

all_stay : (before after : List Owner) → OwnersGo before after → (outcomes : List Outcome) → All (IsSentByOwner before) outcomes → All (IsSentByOwner after) outcomes
all_stay before after go outcomes all k d within = sent_stays before after go (get_or outcomes k d) (all k d within)

module _ {C B J I : Type 0} (m : Meanings C B J I) (old new : BooksOf C B J I) (outcomes : List Outcome) (reached : Reached m old) (leads : CallLeads m old outcomes new) where
  -- what a call sends is sent by owners
  pub leads_by_owner : SafeLaws m.cell → All (IsSentByOwner new.owners) outcomes
  leads_by_owner laws =
      leads_all m (λ outcomes (it : BooksOf C B J I). All (IsSentByOwner it.owners) outcomes)
      (λ outcomes before after event outcome was holds step.
      let go = move_go m before after (step_moves m before after event outcome step) in
      All-push (IsSentByOwner after.owners) outcomes outcome (all_stay before.owners after.owners go outcomes holds)
      (sent_stays before.owners after.owners go outcome (step_by_owner m laws before event outcome after (reached_safe m laws before was) step)))
      (λ outcomes before after was holds left. all_stay before.owners after.owners (move_go m before after (inr left)) outcomes holds)
      old new outcomes reached (All-nil (IsSentByOwner old.owners)) leads

  pub leads_owners : (iksn t : ℕ) → Owns old.owners iksn t → IsOwner new.owners iksn t
  leads_owners iksn t owns =
      leads_all m (λ outcomes (it : BooksOf C B J I). IsOwner it.owners iksn t)
      (λ outcomes before after event outcome was holds step. owner_stays before.owners after.owners (move_go m before after (step_moves m before after event outcome step)) iksn t holds)
      (λ outcomes before after was holds left. owner_stays before.owners after.owners (move_go m before after (inr left)) iksn t holds)
      old new outcomes reached (reached_one_owner m old reached iksn t owns) leads

  pub leads_keys : new.host.keys ≡ old.host.keys
  leads_keys =
      leads_all m (λ outcomes (it : BooksOf C B J I). it.host.keys ≡ old.host.keys)
      (λ outcomes before after event outcome was holds step. change_keys m before after (move_change m before after (step_moves m before after event outcome step)) ∙ holds)
      (λ outcomes before after was holds left. change_keys m before after (move_change m before after (inr left)) ∙ holds)
      old new outcomes reached refl leads

-- whatever runs lead to where something is sent, the till owned its number there
pub sent_by_owners : {C B J I : Type 0} (m : Meanings C B J I) (old : BooksOf C B J I) (outcomes : List Outcome) → SafeLaws m.cell → Reached m old → SentByOwners m old outcomes
sent_by_owners m old outcomes laws reached earlier later outcome is events event before after run step =
    step_by_owner m laws before event outcome after (reached_safe m laws before (reached_run m old before events earlier reached run)) step
