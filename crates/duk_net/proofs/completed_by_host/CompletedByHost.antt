-- How the transactions of a call end.
use Rattle.std.proofs.Common.{◌≡◌, ◌⊎◌, ◌++◌, ◌∷◌, [], ℕ, List, AllPairs, Any, Contains, length, inl, inr, refl, sym, ap, subst, arith, ◌∙◌}
use Rattle.std.proofs.Math.ListN.{get_or}
use Rattle.std.proofs.lemmas.List.{get_or_append_left, get_or_push, length-append, length_push}
use Rattle.std.proofs.lemmas.List.Elements.{Contains-get_or, Contains-push_cases}
use Rattle.std.proofs.lemmas.List.Quantifiers.{Any-push, all_pairs_push}
use Rattle.duk_frame.specs.Answer.{IsAnswer, IsReply}
use Rattle.duk_frame.specs.declared.answer.AnswerFrame.TheVariants.{Refusal, Reply}
use Rattle.duk_frame.specs.declared.code.Code.{Code}
use Rattle.duk_term.specs.Terminal.{TerminalOf}
use Rattle.duk_tree.specs.Serial.{Serial}
use Rattle.duk_net.specs.AcceptedOnce.{HasReply}
use Rattle.duk_net.specs.CompletedByHost.{AcceptsWith, WasPendingOrSent, WasRepliedOrAccepted, CompleteDifferentNumbers, CompletedByHost, Completes, HasItsReply, IsPendingAt, IsPendingIn, Sends}
use Rattle.duk_net.specs.UsedOnce.{HaveDifferentNumbers, IsUsedNumber, UsedOnce}
use Rattle.duk_net.specs.Reached.{CallLeads, Reached}
use Rattle.duk_net.specs.Step.{Step}
use Rattle.duk_net.specs.World.{Frame, Meanings, WorldOf}
use Rattle.duk_net.specs.declared.event.Event.{Event}
use Rattle.duk_net.specs.declared.outcome.Outcome.{Outcome}
use Rattle.duk_net.specs.declared.outcome.Outcome.TheVariants as came
use Rattle.duk_net.proofs.accepted_once.AcceptedOnce.{any_cases}
use Rattle.duk_net.proofs.completed_by_host.PendingIsSent.{OwnPending, SendsNumber, SentByOwners, Reports, done_by_host, done_is_over, pending_comes, pending_safe, sends_number, step_reports, used_stays}
use Rattle.duk_net.proofs.worlds.ReachedByMoves.{leads_all, reached_step}
use Rattle.duk_stations.proofs.Calm.{any_stays, last_or_before}
use Rattle.duk_stations.proofs.OwnKey.{BegunIsRequest}
use Rattle.duk_net.proofs.worlds.HostAnswers.{OneReading}
use Rattle.duk_net.proofs.accepted_once.RepeatsWereSent.{ExchangeLaws, HostGivesSent, reached_gives, repeat_was_sent}
use Rattle.duk_net.proofs.worlds.StepChanges.{View, step_view}
use Rattle.duk_net.proofs.worlds.StepChanges as step

-- where each two of a list are so, so is each with the last
pairs_with_last : {A : Type 0} (R : A → A → Type 0) (things : List A) (last thing : A) → AllPairs R (things ++ last ∷ []) → Contains things thing → R thing last
pairs_with_last R things last thing pairs (place, within, is) =
    let among = pairs place (length things) thing within (omega (arith, length_push things last)) in
    subst (λ x. R x last) (get_or_append_left things (last ∷ []) thing place within ∙ is)
    (subst (λ x. R (get_or (things ++ last ∷ []) place thing) x) (get_or_push things last thing (length things) refl) among)

-- the number of one request more was not used before
fresh_number : {C L I : Type 0} (old new : WorldOf C L I) (ksn : Serial) → UsedOnce new.requests → SendsNumber old new ksn → ¬ IsUsedNumber old.requests ksn
fresh_number old new ksn none sent used =
    let pairs = subst (λ requests. AllPairs HaveDifferentNumbers requests) sent.requests none.different in
    pairs_with_last HaveDifferentNumbers old.requests sent.frame used.frame pairs used.sent ksn used.number sent.number

-- an accepted reply after a step was sent before, or in it
replied_comes : {C L I : Type 0} (m : Meanings C L I) (old : WorldOf C L I) (outcome : Outcome) (new : WorldOf C L I) (ksn : Serial) (code : Code) → OneReading → ExchangeLaws → HostGivesSent old
    → View m old outcome new → HasReply new.answers ksn code → HasReply old.answers ksn code ⊎ AcceptsWith ksn code outcome
replied_comes m old outcome new ksn code one exchanges gives (step.nothing same quiet) replied = inl (subst (λ world. HasReply world.answers ksn code) same replied)
replied_comes m old outcome new ksn code one exchanges gives (step.load t iksn given quiet) replied = inl (subst (λ world. HasReply world.answers ksn code) given.rest replied)
replied_comes m old outcome new ksn code one exchanges gives (step.send t k purchase sent is begins) replied = inl (subst (λ world. HasReply world.answers ksn code) begins.rest replied)
replied_comes m old outcome new ksn code one exchanges gives (step.terminal t change quiet) replied = inl (subst (λ world. HasReply world.answers ksn code) change.rest replied)
replied_comes m old outcome new ksn code one exchanges gives (step.accept k n accepted with is up) replied =
    let stands = subst (λ world. Contains world.answers replied.frame) up.answered.rest replied.sent in
    elim (Contains-push_cases old.answers up.frame replied.frame stands) [
      | inl before ↦ inl (record { frame = replied.frame; mac = replied.mac; sent = before; reply = replied.reply })
      | inr same ↦
          let reply = subst (λ frame. IsAnswer frame.items (Reply ksn code replied.mac)) (sym same) replied.reply in
          let read = one up.frame.items (Reply accepted with up.mac) (Reply ksn code replied.mac) up.reported reply in
          let of : accepted ≡ ksn = cc in
          let and : with ≡ code = cc in
          inr (subst (λ outcome. AcceptsWith ksn code outcome) (sym is) (of, and))
    ]
replied_comes m old outcome new ksn code one exchanges gives (step.repeat k n again with is up) replied =
    let stands = subst (λ world. Contains world.answers replied.frame) up.answered.rest replied.sent in
    elim (Contains-push_cases old.answers up.frame replied.frame stands) [
      | inl before ↦ inl (record { frame = replied.frame; mac = replied.mac; sent = before; reply = replied.reply })
      | inr same ↦
          let was = repeat_was_sent m old k n again with new exchanges gives up in
          let bytes = was.bytes_are ∙ ap (λ (frame : Frame). frame.items) same in
          inl (record { frame = was.frame; mac = replied.mac; sent = was.sent; reply = subst (λ bytes. IsReply bytes ksn code replied.mac) (sym bytes) replied.reply })
    ]
replied_comes m old outcome new ksn code one exchanges gives (step.refuse k n refused reason is up) replied =
    let stands = subst (λ world. Contains world.answers replied.frame) up.answered.rest replied.sent in
    elim (Contains-push_cases old.answers up.frame replied.frame stands) [
      | inl before ↦ inl (record { frame = replied.frame; mac = replied.mac; sent = before; reply = replied.reply })
      | inr same ↦
          let reply = subst (λ frame. IsAnswer frame.items (Reply ksn code replied.mac)) (sym same) replied.reply in
          let read = one up.frame.items (Refusal refused reason) (Reply ksn code replied.mac) up.reported reply in
          cc
    ]
replied_comes m old outcome new ksn code one exchanges gives (step.done k t frame sent with is at change) replied = inl (subst (λ world. HasReply world.answers ksn code) change.rest replied)
replied_comes m old outcome new ksn code one exchanges gives (step.host touched rest quiet) replied = inl (subst (λ world. HasReply world.answers ksn code) rest replied)

-- the outcome that completes a number is that a terminal is done
done_at : {C L I : Type 0} (m : Meanings C L I) (old : WorldOf C L I) (outcome : Outcome) (new : WorldOf C L I) (ksn : Serial)
    → Reports m old outcome new → Completes ksn outcome → (t : ℕ) × (code : Code) × Reports m old (came.Done t ksn code) new
done_at m old (came.Done t done code) new ksn reports completes = (t, code, subst (λ serial. Reports m old (came.Done t serial code) new) completes reports)
done_at m old _ new ksn reports completes = absurd completes

-- with each code with which a terminal was done the host had accepted the number before
abbrev AcceptedBefore : List Frame → List Outcome → Type 0
AcceptedBefore answers outcomes =
    (earlier later : List Outcome) (t : ℕ) (ksn : Serial) (code : Code) → outcomes ≡ earlier ++ came.Done t ksn code ∷ later → WasRepliedOrAccepted answers earlier ksn code

-- how the transactions of a call have ended so far: each that is completed has a used number, and
-- each accepted reply came to be sent
pub record Ended {C : Type 0} (before after : List (TerminalOf C)) (answers replies requests : List Frame) (outcomes : List Outcome) : Type 0 where
  pub accepted : AcceptedBefore answers outcomes
  pub once : AllPairs CompleteDifferentNumbers outcomes
  pub over : (ksn : Serial) → Any (Completes ksn) outcomes → ¬ IsPendingIn after ksn
  pub pending : (t : ℕ) (ksn : Serial) → IsPendingAt after t ksn → WasPendingOrSent before outcomes t ksn
  pub used : (ksn : Serial) → Any (Completes ksn) outcomes → IsUsedNumber requests ksn
  pub replied : (ksn : Serial) (code : Code) → HasReply replies ksn code → WasRepliedOrAccepted answers outcomes ksn code

-- at first none has ended
none_ended : {C : Type 0} (terminals : List (TerminalOf C)) (answers requests : List Frame) → Ended terminals terminals answers answers requests []
none_ended terminals answers requests = record {
  accepted = λ earlier later t ksn code is. absurd (omega (arith, simp length-append at (ap length is)));
  once = λ i j outcome before within. absurd (omega (arith, within));
  over = λ ksn any waits. omega (arith, any.2);
  pending = λ t ksn waits. inl waits;
  used = λ ksn any. absurd (omega (arith, any.2));
  replied = λ ksn code replied. inl replied;
}

-- what came to be pending before outcomes, or in them, did so also where there is one more
still_pending : {C : Type 0} (terminals : List (TerminalOf C)) (outcomes : List Outcome) (last : Outcome) (t : ℕ) (ksn : Serial)
    → WasPendingOrSent terminals outcomes t ksn → WasPendingOrSent terminals (outcomes ++ last ∷ []) t ksn
still_pending terminals outcomes last t ksn came = elim came [
  | inl before ↦ inl before
  | inr sent ↦ inr (any_stays (Sends t ksn) outcomes last sent)
]

-- an accepted reply that came to be sent before outcomes, or in them, did so also where there is
-- one more
still_replied : (answers : List Frame) (outcomes : List Outcome) (last : Outcome) (ksn : Serial) (code : Code)
    → WasRepliedOrAccepted answers outcomes ksn code → WasRepliedOrAccepted answers (outcomes ++ last ∷ []) ksn code
still_replied answers outcomes last ksn code came = elim came [
  | inl before ↦ inl before
  | inr accepted ↦ inr (any_stays (AcceptsWith ksn code) outcomes last accepted)
]

module _ {C L I : Type 0} (m : Meanings C L I) (terminals : List (TerminalOf C)) (answers : List Frame) (outcomes : List Outcome) (old : WorldOf C L I) (outcome : Outcome) (new : WorldOf C L I)
    (ended : Ended terminals old.terminals answers old.answers old.requests outcomes) (safe : OwnPending old) (gives : HostGivesSent old) (view : View m old outcome new) where
  -- a step completes what the host accepted before
  accepted_on : AcceptedBefore answers (outcomes ++ outcome ∷ [])
  accepted_on earlier later t ksn code is = elim (last_or_before outcomes earlier later outcome (came.Done t ksn code) is) [
    | inl last ↦
        let reported = done_by_host m old t ksn code new (subst (λ outcome. Reports m old outcome new) last.1 (step_reports m old outcome new view)) in
        subst (λ earlier. WasRepliedOrAccepted answers earlier ksn code) (sym last.0) (ended.replied ksn code reported.1)
    | inr before ↦ ended.accepted earlier before.0 t ksn code before.1
  ]

  -- a number that a step completes was pending
  was_pending : (ksn : Serial) → Completes ksn outcome → IsPendingIn old.terminals ksn
  was_pending ksn completes =
      let at = done_at m old outcome new ksn (step_reports m old outcome new view) completes in
      (at.0, (done_by_host m old at.0 ksn at.1 new at.2).0)

  -- a step completes no number again
  once_on : AllPairs CompleteDifferentNumbers (outcomes ++ outcome ∷ [])
  once_on = all_pairs_push CompleteDifferentNumbers outcomes outcome ended.once (λ place other within ksn one last.
      let among = Contains-get_or outcomes place other within in
      ended.over ksn (among.0, get_or outcomes place other, among.1, among.2, one) (was_pending ksn last))

  -- what a step completes is over, and what was over stays so
  over_on : BegunIsRequest m.cell → UsedOnce new.requests → (ksn : Serial) → Any (Completes ksn) (outcomes ++ outcome ∷ []) → ¬ IsPendingIn new.terminals ksn
  over_on request none ksn any (t, waits) = elim (any_cases (Completes ksn) outcomes outcome any) [
    | inl before ↦ elim (pending_comes m old outcome new t ksn view waits) [
      | inl still ↦ ended.over ksn before (t, still)
      | inr sends ↦ fresh_number old new ksn none (sends_number m request old outcome new t ksn (step_reports m old outcome new view) sends) (ended.used ksn before)
    ]
    | inr last ↦
        let at = done_at m old outcome new ksn (step_reports m old outcome new view) last in
        done_is_over m old at.0 ksn at.1 new safe at.2 (t, waits)
  ]

  -- what is pending after a step came to be so
  pending_on : (t : ℕ) (ksn : Serial) → IsPendingAt new.terminals t ksn → WasPendingOrSent terminals (outcomes ++ outcome ∷ []) t ksn
  pending_on t ksn waits = elim (pending_comes m old outcome new t ksn view waits) [
    | inl before ↦ still_pending terminals outcomes outcome t ksn (ended.pending t ksn before)
    | inr sends ↦ inr (Any-push (Sends t ksn) outcomes outcome sends)
  ]

  -- a number that is completed is used
  used_on : (ksn : Serial) → Any (Completes ksn) (outcomes ++ outcome ∷ []) → IsUsedNumber new.requests ksn
  used_on ksn any = used_stays m old outcome new ksn view (elim (any_cases (Completes ksn) outcomes outcome any) [
    | inl before ↦ ended.used ksn before
    | inr last ↦
        let waited = was_pending ksn last in
        (safe waited.0 ksn waited.1).0
  ])

  -- an accepted reply after a step came to be sent
  replied_on : OneReading → ExchangeLaws → (ksn : Serial) (code : Code) → HasReply new.answers ksn code → WasRepliedOrAccepted answers (outcomes ++ outcome ∷ []) ksn code
  replied_on one exchanges ksn code replied = elim (replied_comes m old outcome new ksn code one exchanges gives view replied) [
    | inl before ↦ still_replied answers outcomes outcome ksn code (ended.replied ksn code before)
    | inr accepts ↦ inr (Any-push (AcceptsWith ksn code) outcomes outcome accepts)
  ]

  -- with one step more they end so too
  ended_on : OneReading → ExchangeLaws → BegunIsRequest m.cell → UsedOnce new.requests → Ended terminals new.terminals answers new.answers new.requests (outcomes ++ outcome ∷ [])
  ended_on one exchanges request none = record {
    accepted = accepted_on;
    once = once_on;
    over = over_on request none;
    pending = pending_on;
    used = used_on;
    replied = replied_on one exchanges;
  }

-- the world just before a terminal is done has its reply
done_has_its_reply : {C L I : Type 0} (m : Meanings C L I) (before after : WorldOf C L I) (event : Event) (t : ℕ) (ksn : Serial) (code : Code) → Step m before event (came.Done t ksn code) after → HasItsReply before t ksn code
done_has_its_reply m before after event t ksn code step =
    let reported = done_by_host m before t ksn code after (step_reports m before (came.Done t ksn code) after (step_view m before event (came.Done t ksn code) after step)) in
    record { pending = reported.0; replied = reported.1 }

-- the transactions of a call end each once, and by the host's reply
pub completed_by_call : {C L I : Type 0} (m : Meanings C L I) → OneReading → ExchangeLaws → BegunIsRequest m.cell → ((world : WorldOf C L I) → Reached m world → UsedOnce world.requests) → SentByOwners m
    → (old new : WorldOf C L I) (outcomes : List Outcome) → Reached m old → CallLeads m old outcomes new → CompletedByHost m old new.terminals outcomes
completed_by_call {C} {L} {I} m one exchanges request none owners old new outcomes reached leads =
    let HasEnded : List Outcome → WorldOf C L I → Type 0 = λ outcomes world. Ended old.terminals world.terminals old.answers world.answers world.requests outcomes in
    let ended = leads_all m HasEnded
    (λ outcomes before after event outcome reached ended step.
    ended_on m old.terminals old.answers outcomes before outcome after ended (pending_safe m request owners before reached) (reached_gives m exchanges before reached) (step_view m before event outcome after step)
    one exchanges request (none after (reached_step m before after event outcome reached step)))
    (λ outcomes before after reached ended left. subst (λ world. HasEnded outcomes world) (sym left.rest) ended)
    old new outcomes reached (none_ended old.terminals old.answers old.requests) leads in
    record {
      by_host = λ earlier later t ksn code is. record {
        just_before = λ events event before after run step. done_has_its_reply m before after event t ksn code step;
        accepted = ended.accepted earlier later t ksn code is;
      };
      once = ended.once;
      over = ended.over;
      pending = ended.pending;
    }
