-- What the host accepts, and what its log keeps of it.
use Rattle.std.proofs.Common.{◌≡◌, ◌⊎◌, ◌↔◌, ◌++◌, ◌∷◌, [], ℕ, List, Option, Some, None, inl, inr, refl, sym, ap, subst, arith}
use Rattle.std.specs.List.{Any, Contains}
use Rattle.std.proofs.lemmas.Grind.{common_steps}
use Rattle.std.proofs.lemmas.List.Elements.{Contains-append_left, Contains-push, Contains-push_cases}
use Rattle.std.proofs.lemmas.List.Quantifiers.{all_pairs_push}
use Rattle.duk_frame.specs.Answer.{IsRefusal, IsReply}
use Rattle.duk_frame.specs.declared.answer.AnswerFrame.{AnswerFrame}
use Rattle.duk_frame.specs.declared.answer.AnswerFrame.TheVariants.{Refusal, Reply}
use Rattle.duk_frame.specs.declared.code.Code.{Code}
use Rattle.duk_frame.specs.declared.request.Request.{Request}
use Rattle.duk_frame.specs.Payment.{reply_mac}
use Rattle.duk_host.specs.Judgement.{IsAccepted, JudgementBasis}
use Rattle.duk_host.specs.Handle.{AnswersReply, HandleRefused}
use Rattle.duk_host.specs.Host.{HostOf}
use Rattle.duk_host.specs.Restart.{HostRestartRefused}
use Rattle.duk_host.specs.Used.{IsUsed}
use Rattle.duk_host.specs.declared.running.Running.{Running}
use Rattle.duk_host.specs.declared.fault.HostFault.{HostFault}
use Rattle.duk_host.specs.declared.fault.HostFault.TheVariants as fault
use Rattle.duk_store.specs.Log.{AppendFailed, LogMeaning, Numbers}
use Rattle.duk_store.specs.StoreState.{FindsOnly, StoreState}
use Rattle.duk_store.specs.Restart.{Restarted}
use Rattle.duk_store.specs.declared.fault.StoreFault.{StoreFault}
use Rattle.duk_store.specs.declared.fault.StoreFault.TheVariants as store_fault
use Rattle.duk_tree.specs.Serial.{Serial}
use Rattle.duk_net.specs.AcceptedOnce.{AcceptDifferentNumbers, Accepts, AcceptedOnce, IsAcceptedNumber}
use Rattle.duk_net.specs.First.{IsFirstWorld}
use Rattle.duk_net.specs.Reached.{CallLeads, Reached}
use Rattle.duk_net.specs.Restart.{IsHostLeft}
use Rattle.duk_net.specs.World.{Frame, Meanings, WorldOf}
use Rattle.duk_net.specs.declared.outcome.Outcome.{Outcome}
use Rattle.duk_net.specs.declared.outcome.Outcome.TheVariants as came
use Rattle.duk_net.proofs.worlds.ReachedByMoves.{leads_all, reached_all}
use Rattle.duk_net.proofs.worlds.HostAnswers.{OneReading}
use Rattle.duk_net.proofs.accepted_once.RepeatsWereSent.{ExchangeLaws, HostGivesSent, WasSent, reached_gives, repeat_was_sent}
use Rattle.duk_net.proofs.worlds.StepChanges.{IsQuiet, TouchesHost, View, accept, done, host, host_armed, host_restart_refused, host_restarted, left_touches, load, no_answer, nothing, refuse, repeat, send, step_view, terminal}

-- the key serial number of an answer
abbrev ksn_of : AnswerFrame → Serial
ksn_of (Reply ksn code mac) = ksn
ksn_of (Refusal ksn reason) = ksn

-- an answer is an accepted reply
abbrev IsAcceptedReply : AnswerFrame → Type 0
IsAcceptedReply (Reply ksn code mac) = Unit {0}
IsAcceptedReply (Refusal ksn reason) = ⊥

-- the frame of a refusal is none of an accepted reply
no_reply : OneReading → (bytes : List ℕ) (ksn other : Serial) (reason : ℕ) (code : Code) (mac : List ℕ) → IsRefusal bytes ksn reason → ¬ IsReply bytes other code mac
no_reply one bytes ksn other reason code mac refusal reply = subst IsAcceptedReply (one bytes _ _ reply refusal) tt

-- an accepted reply to this number
abbrev RepliesTo : List ℕ → Serial → Type 0
RepliesTo bytes ksn = (code : Code) × (mac : List ℕ) × IsReply bytes ksn code mac

-- a frame is an accepted reply to at most one number
one_number : OneReading → (bytes : List ℕ) (ksn other : Serial) → RepliesTo bytes ksn → RepliesTo bytes other → ksn ≡ other
one_number one bytes ksn other reply again = ap ksn_of (one bytes _ _ reply.2 again.2)

-- an accepted reply is read as one to the number of its request
abbrev pub RepliesAreRead : Type 0
RepliesAreRead = (basis : JudgementBasis) (bytes : List ℕ) (request : Request) (frame : List ℕ) → (accepted : IsAccepted basis bytes request frame)
    → IsReply frame request.ksn accepted.reply.code (reply_mac accepted.reply.reply.key request.ksn accepted.reply.code)

-- what the laws of the crates below say of answers
pub record AnswerLaws : Type 0 where
  pub reading : OneReading
  pub replies : RepliesAreRead
  pub exchanges : ExchangeLaws

-- an accepted number stays one as an answer is sent
stays_accepted : (answers : List Frame) (frame : Frame) (ksn : Serial) → IsAcceptedNumber answers ksn → IsAcceptedNumber (answers ++ frame ∷ []) ksn
stays_accepted answers frame ksn (code, is) =
    (code, record { frame = is.frame; mac = is.mac; sent = Contains-append_left answers (frame ∷ []) is.frame is.sent; reply = is.reply })

-- an accepted reply that is sent makes its number an accepted one
now_accepted : (answers : List Frame) (frame : Frame) (ksn : Serial) → RepliesTo frame.items ksn → IsAcceptedNumber (answers ++ frame ∷ []) ksn
now_accepted answers frame ksn (code, mac, reply) = (code, record { frame = frame; mac = mac; sent = Contains-push answers frame; reply = reply })

-- a number that is accepted once an answer is sent was accepted before, or is that of this answer
accepted_cases : (answers : List Frame) (frame : Frame) (ksn : Serial) → IsAcceptedNumber (answers ++ frame ∷ []) ksn → IsAcceptedNumber answers ksn ⊎ RepliesTo frame.items ksn
accepted_cases answers frame ksn (code, is) = elim (Contains-push_cases answers frame is.frame is.sent) [
  | inl before ↦ inl (code, record { frame = is.frame; mac = is.mac; sent = before; reply = is.reply })
  | inr last ↦ inr (code, is.mac, rw last is.reply)
]

-- while a host runs, a restart of its log would find one list alone, whose numbers are all used
abbrev pub UsesAll : StoreState Numbers → Option Running → Type 0
UsesAll log None = Unit {0}
UsesAll log (Some running) = (numbers : Numbers) × FindsOnly log numbers × ((ksn : Serial) → Contains numbers ksn → IsUsed running.used ksn)

-- the log of a host keeps each number that these answers accept, and a running host uses each
-- number that its log keeps
pub record HostKeepsAccepted {C L I : Type 0} (m : Meanings C L I) (at : HostOf L I) (answers : List Frame) : Type 0 where
  pub honest : (m.host.log.state_of at.log).honest
  pub keeps : (numbers : Numbers) → (m.host.log.state_of at.log).found numbers → (ksn : Serial) → IsAcceptedNumber answers ksn → Contains numbers ksn
  pub uses : UsesAll (m.host.log.state_of at.log) at.state

-- the log of a world's host keeps each accepted number
abbrev pub KeepsAllAccepted : {C L I : Type 0} → Meanings C L I → WorldOf C L I → Type 0
KeepsAllAccepted m world = HostKeepsAccepted m world.host world.answers

-- a log is honest, and each list that a restart of it finds has the numbers of a list that a
-- restart would have found before
record Grows (old new : StoreState Numbers) : Type 0 where
  honest : new.honest
  within : (numbers : Numbers) → new.found numbers → (earlier : Numbers) × old.found earlier × ((ksn : Serial) → Contains earlier ksn → Contains numbers ksn)

-- a log that finds no other list than before grows
finds_as_before : (old new : StoreState Numbers) → new.honest → ((numbers : Numbers) → new.found numbers → old.found numbers) → Grows old new
finds_as_before old new honest found = record { honest = honest; within = λ numbers finds. (numbers, found numbers finds, λ ksn has. has) }

-- a log that restarted finds no other list than before
restarted_grows : (old new : StoreState Numbers) (numbers : Numbers) → old.honest → Restarted old new numbers → Grows old new
restarted_grows old new numbers honest restarted = finds_as_before old new (restarted.settles.nature.honest.0 honest)
    (λ other found. rw ((restarted.settles.finds honest other).0 found) (restarted.was_found honest))

-- a log whose append failed finds a list as before, perhaps with the number at its end
append_failed_grows :
    {L : Type 0} (log : LogMeaning L) (old new : L) (ksn : Serial) (why : StoreFault)
    → (log.state_of old).honest → AppendFailed log old new ksn why → Grows (log.state_of old) (log.state_of new)
append_failed_grows log old new ksn store_fault.Device honest failed = record {
  honest = failed.stops.nature.honest.0 honest;
  within = λ numbers found. elim (failed.stops.within honest numbers found) [
    | inl before ↦ (numbers, before, λ other has. has)
    | inr (earlier, before, is) ↦ (earlier, before, λ other has. rw is (Contains-append_left earlier (ksn ∷ []) other has))
  ];
}
append_failed_grows log old new ksn store_fault.Stopped honest failed =
    finds_as_before (log.state_of old) (log.state_of new) (failed.stays.nature.honest.0 honest) (λ numbers. (failed.stays.found honest numbers).0)
append_failed_grows log old new ksn store_fault.Damaged honest failed = absurd failed
append_failed_grows log old new ksn store_fault.Worn honest failed = absurd failed
append_failed_grows log old new ksn store_fault.NoMemory honest failed = absurd failed

-- a host whose log grows keeps each accepted number
grown_safe : {C L I : Type 0} (m : Meanings C L I) (old new : HostOf L I) (answers : List Frame) → HostKeepsAccepted m old answers
    → Grows (m.host.log.state_of old.log) (m.host.log.state_of new.log) → UsesAll (m.host.log.state_of new.log) new.state → HostKeepsAccepted m new answers
grown_safe m old new answers safe grows uses = record {
  honest = grows.honest;
  keeps = λ numbers found ksn accepted. let before = grows.within numbers found in before.2 ksn (safe.keeps before.0 before.1 ksn accepted);
  uses = uses;
}

-- a host that does not answer keeps each accepted number
no_answer_safe : {C L I : Type 0} (m : Meanings C L I) (old new : HostOf L I) (answers : List Frame) (bytes : List ℕ) (why : HostFault) → HostKeepsAccepted m old answers
    → HandleRefused m.host bytes old new why → HostKeepsAccepted m new answers
no_answer_safe m old new answers bytes fault.Stopped safe refused = rw refused.1 safe
no_answer_safe m old new answers bytes fault.NoMemory safe refused = rw refused.not_kept safe
no_answer_safe m old new answers bytes (fault.Store why) safe refused =
    let kept = refused.not_kept in
    grown_safe m old new answers safe (append_failed_grows m.host.log old.log new.log refused.request.ksn why safe.honest kept.not_appended) (rw kept.stopped tt)
no_answer_safe m old new answers bytes fault.Read safe refused = absurd refused
no_answer_safe m old new answers bytes fault.Write safe refused = absurd refused
no_answer_safe m old new answers bytes fault.Truncated safe refused = absurd refused
no_answer_safe m old new answers bytes fault.TooLong safe refused = absurd refused

-- a host whose restart is refused keeps each accepted number
restart_refused_safe : {C L I : Type 0} (m : Meanings C L I) (old new : HostOf L I) (answers : List Frame) (why : HostFault) → HostKeepsAccepted m old answers
    → HostRestartRefused m.host.log old new why → HostKeepsAccepted m new answers
restart_refused_safe m old new answers (fault.Store why) safe refused =
    let grows : Grows (m.host.log.state_of old.log) (m.host.log.state_of new.log) = elim refused.cause [
      | inl failed ↦ finds_as_before _ _ (failed.stops.nature.honest.0 safe.honest) (failed.stops.within safe.honest)
      | inr (damaged, none) ↦ restarted_grows _ _ none.numbers safe.honest none.log
    ] in
    grown_safe m old new answers safe grows (rw refused.stopped tt)
restart_refused_safe m old new answers fault.NoMemory safe refused =
    grown_safe m old new answers safe (restarted_grows _ _ refused.numbers safe.honest refused.log) (rw refused.stopped tt)
restart_refused_safe m old new answers fault.Stopped safe refused = absurd refused
restart_refused_safe m old new answers fault.Read safe refused = absurd refused
restart_refused_safe m old new answers fault.Write safe refused = absurd refused
restart_refused_safe m old new answers fault.Truncated safe refused = absurd refused
restart_refused_safe m old new answers fault.TooLong safe refused = absurd refused

-- where a log finds the same lists as before, the used numbers are all that it keeps
uses_as_before : (old new : StoreState Numbers) (state : Option Running) → ((numbers : Numbers) → new.found numbers ↔ old.found numbers) → UsesAll old state → UsesAll new state
uses_as_before old new None same uses = tt
uses_as_before old new (Some running) same uses =
    (uses.0, λ other. ((λ found. (uses.1 other).0 ((same other).0 found)), (λ is. (same other).1 ((uses.1 other).1 is))), uses.2)

-- whatever else happens to the host, it keeps each accepted number
touched_safe : {C L I : Type 0} (m : Meanings C L I) (old new : HostOf L I) (answers : List Frame) → HostKeepsAccepted m old answers → TouchesHost m old new → HostKeepsAccepted m new answers
touched_safe m old new answers safe (no_answer bytes why refused) = no_answer_safe m old new answers bytes why safe refused
touched_safe m old new answers safe (host_restarted found restarted) = grown_safe m old new answers safe (restarted_grows _ _ restarted.numbers safe.honest restarted.log)
    (rw restarted.runs (restarted.numbers, restarted.log.settles.finds safe.honest, λ ksn. ((restarted.lists safe.honest).members ksn).0))
touched_safe m old new answers safe (host_restart_refused why refused) = restart_refused_safe m old new answers why safe refused
touched_safe m old new answers safe (host_armed steps armed) = grown_safe m old new answers safe
    (finds_as_before _ _ (armed.stays.honest.0 safe.honest) (λ numbers. (armed.stays.found safe.honest numbers).0))
    (rw armed.state (uses_as_before (m.host.log.state_of old.log) (m.host.log.state_of new.log) old.state (armed.stays.found safe.honest) safe.uses))

-- the number that a host accepts was not accepted before
accepts_fresh : {C L I : Type 0} (m : Meanings C L I) (old new : HostOf L I) (answers : List Frame) (bytes frame : List ℕ) (ksn : Serial) → AnswerLaws → HostKeepsAccepted m old answers
    → AnswersReply m.host bytes old new frame → RepliesTo frame ksn → ¬ IsAcceptedNumber answers ksn
accepts_fresh m old new answers bytes frame ksn laws safe reply reported accepted =
    let uses : UsesAll (m.host.log.state_of old.log) (Some reply.running) = rw reply.was_running at safe.uses in
    let is : ksn ≡ reply.request.ksn = one_number laws.reading frame ksn reply.request.ksn reported (_, _, laws.replies _ bytes reply.request frame reply.accepted) in
    let used : IsUsed reply.running.used ksn = uses.2 ksn (safe.keeps uses.0 ((uses.1 uses.0).1 refl) ksn accepted) in
    reply.accepted.acceptable.fresh (rw is at used)

-- a host that accepts a request keeps each accepted number, with that of the request
accepts_safe : {C L I : Type 0} (m : Meanings C L I) (old new : HostOf L I) (answers : List Frame) (bytes : List ℕ) (frame : Frame) → AnswerLaws → HostKeepsAccepted m old answers
    → AnswersReply m.host bytes old new frame.items → HostKeepsAccepted m new (answers ++ frame ∷ [])
accepts_safe m old new answers bytes frame laws safe reply =
    let kept = reply.kept in
    let number = reply.request.ksn in
    let uses : UsesAll (m.host.log.state_of old.log) (Some kept.before) = rw kept.was_running at safe.uses in
    let finds : FindsOnly (m.host.log.state_of new.log) (uses.0 ++ number ∷ []) = kept.appended.finds safe.honest uses.0 uses.1 in
    record {
      honest = kept.appended.nature.honest.0 safe.honest;
      keeps = λ numbers found ksn accepted. rw ((finds numbers).0 found) (elim (accepted_cases answers frame ksn accepted) [
        | inl before ↦ Contains-append_left uses.0 (number ∷ []) ksn (safe.keeps uses.0 ((uses.1 uses.0).1 refl) ksn before)
        | inr reported ↦ rw (one_number laws.reading frame.items ksn number reported (_, _, laws.replies _ bytes reply.request frame.items reply.accepted)) (Contains-push uses.0 number)
      ]);
      uses = rw kept.runs (
        uses.0 ++ number ∷ [],
        finds,
        λ ksn has. (kept.one_more ksn).1 (elim (Contains-push_cases uses.0 number ksn has) [
          | inl before ↦ inl (uses.2 ksn before)
          | inr is ↦ inr (sym is)
        ]),
      );
    }

-- a host that refuses a request keeps each accepted number
refuses_safe : {C L I : Type 0} (m : Meanings C L I) (at : HostOf L I) (answers : List Frame) (frame : Frame) (number : Serial) (reason : ℕ) → AnswerLaws → HostKeepsAccepted m at answers
    → IsRefusal frame.items number reason → HostKeepsAccepted m at (answers ++ frame ∷ [])
refuses_safe m at answers frame number reason laws safe refusal = record {
  honest = safe.honest;
  keeps = λ numbers found ksn accepted. elim (accepted_cases answers frame ksn accepted) [
    | inl before ↦ safe.keeps numbers found ksn before
    | inr reported ↦ absurd (no_reply laws.reading frame.items number ksn reason reported.0 reported.1 refusal reported.2)
  ];
  uses = safe.uses;
}

-- an accepted reply that was sent makes its number an accepted one
accepted_as_sent : (answers : List Frame) (bytes : List ℕ) (ksn : Serial) → WasSent answers bytes → RepliesTo bytes ksn → IsAcceptedNumber answers ksn
accepted_as_sent answers bytes ksn was (code, mac, reply) = (code, record { frame = was.frame; mac = mac; sent = was.sent; reply = subst (λ bytes. IsReply bytes ksn code mac) (sym was.bytes_are) reply })

-- a host that gives a reply again keeps each accepted number
repeats_safe : {C L I : Type 0} (m : Meanings C L I) (at : HostOf L I) (answers : List Frame) (frame : Frame) → HostKeepsAccepted m at answers → WasSent answers frame.items → HostKeepsAccepted m at (answers ++ frame ∷ [])
repeats_safe m at answers frame safe was = record {
  honest = safe.honest;
  keeps = λ numbers found ksn accepted. safe.keeps numbers found ksn (elim (accepted_cases answers frame ksn accepted) [
    | inl before ↦ before
    | inr reported ↦ accepted_as_sent answers frame.items ksn was reported
  ]);
  uses = safe.uses;
}

-- an outcome says nothing of an acceptance
abbrev AcceptsNone : Outcome → Type 0
AcceptsNone outcome = (ksn : Serial) → ¬ Accepts ksn outcome

-- a quiet outcome says nothing of an acceptance
quiet_accepts : (outcome : Outcome) → IsQuiet outcome → AcceptsNone outcome
quiet_accepts (came.Accepted k number code) quiet ksn accepts = quiet
quiet_accepts _ quiet ksn accepts = accepts

-- as these answers become those, numbers stay accepted, and where the outcome is that a number is
-- accepted, that one was not before
record Gains (old : List Frame) (outcome : Outcome) (new : List Frame) : Type 0 where
  stays : (ksn : Serial) → IsAcceptedNumber old ksn → IsAcceptedNumber new ksn
  accepts : (ksn : Serial) → Accepts ksn outcome → (¬ IsAcceptedNumber old ksn) × IsAcceptedNumber new ksn

-- where the answers stay, and nothing is accepted, no number becomes an accepted one
gains_none : (old new : List Frame) (outcome : Outcome) → new ≡ old → AcceptsNone outcome → Gains old outcome new
gains_none old new outcome same none = record { stays = λ ksn accepted. rw same accepted; accepts = λ ksn accepts. absurd (none ksn accepts) }

-- what a step that leaves host and answers alone does to accepted numbers
same_view : {C L I : Type 0} (m : Meanings C L I) (old next new : WorldOf C L I) (outcome : Outcome) → KeepsAllAccepted m old → new ≡ next → next.host ≡ old.host → next.answers ≡ old.answers → AcceptsNone outcome
    → KeepsAllAccepted m new × Gains old.answers outcome new.answers
same_view m old next new outcome safe is hosts answers none = rw is (rw (hosts, answers) safe, gains_none old.answers next.answers outcome answers none)

-- what a step does to accepted numbers
view_safe : {C L I : Type 0} (m : Meanings C L I) (old : WorldOf C L I) (outcome : Outcome) (new : WorldOf C L I) → AnswerLaws → HostGivesSent old → KeepsAllAccepted m old → View m old outcome new
    → KeepsAllAccepted m new × Gains old.answers outcome new.answers
view_safe m old outcome new laws gives safe (nothing same quiet) = same_view m old _ new outcome safe same refl refl (quiet_accepts outcome quiet)
view_safe m old outcome new laws gives safe (load t iksn given quiet) = same_view m old _ new outcome safe given.rest refl refl (quiet_accepts outcome quiet)
view_safe m old outcome new laws gives safe (send t k purchase ksn is sent) = same_view m old _ new outcome safe sent.rest refl refl (rw is (λ ksn accepts. accepts))
view_safe m old outcome new laws gives safe (terminal t change quiet) = same_view m old _ new outcome safe change.rest refl refl (quiet_accepts outcome quiet)
view_safe m old outcome new laws gives safe (done k t frame ksn code is sent change) = same_view m old _ new outcome safe change.rest refl refl (rw is (λ ksn accepts. accepts))
view_safe m old outcome new laws gives safe (accept k n ksn code is up) =
    let answers : new.answers ≡ old.answers ++ up.frame ∷ [] = ap (λ world. world.answers) up.answered.rest in
    let reported : RepliesTo up.frame.items ksn = (code, up.mac, up.reported) in
    rw answers (
      accepts_safe m old.host new.host old.answers up.request.items up.frame laws safe up.accepted,
      record {
        stays = stays_accepted old.answers up.frame;
        accepts = rw is (λ number same. subst (λ number. (¬ IsAcceptedNumber old.answers number) × IsAcceptedNumber (old.answers ++ up.frame ∷ []) number) same (
          accepts_fresh m old.host new.host old.answers up.request.items up.frame.items ksn laws safe up.accepted reported,
          now_accepted old.answers up.frame ksn reported,
        ));
      },
    )
view_safe m old outcome new laws gives safe (repeat k n ksn code is up) =
    let answers : new.answers ≡ old.answers ++ up.frame ∷ [] = ap (λ world. world.answers) up.answered.rest in
    rw (answers, up.repeated.same) (
      repeats_safe m old.host old.answers up.frame safe (repeat_was_sent m old k n ksn code new laws.exchanges gives up),
      record { stays = stays_accepted old.answers up.frame; accepts = rw is (λ number accepts. absurd accepts) },
    )
view_safe m old outcome new laws gives safe (refuse k n ksn reason is up) =
    let answers : new.answers ≡ old.answers ++ up.frame ∷ [] = ap (λ world. world.answers) up.answered.rest in
    rw (answers, up.refused.same) (
      refuses_safe m old.host old.answers up.frame ksn reason laws safe up.reported,
      record { stays = stays_accepted old.answers up.frame; accepts = rw is (λ number accepts. absurd accepts) },
    )
view_safe m old outcome new laws gives safe (host touches rest quiet) =
    let answers : new.answers ≡ old.answers = ap (λ world. world.answers) rest in
    (rw answers (touched_safe m old.host new.host old.answers safe touches), gains_none old.answers new.answers outcome answers (quiet_accepts outcome quiet))

-- the restart of the host that was refused memory keeps each accepted number
left_safe : {C L I : Type 0} (m : Meanings C L I) (old new : WorldOf C L I) → KeepsAllAccepted m old → IsHostLeft m old new → KeepsAllAccepted m new
left_safe m old new safe left = rw (ap (λ world. world.answers) left.rest) (touched_safe m old.host new.host old.answers safe (left_touches m old new left))

-- where no answers were sent, no number is accepted
none_accepted : (ksn : Serial) → ¬ IsAcceptedNumber [] ksn
none_accepted ksn (code, is) = omega (arith, is.sent.1)

-- a new world keeps each accepted number, since none was accepted
first_safe : {C L I : Type 0} (m : Meanings C L I) (world : WorldOf C L I) → IsFirstWorld m world → KeepsAllAccepted m world
first_safe m world first = record {
  honest = first.host.log.honest;
  keeps = λ numbers found ksn accepted. absurd (none_accepted ksn (rw first.no_answers at accepted));
  uses = rw first.host.stopped tt;
}

-- each world that is reached keeps each accepted number
pub reached_safe : {C L I : Type 0} (m : Meanings C L I) → AnswerLaws → (world : WorldOf C L I) → Reached m world → KeepsAllAccepted m world
reached_safe m laws = reached_all m (KeepsAllAccepted m) (first_safe m) (λ old new reached safe moves. elim moves [
  | inl happens ↦ (view_safe m old happens.outcome new laws (reached_gives m laws.exchanges old reached) safe (step_view m old happens.event happens.outcome new happens.step)).0
  | inr left ↦ left_safe m old new safe left
])

-- from these answers on, numbers stay accepted, those that the outcomes accept are accepted, and
-- none is twice
record Once (first : List Frame) (outcomes : List Outcome) (answers : List Frame) : Type 0 where
  stays : (ksn : Serial) → IsAcceptedNumber first ksn → IsAcceptedNumber answers ksn
  reported : (ksn : Serial) → Any (Accepts ksn) outcomes → IsAcceptedNumber answers ksn
  once : AcceptedOnce first outcomes

-- an empty list has no item of which anything holds
any_none : {A : Type 0} (P : A → Type 0) → ¬ Any P []
any_none P any = omega (arith, any.2)

-- what holds of some item holds of the last one, or of one before
pub any_cases : {A : Type 0} (P : A → Type 0) (things : List A) (last : A) → Any P (things ++ last ∷ []) → Any P things ⊎ P last
any_cases P things last (k, thing, within, at, holds) = elim (Contains-push_cases things last thing (k, within, at)) [
  | inl before ↦ inl (before.0, thing, before.1, before.2, holds)
  | inr is ↦ inr (rw is holds)
]

-- one outcome more accepts no number twice, where its step gains as said
once_more : (first : List Frame) (outcomes : List Outcome) (old : List Frame) (outcome : Outcome) (new : List Frame) → Once first outcomes old → Gains old outcome new → Once first (outcomes ++ outcome ∷ []) new
once_more first outcomes old outcome new once gains = record {
  stays = λ ksn accepted. gains.stays ksn (once.stays ksn accepted);
  reported = λ ksn any. elim (any_cases (Accepts ksn) outcomes outcome any) [
    | inl before ↦ gains.stays ksn (once.reported ksn before)
    | inr last ↦ (gains.accepts ksn last).1
  ];
  once = record {
    once = all_pairs_push AcceptDifferentNumbers outcomes outcome once.once.once
        (λ k d within ksn accepts last. (gains.accepts ksn last).0 (once.reported ksn (k, _, within, grind (arith, common_steps), accepts)));
    afresh = λ ksn any accepted. elim (any_cases (Accepts ksn) outcomes outcome any) [
      | inl before ↦ once.once.afresh ksn before accepted
      | inr last ↦ (gains.accepts ksn last).0 (once.stays ksn accepted)
    ];
  };
}

-- a call accepts no number twice, and none that was accepted before
pub leads_once : {C L I : Type 0} (m : Meanings C L I) → AnswerLaws → (old new : WorldOf C L I) (outcomes : List Outcome) → Reached m old → CallLeads m old outcomes new → AcceptedOnce old.answers outcomes
leads_once m laws old new outcomes reached leads =
    let first : Once old.answers [] old.answers = record {
      stays = λ ksn accepted. accepted;
      reported = λ ksn any. absurd (any_none (Accepts ksn) any);
      once = record { once = λ i j d less within. omega arith; afresh = λ ksn any accepted. any_none (Accepts ksn) any };
    } in
    (leads_all m (λ outcomes world. Once old.answers outcomes world.answers)
    (λ outcomes before after event outcome reached once step. once_more old.answers outcomes before.answers outcome after.answers once
    (view_safe m before outcome after laws (reached_gives m laws.exchanges before reached) (reached_safe m laws before reached) (step_view m before event outcome after step)).1)
    (λ outcomes before after reached once left. rw (ap (λ world. world.answers) left.rest) once)
    old new outcomes reached first leads).once
