-- Each list that a restart of the host's log may find is one of numbers that it may have used: each
-- numbers a transaction, and none occurs twice.
use Rattle.std.proofs.Common.{◌≢◌, ◌++◌, ◌∷◌, [], ℕ, List, Some, inl, inr, refl, subst, arith}
use Rattle.std.specs.List.{Contains}
use Rattle.std.proofs.lemmas.List.Elements.{All-nil, All-push, Contains-get_or}
use Rattle.std.proofs.lemmas.List.Quantifiers.{all_pairs_push}
use Rattle.duk_frame.specs.Request.{IsRequest}
use Rattle.duk_frame.specs.declared.request.Request.{Request}
use Rattle.duk_host.specs.Handle.{AnswersReply, HandleRefused, IsToAccept}
use Rattle.duk_host.specs.Host.{HostOf}
use Rattle.duk_host.specs.Restart.{HostRestartRefused}
use Rattle.duk_host.specs.Used.{AreUsable, IsUsed}
use Rattle.duk_host.specs.declared.fault.HostFault.{HostFault}
use Rattle.duk_host.specs.declared.fault.HostFault.TheVariants as fault
use Rattle.duk_host.specs.declared.running.Running.{Running}
use Rattle.duk_store.specs.Log.{AppendFailed, LogMeaning, Numbers}
use Rattle.duk_store.specs.Restart.{Restarted}
use Rattle.duk_store.specs.StoreState.{StoreState}
use Rattle.duk_store.specs.declared.fault.StoreFault.{StoreFault}
use Rattle.duk_store.specs.declared.fault.StoreFault.TheVariants as store_fault
use Rattle.duk_tree.specs.Path.{IsUsable}
use Rattle.duk_tree.specs.Serial.{Serial}
use Rattle.duk_net.specs.First.{IsFirstWorld}
use Rattle.duk_net.specs.Reached.{Reached}
use Rattle.duk_net.specs.World.{Frame, Meanings, WorldOf}
use Rattle.duk_net.specs.declared.outcome.Outcome.{Outcome}
use Rattle.duk_net.proofs.accepted_once.AcceptedOnce.{AnswerLaws, HostKeepsAccepted, KeepsAllAccepted, UsesAll, reached_safe}
use Rattle.duk_net.proofs.worlds.ReachedByMoves.{reached_all}
use Rattle.duk_net.proofs.worlds.StepChanges.{TouchesHost, View, accept, done, host, host_armed, host_restart_refused, host_restarted, left_touches, load, no_answer, nothing, refuse, repeat, send, step_view, terminal}

-- each list that a restart of a log may find is one of such numbers
abbrev pub FindsUsable : StoreState Numbers → Type 0
FindsUsable log = (numbers : Numbers) → log.found numbers → AreUsable numbers

-- so it is of a host's log
abbrev pub HostFindsUsable : {C L I : Type 0} → Meanings C L I → HostOf L I → Type 0
HostFindsUsable m at = FindsUsable (m.host.log.state_of at.log)

-- a number more, which was not among them and numbers a transaction
with_one_more : (numbers : Numbers) (ksn : Serial) → AreUsable numbers → IsUsable ksn.counter → ¬ Contains numbers ksn → AreUsable (numbers ++ ksn ∷ [])
with_one_more numbers ksn usable fits fresh = record {
  usable = All-push (λ number. IsUsable number.counter) numbers ksn usable.usable fits;
  once = all_pairs_push (λ earlier later. earlier ≢ later) numbers ksn usable.once (λ k d within same. fresh (subst (λ number. Contains numbers number) same (Contains-get_or numbers k d within)));
}

-- a number that stands in a list that a restart of a running host's log may find is used
used_in : (log : StoreState Numbers) (running : Running) (numbers : Numbers) (ksn : Serial) → UsesAll log (Some running) → log.found numbers → Contains numbers ksn → IsUsed running.used ksn
used_in log running numbers ksn uses found has = uses.2 ksn (subst (λ list. Contains list ksn) ((uses.1 numbers).0 found) has)

-- the number of a request that a running host is to accept, after a list that a restart of its log
-- may find
accepted_more : {C L I : Type 0} (m : Meanings C L I) (old : HostOf L I) (bytes : List ℕ) (request : Request) (numbers : Numbers) → UsesAll (m.host.log.state_of old.log) old.state → HostFindsUsable m old
    → IsRequest bytes request → IsToAccept m.host old request → (m.host.log.state_of old.log).found numbers → AreUsable (numbers ++ request.ksn ∷ [])
accepted_more m old bytes request numbers uses usable is may found =
    let all : UsesAll (m.host.log.state_of old.log) (Some may.running) = rw may.was_running at uses in
    with_one_more numbers request.ksn (usable numbers found) may.acceptable.authentic.key_is.usable
    (λ has. may.acceptable.fresh (used_in (m.host.log.state_of old.log) may.running numbers request.ksn all found has))

-- a log that restarted finds what it might have found
restarted_usable : (old new : StoreState Numbers) (numbers : Numbers) → old.honest → FindsUsable old → Restarted old new numbers → FindsUsable new
restarted_usable old new numbers honest usable is other found = usable other (rw ((is.settles.finds honest other).0 found) (is.was_found honest))

-- a log to which such a number was not appended
not_appended_usable : {L : Type 0} (log : LogMeaning L) (old new : L) (ksn : Serial) (why : StoreFault) → (log.state_of old).honest → FindsUsable (log.state_of old)
    → ((numbers : Numbers) → (log.state_of old).found numbers → AreUsable (numbers ++ ksn ∷ [])) → AppendFailed log old new ksn why → FindsUsable (log.state_of new)
not_appended_usable log old new ksn store_fault.Device honest usable more failed numbers found = elim (failed.stops.within honest numbers found) [
  | inl before ↦ usable numbers before
  | inr (earlier, before, is) ↦ rw is (more earlier before)
]
not_appended_usable log old new ksn store_fault.Stopped honest usable more failed numbers found = usable numbers ((failed.stays.found honest numbers).0 found)
not_appended_usable log old new ksn _ honest usable more failed numbers found = absurd failed

-- a host that does not answer
no_answer_usable : {C L I : Type 0} (m : Meanings C L I) (old new : HostOf L I) (answers : List Frame) (bytes : List ℕ) (why : HostFault) → HostKeepsAccepted m old answers → HostFindsUsable m old
    → HandleRefused m.host bytes old new why → HostFindsUsable m new
no_answer_usable m old new answers bytes fault.Stopped safe usable refused = rw refused.1 usable
no_answer_usable m old new answers bytes fault.NoMemory safe usable refused = rw refused.not_kept usable
no_answer_usable m old new answers bytes (fault.Store why) safe usable refused =
    not_appended_usable m.host.log old.log new.log refused.request.ksn why safe.honest usable
    (λ numbers found. accepted_more m old bytes refused.request numbers safe.uses usable refused.is_request refused.acceptable found) refused.not_kept.not_appended
no_answer_usable m old new answers bytes _ safe usable refused = absurd refused

-- a host whose restart is refused
restart_refused_usable : {C L I : Type 0} (m : Meanings C L I) (old new : HostOf L I) (answers : List Frame) (why : HostFault) → HostKeepsAccepted m old answers → HostFindsUsable m old
    → HostRestartRefused m.host.log old new why → HostFindsUsable m new
restart_refused_usable m old new answers (fault.Store why) safe usable refused = elim refused.cause [
  | inl failed ↦ λ numbers found. usable numbers (failed.stops.within safe.honest numbers found)
  | inr (damaged, none) ↦ restarted_usable _ _ none.numbers safe.honest usable none.log
]
restart_refused_usable m old new answers fault.NoMemory safe usable refused = restarted_usable _ _ refused.numbers safe.honest usable refused.log
restart_refused_usable m old new answers _ safe usable refused = absurd refused

-- whatever else happens to the host
touched_usable : {C L I : Type 0} (m : Meanings C L I) (old new : HostOf L I) (answers : List Frame) → HostKeepsAccepted m old answers → HostFindsUsable m old → TouchesHost m old new → HostFindsUsable m new
touched_usable m old new answers safe usable (no_answer bytes why refused) = no_answer_usable m old new answers bytes why safe usable refused
touched_usable m old new answers safe usable (host_restarted found restarted) = restarted_usable _ _ restarted.numbers safe.honest usable restarted.log
touched_usable m old new answers safe usable (host_restart_refused why refused) = restart_refused_usable m old new answers why safe usable refused
touched_usable m old new answers safe usable (host_armed steps armed) = λ numbers found. usable numbers ((armed.stays.found safe.honest numbers).0 found)

-- a host that accepts a request
accepts_usable : {C L I : Type 0} (m : Meanings C L I) (old new : HostOf L I) (answers : List Frame) (bytes frame : List ℕ) → HostKeepsAccepted m old answers → HostFindsUsable m old
    → AnswersReply m.host bytes old new frame → HostFindsUsable m new
accepts_usable m old new answers bytes frame safe usable reply numbers found =
    let may : IsToAccept m.host old reply.request = record { running = reply.running; was_running = reply.was_running; acceptable = reply.accepted.acceptable } in
    let uses : UsesAll (m.host.log.state_of old.log) (Some reply.running) = rw reply.was_running at safe.uses in
    let is = (reply.kept.appended.finds safe.honest uses.0 uses.1 numbers).0 found in
    rw is (accepted_more m old bytes reply.request uses.0 safe.uses usable reply.accepted.is_request may ((uses.1 uses.0).1 refl))

-- what a step does to that
view_usable : {C L I : Type 0} (m : Meanings C L I) (old : WorldOf C L I) (outcome : Outcome) (new : WorldOf C L I) → KeepsAllAccepted m old → HostFindsUsable m old.host → View m old outcome new → HostFindsUsable m new.host
view_usable m old outcome new safe usable (nothing same quiet) = rw same usable
view_usable m old outcome new safe usable (load t iksn given quiet) = rw given.rest usable
view_usable m old outcome new safe usable (send t k purchase ksn is sent) = rw sent.rest usable
view_usable m old outcome new safe usable (terminal t change quiet) = rw change.rest usable
view_usable m old outcome new safe usable (done k t frame ksn code is sent change) = rw change.rest usable
view_usable m old outcome new safe usable (accept k n ksn code is up) = accepts_usable m old.host new.host old.answers up.request.items up.frame.items safe usable up.accepted
view_usable m old outcome new safe usable (repeat k n ksn code is up) = rw up.repeated.same usable
view_usable m old outcome new safe usable (refuse k n ksn reason is up) = rw up.refused.same usable
view_usable m old outcome new safe usable (host touches rest quiet) = touched_usable m old.host new.host old.answers safe usable touches

-- where nothing was ever kept, an empty list is found
first_usable : {C L I : Type 0} (m : Meanings C L I) (world : WorldOf C L I) → IsFirstWorld m world → HostFindsUsable m world.host
first_usable m world first numbers found = rw ((first.host.log.finds numbers).0 found) (record {
  usable = All-nil (λ ksn. IsUsable ksn.counter);
  once = λ i j d less within. omega arith;
})

-- in each world that is reached, a restart of the host's log finds such a list
pub reached_usable : {C L I : Type 0} (m : Meanings C L I) → AnswerLaws → (world : WorldOf C L I) → Reached m world → HostFindsUsable m world.host
reached_usable m laws = reached_all m (λ world. HostFindsUsable m world.host) (first_usable m) (λ old new reached usable moves. elim moves [
  | inl happens ↦ view_usable m old happens.outcome new (reached_safe m laws old reached) usable (step_view m old happens.event happens.outcome new happens.step)
  | inr left ↦ touched_usable m old.host new.host old.answers (reached_safe m laws old reached) usable (left_touches m old new left)
])
