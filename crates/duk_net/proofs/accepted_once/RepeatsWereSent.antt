-- Each reply that the host may give again was sent.
use Rattle.std.proofs.Common.{◌≡◌, ◌⊎◌, ◌++◌, ◌∷◌, [], ℕ, List, Option, Some, None, inl, inr, sym, ap, subst, arith}
use Rattle.std.specs.List.{Contains}
use Rattle.std.proofs.lemmas.List.Elements.{Contains-append_left, Contains-push}
use Rattle.duk_frame.specs.Request.{request_bytes}
use Rattle.duk_frame.specs.declared.code.Code.{Code}
use Rattle.duk_host.specs.Handle.{AnswersReply, HandleRefused}
use Rattle.duk_host.specs.Host.{HostOf}
use Rattle.duk_host.specs.Recent.{Exchange, exchange, reply_given, with_exchange}
use Rattle.duk_host.specs.Restart.{HostRestartRefused}
use Rattle.duk_host.specs.declared.fault.HostFault.{HostFault}
use Rattle.duk_host.specs.declared.fault.HostFault.TheVariants as fault
use Rattle.duk_host.specs.declared.running.Running.{Running}
use Rattle.duk_tree.specs.Serial.{Serial}
use Rattle.duk_net.specs.Reached.{Reached}
use Rattle.duk_net.specs.Restart.{IsHostLeft}
use Rattle.duk_net.specs.Up.{UpRepeated}
use Rattle.duk_net.specs.World.{Frame, Meanings, WorldOf}
use Rattle.duk_net.specs.declared.outcome.Outcome.{Outcome}
use Rattle.duk_net.proofs.worlds.ReachedByMoves.{reached_all}
use Rattle.duk_net.proofs.worlds.StepChanges.{TouchesHost, View, accept, done, host, host_armed, host_restart_refused, host_restarted, left_touches, load, no_answer, nothing, refuse, repeat, send, step_view, terminal}

-- what is known of lists of exchanges: what is given again is on the list, and what is on the list with one more was before, or is that one
pub record ExchangeLaws : Type 0 where
  pub given : (recent : List Exchange) (bytes frame : List ℕ) → reply_given recent bytes ≡ Some frame → Contains recent (exchange bytes frame)
  pub others : (recent : List Exchange) (last other : Exchange) → Contains (with_exchange recent last) other → Contains recent other ⊎ (other ≡ last)

-- the bytes are those of an answer that was sent
pub record WasSent (answers : List Frame) (bytes : List ℕ) : Type 0 where
  pub frame : Frame
  pub sent : Contains answers frame
  pub bytes_are : frame.items ≡ bytes

-- each reply that a running host may give again was sent
abbrev pub GivesSent : Option Running → List Frame → Type 0
GivesSent None answers = Unit {0}
GivesSent (Some running) answers = (given : Exchange) → Contains running.recent given → WasSent answers given.reply

-- so it is in a world
abbrev pub HostGivesSent : {C L I : Type 0} → WorldOf C L I → Type 0
HostGivesSent world = GivesSent world.host.state world.answers

-- what was sent was also where one answer more is
still_sent : (answers : List Frame) (frame : Frame) (bytes : List ℕ) → WasSent answers bytes → WasSent (answers ++ frame ∷ []) bytes
still_sent answers frame bytes was = record { frame = was.frame; sent = Contains-append_left answers (frame ∷ []) was.frame was.sent; bytes_are = was.bytes_are }

-- a host that keeps its exchanges, as an answer is sent
gives_still : (state : Option Running) (answers : List Frame) (frame : Frame) → GivesSent state answers → GivesSent state (answers ++ frame ∷ [])
gives_still None answers frame gives = tt
gives_still (Some running) answers frame gives = λ given on_list. still_sent answers frame given.reply (gives given on_list)

-- a host that accepts a request
accepts_gives : {C L I : Type 0} (m : Meanings C L I) (old new : HostOf L I) (answers : List Frame) (bytes : List ℕ) (frame : Frame) → ExchangeLaws → GivesSent old.state answers
    → AnswersReply m.host bytes old new frame.items → GivesSent new.state (answers ++ frame ∷ [])
accepts_gives m old new answers bytes frame laws gives reply =
    let kept = reply.kept in
    let before : GivesSent (Some kept.before) answers = rw kept.was_running at gives in
    rw kept.runs (λ given on_list. elim (laws.others kept.before.recent (exchange bytes frame.items) given (subst (λ recent. Contains recent given) reply.recent on_list)) [
      | inl was ↦ still_sent answers frame given.reply (before given was)
      | inr is ↦ record { frame = frame; sent = Contains-push answers frame; bytes_are = ap (λ (given : Exchange). given.reply) (sym is) }
    ])

-- a host that does not answer
no_answer_gives : {C L I : Type 0} (m : Meanings C L I) (old new : HostOf L I) (answers : List Frame) (bytes : List ℕ) (why : HostFault) → GivesSent old.state answers → HandleRefused m.host bytes old new why
    → GivesSent new.state answers
no_answer_gives m old new answers bytes fault.Stopped gives refused = rw refused.1 gives
no_answer_gives m old new answers bytes fault.NoMemory gives refused = rw refused.not_kept gives
no_answer_gives m old new answers bytes (fault.Store why) gives refused = rw refused.not_kept.stopped tt
no_answer_gives m old new answers bytes _ gives refused = absurd refused

-- a host whose restart is refused
restart_refused_gives : {C L I : Type 0} (m : Meanings C L I) (old new : HostOf L I) (answers : List Frame) (why : HostFault) → HostRestartRefused m.host.log old new why → GivesSent new.state answers
restart_refused_gives m old new answers (fault.Store why) refused = rw refused.stopped tt
restart_refused_gives m old new answers fault.NoMemory refused = rw refused.stopped tt
restart_refused_gives m old new answers _ refused = absurd refused

-- whatever else happens to the host
touched_gives : {C L I : Type 0} (m : Meanings C L I) (old new : HostOf L I) (answers : List Frame) → GivesSent old.state answers → TouchesHost m old new → GivesSent new.state answers
touched_gives m old new answers gives (no_answer bytes why refused) = no_answer_gives m old new answers bytes why gives refused
touched_gives m old new answers gives (host_restarted found restarted) = rw restarted.runs (λ given on_list. let none : Contains [] given = subst (λ recent. Contains recent given) restarted.forgets on_list in absurd (omega (arith, none.1)))
touched_gives m old new answers gives (host_restart_refused why refused) = restart_refused_gives m old new answers why refused
touched_gives m old new answers gives (host_armed steps armed) = rw armed.state gives

-- what a step does to that
view_gives : {C L I : Type 0} (m : Meanings C L I) (old : WorldOf C L I) (outcome : Outcome) (new : WorldOf C L I) → ExchangeLaws → HostGivesSent old → View m old outcome new → HostGivesSent new
view_gives m old outcome new laws gives (nothing same quiet) = rw same gives
view_gives m old outcome new laws gives (load t iksn given quiet) = rw given.rest gives
view_gives m old outcome new laws gives (send t k purchase ksn is sent) = rw sent.rest gives
view_gives m old outcome new laws gives (terminal t change quiet) = rw change.rest gives
view_gives m old outcome new laws gives (done k t frame ksn code is sent change) = rw change.rest gives
view_gives m old outcome new laws gives (accept k n ksn code is up) =
    let answers : new.answers ≡ old.answers ++ up.frame ∷ [] = ap (λ world. world.answers) up.answered.rest in
    rw answers (accepts_gives m old.host new.host old.answers up.request.items up.frame laws gives up.accepted)
view_gives m old outcome new laws gives (repeat k n ksn code is up) =
    let answers : new.answers ≡ old.answers ++ up.frame ∷ [] = ap (λ world. world.answers) up.answered.rest in
    rw (answers, up.repeated.same) (gives_still old.host.state old.answers up.frame gives)
view_gives m old outcome new laws gives (refuse k n ksn reason is up) =
    let answers : new.answers ≡ old.answers ++ up.frame ∷ [] = ap (λ world. world.answers) up.answered.rest in
    rw (answers, up.refused.same) (gives_still old.host.state old.answers up.frame gives)
view_gives m old outcome new laws gives (host touches rest quiet) =
    let answers : new.answers ≡ old.answers = ap (λ world. world.answers) rest in
    rw answers (touched_gives m old.host new.host old.answers gives touches)

-- the restart of the host that was refused memory
left_gives : {C L I : Type 0} (m : Meanings C L I) (old new : WorldOf C L I) → HostGivesSent old → IsHostLeft m old new → HostGivesSent new
left_gives m old new gives left =
    let answers : new.answers ≡ old.answers = ap (λ world. world.answers) left.rest in
    rw answers (touched_gives m old.host new.host old.answers gives (left_touches m old new left))

-- in each world that is reached, each reply that the host may give again was sent
pub reached_gives : {C L I : Type 0} (m : Meanings C L I) → ExchangeLaws → (world : WorldOf C L I) → Reached m world → HostGivesSent world
reached_gives m laws = reached_all m (λ world. HostGivesSent world) (λ world first. rw first.host.stopped tt) (λ old new reached gives moves. elim moves [
  | inl happens ↦ view_gives m old happens.outcome new laws gives (step_view m old happens.event happens.outcome new happens.step)
  | inr left ↦ left_gives m old new gives left
])

-- what the host gives again was sent before
pub repeat_was_sent : {C L I : Type 0} (m : Meanings C L I) (old : WorldOf C L I) (k n : ℕ) (ksn : Serial) (code : Code) (new : WorldOf C L I) → ExchangeLaws → HostGivesSent old
    → (up : UpRepeated m old k n ksn code new) → WasSent old.answers up.frame.items
repeat_was_sent m old k n ksn code new laws gives up =
    let running = up.repeated.running in
    let repeated = up.repeated.repeated in
    let sent : GivesSent (Some running) old.answers = rw up.repeated.was_running at gives in
    sent (exchange (request_bytes repeated.request) up.frame.items) (laws.given running.recent (request_bytes repeated.request) up.frame.items repeated.given)
