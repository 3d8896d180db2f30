-- What is pending at the terminals of a world, as the world moves on.
use Rattle.std.proofs.Common.{◌≡◌, ◌≢◌, ◌⊎◌, ◌++◌, ◌∷◌, [], ℕ, List, All, Contains, inl, inr, refl, sym, ap, subst, ◌∙◌}
use Rattle.std.proofs.lemmas.List.Elements.{All-contains, All-head, Contains-append_left, Contains-push}
use Rattle.duk_store.specs.Cell.{CellMeaning}
use Rattle.duk_term.specs.Begin.{IsBegunUnder, pending_of}
use Rattle.duk_term.specs.Load.{Loading}
use Rattle.duk_term.specs.Reply.{IsIdle, IsPending}
use Rattle.duk_term.specs.Terminal.{TerminalOf}
use Rattle.duk_term.specs.declared.answer.Answer.TheVariants.{Done}
use Rattle.duk_term.specs.declared.purchase.Purchase.{Purchase}
use Rattle.duk_term.specs.declared.state.Pending.{Pending}
use Rattle.duk_term.specs.declared.state.State.{State}
use Rattle.duk_tree.specs.Serial.{Serial}
use Rattle.duk_frame.specs.Answer.{IsReply}
use Rattle.duk_frame.specs.declared.code.Code.{Code}
use Rattle.duk_net.specs.AcceptedOnce.{HasReply}
use Rattle.duk_net.specs.Begin.{IsSent}
use Rattle.duk_net.specs.CompletedByHost.{IsPendingAt, IsPendingIn, Sends}
use Rattle.duk_net.specs.Down.{ReportsAnswerOf}
use Rattle.duk_net.specs.First.{IsFirstWorld, IsNewTerminal}
use Rattle.duk_net.specs.Load.{TakesLoad}
use Rattle.duk_net.specs.UsedOnce.{HasNumber, IsSentByOwner, IsUsedNumber}
use Rattle.duk_stations.specs.Owner.{IsOwner}
use Rattle.duk_net.specs.Reached.{CallLeads, Moves, Reached}
use Rattle.duk_net.specs.World.{Frame, Meanings, ChangesTerminal, WorldOf}
use Rattle.duk_stations.specs.Places.{ChangesOnly, IsAt}
use Rattle.duk_net.specs.declared.outcome.Outcome.{Outcome}
use Rattle.duk_net.specs.declared.outcome.Outcome.TheVariants as came
use Rattle.duk_stations.specs.declared.owner.Owner.{Owner}
use Rattle.duk_stations.proofs.Memory.{Subsides, completed_is_idle, goes_subsides, load_subsides, loaded_is_idle, stopped_is_idle}
use Rattle.duk_stations.proofs.OwnKey.{BegunIsRequest}
use Rattle.duk_stations.proofs.Owners.{owner_stays}
use Rattle.duk_stations.proofs.Terminals.{load_goes}
use Rattle.duk_stations.proofs.PlacesInLists.{after_at, at_contains, before_at}
use Rattle.duk_net.proofs.worlds.ReachedByMoves.{reached_all}
use Rattle.duk_net.proofs.used_once.UsedOnce.{step_leaves}
use Rattle.duk_net.proofs.worlds.StepChanges.{IsQuiet, View, step_view}
use Rattle.duk_net.proofs.worlds.StepChanges as step

-- a terminal waits for one reply at most
one_pending : (state : State) (pending other : Pending) → IsPending state pending → IsPending state other → pending ≡ other
one_pending state pending other is as_well =
    let one = is.1 in
    let two = as_well.1 in
    cc

-- a load makes nothing pending
load_pends_nothing : {C : Type 0} (cell : CellMeaning C) (t : ℕ) (asked : Loading) (outcome : Outcome) (before after : TerminalOf C) → TakesLoad cell t asked outcome before after → Subsides before.state after.state
load_pends_nothing cell t asked (came.Loaded u iksn) before after takes = inr (loaded_is_idle after.state takes.2.set takes.2.state_is)
load_pends_nothing cell t asked (came.TermFaulted u why) before after takes = load_subsides cell before after (Unit {0}) asked (load_goes cell before after (Unit {0}) asked why (λ store is. tt) takes.1)
load_pends_nothing cell t asked _ before after takes = absurd takes

-- a terminal that is done waits for nothing
done_is_idle : {C : Type 0} (frame : Frame) (ksn : Serial) (code : Code) (before after : TerminalOf C) → ReportsAnswerOf frame ksn (Done code) before after → IsIdle after.state
done_is_idle frame ksn code before after reported = subst IsIdle (sym (ap (λ terminal. terminal.state) reported.after_is)) (completed_is_idle before.state)

-- a terminal waits for the reply to the transaction of a key serial number
record Waits {C : Type 0} (terminal : TerminalOf C) (ksn : Serial) : Type 0 where
  pending : Pending
  is_pending : IsPending terminal.state pending
  ksn_is : ksn ≡ pending.ksn

-- a terminal that hands out a request waits for the reply to that
begun_waits : {C : Type 0} (meaning : CellMeaning C) (purchase : Purchase) (frame : Frame) (sent ksn : Serial) (before after : TerminalOf C)
    → IsBegunUnder meaning purchase sent frame.items before after → Waits after ksn → sent ≡ ksn
begun_waits meaning purchase frame sent ksn before after hands waits =
    let begun = hands.begun in
    let same = one_pending after.state (pending_of begun.set begun.key) waits.pending (begun.left, begun.state_is) waits.is_pending in
    hands.ksn_is ∙ ap (λ pending. pending.ksn) same ∙ sym waits.ksn_is

-- what is pending where a terminal went on is pending there, or was so at another
acts_cases : {C : Type 0} (t : ℕ) (change : TerminalOf C → TerminalOf C → Type 0) (old new : List (TerminalOf C)) (acts : ChangesOnly t change old new) (u : ℕ) (ksn : Serial) → IsPendingAt new u ksn
    → ((u ≢ t) × IsPendingAt old u ksn) ⊎ ((u ≡ t) × Waits acts.after ksn)
acts_cases t change old new acts u ksn waits = elim (after_at t change old new acts u waits.terminal waits.at) [
  | inl here ↦ inr (
    here.0,
    record {
      pending = waits.pending;
      is_pending = subst (λ terminal. IsPending terminal.state waits.pending) here.1 waits.is_pending;
      ksn_is = waits.ksn_is;
    },
  )
  | inr elsewhere ↦ inl (elsewhere.0, record { terminal = waits.terminal; pending = waits.pending; at = elsewhere.1; is_pending = waits.is_pending; ksn_is = waits.ksn_is })
]

-- what the terminal waits for before it goes on is pending at it
acts_before : {C : Type 0} (t : ℕ) (change : TerminalOf C → TerminalOf C → Type 0) (old new : List (TerminalOf C)) (acts : ChangesOnly t change old new) (ksn : Serial) → Waits acts.before ksn → IsPendingAt old t ksn
acts_before t change old new acts ksn waits = record {
  terminal = acts.before;
  pending = waits.pending;
  at = before_at t change old new acts;
  is_pending = waits.is_pending;
  ksn_is = waits.ksn_is;
}

-- where the terminal that goes on waits for nothing new, what is pending was so before
acts_subside : {C : Type 0} (t : ℕ) (change : TerminalOf C → TerminalOf C → Type 0) (old new : List (TerminalOf C)) (acts : ChangesOnly t change old new) → Subsides acts.before.state acts.after.state
    → (u : ℕ) (ksn : Serial) → IsPendingAt new u ksn → IsPendingAt old u ksn
acts_subside t change old new acts subsides u ksn waits = elim (acts_cases t change old new acts u ksn waits) [
  | inl elsewhere ↦ elsewhere.1
  | inr here ↦ elim subsides [
    | inl same ↦ subst (λ n. IsPendingAt old n ksn) (sym here.0) (acts_before t change old new acts ksn (record {
      pending = here.1.pending;
      is_pending = subst (λ state. IsPending state here.1.pending) same here.1.is_pending;
      ksn_is = here.1.ksn_is;
    }))
    | inr idle ↦ absurd (idle here.1.pending here.1.is_pending)
  ]
]

-- what is pending after a step was so before, or is sent in it
pub pending_comes : {C L I : Type 0} (m : Meanings C L I) (old : WorldOf C L I) (outcome : Outcome) (new : WorldOf C L I) (u : ℕ) (ksn : Serial)
    → View m old outcome new → IsPendingAt new.terminals u ksn → IsPendingAt old.terminals u ksn ⊎ Sends u ksn outcome
pending_comes m old outcome new u ksn (step.nothing same quiet) waits = inl (subst (λ world. IsPendingAt world.terminals u ksn) same waits)
pending_comes m old outcome new u ksn (step.load t iksn given quiet) waits =
    let acts = given.terminal in inl (acts_subside t _ old.terminals new.terminals acts (load_pends_nothing m.cell t given.asked outcome acts.before acts.after acts.changed) u ksn waits)
pending_comes m old outcome new u ksn (step.send t k purchase sent is begins) waits = elim (acts_cases t _ old.terminals new.terminals begins.terminal u ksn waits) [
  | inl elsewhere ↦ inl elsewhere.1
  | inr here ↦
      let begun = begun_waits m.cell purchase begins.frame sent ksn begins.terminal.before begins.terminal.after begins.terminal.changed here.1 in
      inr (subst (λ outcome. Sends u ksn outcome) (sym is) (sym here.0, begun))
]
pending_comes m old outcome new u ksn (step.terminal t change quiet) waits =
    let acts = change.terminal in inl (acts_subside t _ old.terminals new.terminals acts (goes_subsides m.cell acts.before acts.after acts.changed) u ksn waits)
pending_comes m old outcome new u ksn (step.accept k n sent code is up) waits = inl (subst (λ terminals. IsPendingAt terminals u ksn) (ap (λ world. world.terminals) up.answered.rest) waits)
pending_comes m old outcome new u ksn (step.repeat k n sent code is up) waits = inl (subst (λ terminals. IsPendingAt terminals u ksn) (ap (λ world. world.terminals) up.answered.rest) waits)
pending_comes m old outcome new u ksn (step.refuse k n sent reason is up) waits = inl (subst (λ terminals. IsPendingAt terminals u ksn) (ap (λ world. world.terminals) up.answered.rest) waits)
pending_comes m old outcome new u ksn (step.done k t frame sent code is at change) waits =
    let acts = change.terminal in inl (acts_subside t _ old.terminals new.terminals acts (inr (done_is_idle frame sent code acts.before acts.after acts.changed)) u ksn waits)
pending_comes m old outcome new u ksn (step.host touched rest quiet) waits = inl (subst (λ terminals. IsPendingAt terminals u ksn) (ap (λ world. world.terminals) rest) waits)

-- the requests that were sent stay in a step
requests_stay : {C L I : Type 0} (m : Meanings C L I) (old : WorldOf C L I) (outcome : Outcome) (new : WorldOf C L I) (frame : Frame)
    → View m old outcome new → Contains old.requests frame → Contains new.requests frame
requests_stay m old outcome new frame view sent = elim (step_leaves m old new outcome view).requests [
  | inl same ↦ subst (λ list. Contains list frame) (sym same) sent
  | inr more ↦ subst (λ list. Contains list frame) (sym more.1) (Contains-append_left old.requests (more.0 ∷ []) frame sent)
]

-- a used number stays used in a step
pub used_stays : {C L I : Type 0} (m : Meanings C L I) (old : WorldOf C L I) (outcome : Outcome) (new : WorldOf C L I) (ksn : Serial)
    → View m old outcome new → IsUsedNumber old.requests ksn → IsUsedNumber new.requests ksn
used_stays m old outcome new ksn view used = record { frame = used.frame; sent = requests_stay m old outcome new used.frame view used.sent; number = used.number }

-- what a step's outcome says where a request is sent, or a terminal is done
abbrev pub Reports : {C L I : Type 0} → Meanings C L I → WorldOf C L I → Outcome → WorldOf C L I → Type 0
Reports m old (came.Sent t k ksn) new = (purchase : Purchase) × IsSent m old t purchase k ksn new
Reports m old (came.Done t ksn code) new = (k : ℕ) × (frame : Frame) × IsAt old.answers k frame × ChangesTerminal t (ReportsAnswerOf frame ksn (Done code)) old new
Reports m old _ new = Unit {0}

-- a quiet outcome is none of these
quiet_reports : {C L I : Type 0} (m : Meanings C L I) (old : WorldOf C L I) (outcome : Outcome) (new : WorldOf C L I) → IsQuiet outcome → Reports m old outcome new
quiet_reports m old (came.Sent t k ksn) new quiet = absurd quiet
quiet_reports m old (came.Done t ksn code) new quiet = absurd quiet
quiet_reports m old _ new quiet = tt

-- each step's outcome says that
pub step_reports : {C L I : Type 0} (m : Meanings C L I) (old : WorldOf C L I) (outcome : Outcome) (new : WorldOf C L I) → View m old outcome new → Reports m old outcome new
step_reports m old outcome new (step.nothing same quiet) = quiet_reports m old outcome new quiet
step_reports m old outcome new (step.load t iksn given quiet) = quiet_reports m old outcome new quiet
step_reports m old outcome new (step.send t k purchase ksn is begins) = subst (λ outcome. Reports m old outcome new) (sym is) (purchase, begins)
step_reports m old outcome new (step.terminal t change quiet) = quiet_reports m old outcome new quiet
step_reports m old outcome new (step.accept k n ksn code is up) = subst (λ outcome. Reports m old outcome new) (sym is) tt
step_reports m old outcome new (step.repeat k n ksn code is up) = subst (λ outcome. Reports m old outcome new) (sym is) tt
step_reports m old outcome new (step.refuse k n ksn reason is up) = subst (λ outcome. Reports m old outcome new) (sym is) tt
step_reports m old outcome new (step.done k t frame ksn code is at change) = subst (λ outcome. Reports m old outcome new) (sym is) (k, frame, at, change)
step_reports m old outcome new (step.host touched rest quiet) = quiet_reports m old outcome new quiet

-- one request more is sent, with this number
pub record SendsNumber {C L I : Type 0} (old new : WorldOf C L I) (ksn : Serial) : Type 0 where
  pub frame : Frame
  pub requests : new.requests ≡ old.requests ++ frame ∷ []
  pub number : HasNumber frame ksn

-- where a request is sent, it is one more
pub sends_number : {C L I : Type 0} (m : Meanings C L I) → BegunIsRequest m.cell → (old : WorldOf C L I) (outcome : Outcome) (new : WorldOf C L I) (t : ℕ) (ksn : Serial)
    → Reports m old outcome new → Sends t ksn outcome → SendsNumber old new ksn
sends_number m request old (came.Sent u k sent) new t ksn reports sends =
    let hands = reports.1.terminal.changed in record {
      frame = reports.1.frame;
      requests = ap (λ world. world.requests) reports.1.rest;
      number = record { request = _; is_request = request reports.0 _ _ reports.1.frame.items hands.begun; ksn_is = sym sends.1 ∙ hands.ksn_is };
    }
sends_number m request old _ new t ksn reports sends = absurd sends

-- a terminal that sends owns the initial key serial number
sends_by_owner : (owners : List Owner) (outcome : Outcome) (t : ℕ) (ksn : Serial) → IsSentByOwner owners outcome → Sends t ksn outcome → IsOwner owners ksn.iksn t
sends_by_owner owners (came.Sent u k sent) t ksn owns sends =
    subst (λ n. IsOwner owners ksn.iksn n) sends.0 (subst (λ serial. IsOwner owners serial.iksn u) sends.1 owns)
sends_by_owner owners _ t ksn owns sends = absurd sends

-- each number that is pending was sent, by the terminal that owns its initial key serial number
abbrev pub OwnPending : {C L I : Type 0} → WorldOf C L I → Type 0
OwnPending world = (t : ℕ) (ksn : Serial) → IsPendingAt world.terminals t ksn → IsUsedNumber world.requests ksn × IsOwner world.owners ksn.iksn t

-- a terminal sends none but under an initial key serial number that it owns
abbrev pub SentByOwners : {C L I : Type 0} → Meanings C L I → Type 0
SentByOwners {C} {L} {I} m = (old new : WorldOf C L I) (outcomes : List Outcome) → Reached m old → CallLeads m old outcomes new → All (IsSentByOwner new.owners) outcomes

-- in a world in which nothing happened nothing is pending
first_safe : {C L I : Type 0} (m : Meanings C L I) (world : WorldOf C L I) → IsFirstWorld m world → OwnPending world
first_safe m world first t ksn waits =
    let stands = at_contains world.terminals t waits.terminal waits.at in
    let stopped = (All-contains (IsNewTerminal m) world.terminals waits.terminal first.terminals stands).stopped in
    absurd (stopped_is_idle waits.terminal.state stopped waits.pending waits.is_pending)

-- a step leaves no other number pending than such ones
step_safe : {C L I : Type 0} (m : Meanings C L I) → BegunIsRequest m.cell → (old : WorldOf C L I) (outcome : Outcome) (new : WorldOf C L I)
    → OwnPending old → View m old outcome new → IsSentByOwner new.owners outcome → OwnPending new
step_safe m request old outcome new safe view owned t ksn waits = elim (pending_comes m old outcome new t ksn view waits) [
  | inl before ↦
      let was = safe t ksn before in
      (used_stays m old outcome new ksn view was.0, owner_stays old.owners new.owners (step_leaves m old new outcome view).owners ksn.iksn t was.1)
  | inr sends ↦
      let sent = sends_number m request old outcome new t ksn (step_reports m old outcome new view) sends in
      let stands : Contains new.requests sent.frame = subst (λ requests. Contains requests sent.frame) (sym sent.requests) (Contains-push old.requests sent.frame) in
      (record { frame = sent.frame; sent = stands; number = sent.number }, sends_by_owner new.owners outcome t ksn owned sends)
]

-- so it is as a world moves on
moves_safe : {C L I : Type 0} (m : Meanings C L I) → BegunIsRequest m.cell → SentByOwners m → (old new : WorldOf C L I) → Reached m old → OwnPending old → Moves m old new → OwnPending new
moves_safe m request owners old new reached safe moves = elim moves [
  | inl happens ↦
      let led : CallLeads m old (happens.outcome ∷ []) new = record { events = happens.event ∷ []; mid = new; run = (new, happens.step, refl); left = inl refl } in
      let owned = owners old new (happens.outcome ∷ []) reached led in
      step_safe m request old happens.outcome new safe (step_view m old happens.event happens.outcome new happens.step) (All-head (IsSentByOwner new.owners) happens.outcome [] owned)
  | inr left ↦ subst (λ world. OwnPending world) (sym left.rest) safe
]

-- so it is in each world that is reached
pub pending_safe : {C L I : Type 0} (m : Meanings C L I) → BegunIsRequest m.cell → SentByOwners m → (world : WorldOf C L I) → Reached m world → OwnPending world
pending_safe m request owners world reached = reached_all m OwnPending (first_safe m) (moves_safe m request owners) world reached

-- a transaction that is done was pending, and the accepted reply to it was sent
pub done_by_host : {C L I : Type 0} (m : Meanings C L I) (old : WorldOf C L I) (t : ℕ) (ksn : Serial) (code : Code) (new : WorldOf C L I)
    → Reports m old (came.Done t ksn code) new → IsPendingAt old.terminals t ksn × HasReply old.answers ksn code
done_by_host m old t ksn code new (k, frame, at, change) =
    let acts = change.terminal in
    let of = acts.changed in
    let reported = of.reported in
    let same : reported.0.ksn ≡ ksn = ap (λ pending. pending.ksn) (one_pending acts.before.state reported.0 of.pending reported.1 of.was_pending) ∙ sym of.ksn_is in (
      acts_before t _ old.terminals new.terminals acts ksn (record { pending = of.pending; is_pending = of.was_pending; ksn_is = of.ksn_is }),
      record {
        frame = frame;
        mac = reported.2.mac;
        sent = at_contains old.answers k frame at;
        reply = subst (λ serial. IsReply frame.items serial code reported.2.mac) same reported.2.reply;
      },
    )

-- of a transaction that is done, nothing stays pending
pub done_is_over : {C L I : Type 0} (m : Meanings C L I) (old : WorldOf C L I) (t : ℕ) (ksn : Serial) (code : Code) (new : WorldOf C L I)
    → OwnPending old → Reports m old (came.Done t ksn code) new → ¬ IsPendingIn new.terminals ksn
done_is_over m old t ksn code new safe reports (u, waits) =
    let acts = reports.3.terminal in
    elim (acts_cases t _ old.terminals new.terminals acts u ksn waits) [
      | inl elsewhere ↦
          let one = (safe t ksn (done_by_host m old t ksn code new reports).0).1 in
          let other = (safe u ksn elsewhere.1).1 in
          elsewhere.0 (one.alone u other.owns)
      | inr here ↦ done_is_idle reports.1 ksn code acts.before acts.after acts.changed here.1.pending here.1.is_pending
    ]
