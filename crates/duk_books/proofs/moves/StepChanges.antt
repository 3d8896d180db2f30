-- What a move changes.
use Rattle.std.proofs.Common.{◌≡◌, ◌++◌, ◌∷◌, ℕ, List, [], Contains, Ok, Err, inl, inr, refl, arith}
use Rattle.duk_host.specs.declared.fault.HostFault.{HostFault}
use Rattle.duk_host.specs.declared.fault.HostFault.TheVariants as host_fault
use Rattle.duk_journal_host.specs.Group.{AnswersFrames, GroupRefused}
use Rattle.duk_journal_host.specs.Host.{HostOf}
use Rattle.duk_journal_host.specs.Restart.{HostRestartRefused, IsHostRestarted}
use Rattle.duk_reversal.specs.Reversal.{IsReversal}
use Rattle.duk_reversal.specs.declared.reversal.Reversal as reversal_frame
use Rattle.duk_store.specs.Cell.{CellMeaning}
use Rattle.duk_term.specs.declared.answer.Answer.TheVariants as answer
use Rattle.duk_term.specs.declared.answer.Begun.{Begun}
use Rattle.duk_term.specs.declared.answer.ReversalAnswer.TheVariants as reversal
use Rattle.duk_term.specs.declared.purchase.Purchase.{Purchase}
use Rattle.duk_till.specs.Lifetime.{ArmBook, ArmTerminal, Begin, Call, IsCalled, Reply, Restart, Reverse, ReversalReply as ReversalReplyCall}
use Rattle.duk_till.specs.Till.{TillOf, approved_in}
use Rattle.duk_stations.proofs.PlacesInLists.{at_contains, changes_as}
use Rattle.duk_books.specs.Arm.{ArmsHost, ArmsJournal, ArmsTill, ArmsTillBook, ArmsTerminalCell}
use Rattle.duk_books.specs.Begin.{Begins}
use Rattle.duk_books.specs.Books.{BooksOf, Frame, Meanings}
use Rattle.duk_stations.specs.Places.{ChangesOnly}
use Rattle.duk_books.specs.Down.{TakesAnswer, TakesReply, TakesReversalReply}
use Rattle.duk_books.specs.Load.{IsGiven}
use Rattle.duk_books.specs.Reached.{Moves}
use Rattle.duk_books.specs.Restart.{RestartsHost, TakesRestart}
use Rattle.duk_books.specs.Reverse.{Reverses}
use Rattle.duk_books.specs.Sales.{TakesSale}
use Rattle.duk_books.specs.Step.{Step}
use Rattle.duk_books.specs.Up.{ReachesHost}
use Rattle.duk_books.specs.declared.event.End.{End}
use Rattle.duk_books.specs.declared.event.End.TheVariants as end
use Rattle.duk_books.specs.declared.event.Event.{Event}
use Rattle.duk_books.specs.declared.event.Event.TheVariants as event
use Rattle.duk_books.specs.declared.outcome.Outcome.{Outcome}
use Rattle.duk_books.specs.declared.outcome.Outcome.TheVariants as came

-- a call that sends nothing, tells nothing and loads nothing
abbrev pub IsQuiet : Call → Type 0
IsQuiet (Begin purchase (Err why)) = Unit {0}
IsQuiet (Reverse (Err why)) = Unit {0}
IsQuiet (ArmTerminal steps) = Unit {0}
IsQuiet (ArmBook steps) = Unit {0}
IsQuiet _ = ⊥

-- a call that may tell something: an answer that was sent comes back, or a restart
abbrev pub IsTelling : List Frame → Call → Type 0
IsTelling answers (Reply bytes result) = (frame : Frame) × Contains answers frame × (bytes ≡ frame.items)
IsTelling answers (ReversalReplyCall bytes result) = (frame : Frame) × Contains answers frame × (bytes ≡ frame.items)
IsTelling answers (Restart result) = Unit {0}
IsTelling answers _ = ⊥

-- what else may happen to the host: a restart, or arming
pub data TouchesHost {C B J I : Type 0} (m : Meanings C B J I) (before after : HostOf J I) : Type 0 where
  host_restarted : (found : ℕ) → IsHostRestarted m.host before after found → TouchesHost m before after
  host_restart_refused : (why : HostFault) → HostRestartRefused m.host.journal before after why → TouchesHost m before after
  host_armed : (steps : ℕ) → ArmsJournal m steps before after → TouchesHost m before after

-- a till is called in one of these ways
abbrev pub CallsOnly : {C B J I : Type 0} → Meanings C B J I → ℕ → Call → List (TillOf C B) → List (TillOf C B) → Type 0
CallsOnly m t call old new = ChangesOnly t (IsCalled m.cell m.book call) old new

-- what a move is, by what it changes
pub data Change {C B J I : Type 0} (m : Meanings C B J I) (old new : BooksOf C B J I) : Type 0 where
  nothing : new ≡ old → Change m old new
  quiet : (t : ℕ) (call : Call) → IsQuiet call → CallsOnly m t call old.tills new.tills → new ≡ record old { tills = new.tills } → Change m old new
  load : (t iksn : ℕ) (outcome : Outcome) → IsGiven m old t iksn outcome new → Change m old new
  send : (t : ℕ) (purchase : Purchase) (begun : Begun) → CallsOnly m t (Begin purchase (Ok begun)) old.tills new.tills
      → new ≡ record old { tills = new.tills; requests = old.requests ++ begun.frame ∷ [] } → Change m old new
  reverse : (t : ℕ) (begun : Begun) (sent : reversal_frame.Reversal) → IsReversal begun.frame.items sent → CallsOnly m t (Reverse (Ok begun)) old.tills new.tills
      → new ≡ record old { tills = new.tills; requests = old.requests ++ begun.frame ∷ [] } → Change m old new
  tell : (t : ℕ) (call : Call) → IsTelling old.answers call → (change : CallsOnly m t call old.tills new.tills)
      → TakesSale old.sales t (approved_in change.after.state) new.sales → new ≡ record old { tills = new.tills; sales = new.sales } → Change m old new
  answered : (frame answer : Frame) → Contains old.requests frame → AnswersFrames m.host (frame.items ∷ []) old.host new.host (answer.items ∷ [])
      → new ≡ record old { host = new.host; answers = old.answers ++ answer ∷ [] } → Change m old new
  unanswered : (frame : Frame) (answers : List (List ℕ)) (why : HostFault) → Contains old.requests frame → GroupRefused m.host (frame.items ∷ []) old.host new.host answers why
      → new ≡ record old { host = new.host } → Change m old new
  host : TouchesHost m old.host new.host → new ≡ record old { host = new.host } → Change m old new

begin_change : {C B J I : Type 0} (m : Meanings C B J I) (old : BooksOf C B J I) (t : ℕ) (purchase : Purchase) (outcome : Outcome) (new : BooksOf C B J I) → Begins m old t purchase outcome new → Change m old new
begin_change m old t purchase (came.Sent u k ksn) new is = send t purchase is.1.begun is.1.till is.1.rest
begin_change m old t purchase (came.TillFaulted u why) new is = quiet t (Begin purchase (Err why)) tt is.1.till is.1.rest
begin_change m old t purchase came.NoSuchTill new is = nothing is.1
begin_change m old t purchase _ new is = absurd is

reverse_change : {C B J I : Type 0} (m : Meanings C B J I) (old : BooksOf C B J I) (t : ℕ) (outcome : Outcome) (new : BooksOf C B J I) → Reverses m old t outcome new → Change m old new
reverse_change m old t (came.Reversing u k ksn reversed) new is = reverse t is.1.begun is.1.reversal is.1.is_reversal is.1.till is.1.rest
reverse_change m old t (came.TillFaulted u why) new is = quiet t (Reverse (Err why)) tt is.1.till is.1.rest
reverse_change m old t came.NoSuchTill new is = nothing is.1
reverse_change m old t _ new is = absurd is

up_change : {C B J I : Type 0} (m : Meanings C B J I) (old : BooksOf C B J I) (k : ℕ) (outcome : Outcome) (new : BooksOf C B J I) → ReachesHost m old k outcome new → Change m old new
up_change m old k came.NoSuchFrame new is = nothing is.1
up_change m old k (came.HostFaulted why) new is = unanswered is.frame is.answers why (at_contains old.requests k is.frame is.sent) is.faulted is.rest
up_change m old k (came.Accepted n ksn code) new is = answered is.frame is.answer (at_contains old.requests k is.frame is.sent) is.answered is.rest
up_change m old k (came.Repeated n ksn code) new is = answered is.frame is.answer (at_contains old.requests k is.frame is.sent) is.answered is.rest
up_change m old k (came.Refused n ksn reason) new is = answered is.frame is.answer (at_contains old.requests k is.frame is.sent) is.answered is.rest
up_change m old k (came.Reversed n ksn reversed state) new is = answered is.frame is.answer (at_contains old.requests k is.frame is.sent) is.answered is.rest
up_change m old k _ new is = absurd is.says

-- which call an answer is, and that it is one
pub record IsToldBy {C B : Type 0} (cell : CellMeaning C) (book : CellMeaning B) (frame : Frame) (before after : TillOf C B) : Type 0 where
  pub call : Call
  pub telling : IsTelling (frame ∷ []) call
  pub called : IsCalled cell book call before after

the_frame : (frame : Frame) → (it : Frame) × Contains (frame ∷ []) it × (frame.items ≡ it.items)
the_frame frame = (frame, at_contains (frame ∷ []) 1 frame (record { place = 0; number_is = refl; thing_is = refl }), refl)

by_reply : {C B : Type 0} (cell : CellMeaning C) (book : CellMeaning B) (t : ℕ) (frame : Frame) (outcome : Outcome) (before after : TillOf C B) → TakesReply cell book t frame outcome before after → IsToldBy cell book frame before after
by_reply cell book t frame (came.Done u ksn code) before after is = record { call = Reply frame.items (Ok (answer.Done code)); telling = the_frame frame; called = is.2 }
by_reply cell book t frame (came.GotRefusal u ksn reason) before after is = record { call = Reply frame.items (Ok (answer.Refused reason)); telling = the_frame frame; called = is.2 }
by_reply cell book t frame (came.TillFaulted u why) before after is = record { call = Reply frame.items (Err why); telling = the_frame frame; called = is.1 }
by_reply cell book t frame _ before after is = absurd is

by_reversal : {C B : Type 0} (cell : CellMeaning C) (book : CellMeaning B) (t : ℕ) (frame : Frame) (outcome : Outcome) (before after : TillOf C B) → TakesReversalReply cell book t frame outcome before after → IsToldBy cell book frame before after
by_reversal cell book t frame (came.Undone u ksn state) before after is = record { call = ReversalReplyCall frame.items (Ok (reversal.Done state)); telling = the_frame frame; called = is.2 }
by_reversal cell book t frame (came.GotRefusal u ksn reason) before after is = record { call = ReversalReplyCall frame.items (Ok (reversal.Refused reason)); telling = the_frame frame; called = is.2 }
by_reversal cell book t frame (came.TillFaulted u why) before after is = record { call = ReversalReplyCall frame.items (Err why); telling = the_frame frame; called = is.1 }
by_reversal cell book t frame _ before after is = absurd is

by_answer : {C B : Type 0} (cell : CellMeaning C) (book : CellMeaning B) (t : ℕ) (frame : Frame) (outcome : Outcome) (before after : TillOf C B) → TakesAnswer cell book t frame outcome before after → IsToldBy cell book frame before after
by_answer cell book t frame outcome before after (inl is) = by_reply cell book t frame outcome before after is.takes
by_answer cell book t frame outcome before after (inr is) = by_reversal cell book t frame outcome before after is.1

-- which call a restart is
pub record IsRestartBy {C B : Type 0} (cell : CellMeaning C) (book : CellMeaning B) (answers : List Frame) (before after : TillOf C B) : Type 0 where
  pub call : Call
  pub telling : IsTelling answers call
  pub called : IsCalled cell book call before after

by_restart : {C B : Type 0} (cell : CellMeaning C) (book : CellMeaning B) (answers : List Frame) (t : ℕ) (outcome : Outcome) (before after : TillOf C B) → TakesRestart cell book t outcome before after → IsRestartBy cell book answers before after
by_restart cell book answers t (came.TillNext u next state) before after is = record { call = Restart (Ok state); telling = tt; called = is.2 }
by_restart cell book answers t (came.TillFaulted u why) before after is = record { call = Restart (Err why); telling = tt; called = is.1 }
by_restart cell book answers t _ before after is = absurd is

only_in : (answers : List Frame) (frame it : Frame) → Contains answers frame → Contains (frame ∷ []) it → Contains answers it
only_in answers frame it sent is_in = grind (arith, sent, is_in)

telling_of : (answers : List Frame) (frame : Frame) (call : Call) → Contains answers frame → IsTelling (frame ∷ []) call → IsTelling answers call
telling_of answers frame (Reply bytes result) sent is = (is.0, only_in answers frame is.0 sent is.1, is.2)
telling_of answers frame (ReversalReplyCall bytes result) sent is = (is.0, only_in answers frame is.0 sent is.1, is.2)
telling_of answers frame (Restart result) sent is = tt
telling_of answers frame _ sent is = absurd is

arm_till_change : {C B J I : Type 0} (m : Meanings C B J I) (it : End) (t : ℕ) (call : Call) (change : TillOf C B → TillOf C B → Type 0) (old : BooksOf C B J I) (steps : ℕ) (outcome : Outcome) (new : BooksOf C B J I)
    → IsQuiet call → ((before after : TillOf C B) → change before after → IsCalled m.cell m.book call before after) → ArmsTill it t change old steps outcome new → Change m old new
arm_till_change m it t call change old steps came.NoSuchTill new is_quiet follows is = nothing is.1
arm_till_change m it t call change old steps (came.Armed armed passed) new is_quiet follows is =
    quiet t call is_quiet (changes_as t change old.tills new.tills is.2.till (IsCalled m.cell m.book call) (follows is.2.till.before is.2.till.after)) is.2.rest
arm_till_change m it t call change old steps _ new is_quiet follows is = absurd is

arm_host_change : {C B J I : Type 0} (m : Meanings C B J I) (old : BooksOf C B J I) (steps : ℕ) (outcome : Outcome) (new : BooksOf C B J I) → ArmsHost m old steps outcome new → Change m old new
arm_host_change m old steps (came.Armed armed passed) new is = host (host_armed steps is.2) is.3
arm_host_change m old steps _ new is = absurd is

restart_host_change : {C B J I : Type 0} (m : Meanings C B J I) (old : BooksOf C B J I) (outcome : Outcome) (new : BooksOf C B J I) → RestartsHost m old outcome new → Change m old new
restart_host_change m old (came.HostKeeps kept) new is = host (host_restarted kept is.host) is.rest
restart_host_change m old (came.HostFaulted why) new is = host (host_restart_refused why is.host) is.rest
restart_host_change m old _ new is = absurd is

-- each step is one of these
step_change : {C B J I : Type 0} (m : Meanings C B J I) (old : BooksOf C B J I) (event : Event) (outcome : Outcome) (new : BooksOf C B J I) → Step m old event outcome new → Change m old new
step_change m old (event.Load t iksn) outcome new step = elim step [
  | inl none ↦ nothing none.same
  | inr there ↦ elim there [
    | inl other ↦ nothing other.same
    | inr free ↦ elim free [
      | inl no_keys ↦ nothing no_keys.same
      | inr given ↦ load t iksn outcome given
    ]
  ]
]
step_change m old (event.Begin t purchase) outcome new step = begin_change m old t purchase outcome new step
step_change m old (event.Reverse t) outcome new step = reverse_change m old t outcome new step
step_change m old (event.Up k) outcome new step = up_change m old k outcome new step
step_change m old (event.Down k t) outcome new step = elim step [
  | inl none ↦ nothing none.same
  | inr there ↦ elim there [
    | inl missing ↦ nothing missing.same
    | inr is ↦
        let told = by_answer m.cell m.book t is.frame outcome is.till.before is.till.after is.till.changed in
        tell t told.call (telling_of old.answers is.frame told.call (at_contains old.answers k is.frame is.sent) told.telling)
        (changes_as t _ old.tills new.tills is.till (IsCalled m.cell m.book told.call) (λ taken. told.called))
        is.sales is.rest
  ]
]
step_change m old (event.RestartTill t) outcome new step = elim step [
  | inl none ↦ nothing none.same
  | inr is ↦
      let told = by_restart m.cell m.book old.answers t outcome is.till.before is.till.after is.till.changed in
      tell t told.call told.telling
      (changes_as t _ old.tills new.tills is.till (IsCalled m.cell m.book told.call) (λ taken. told.called))
      is.sales is.rest
]
step_change m old event.RestartHost outcome new step = restart_host_change m old outcome new step
step_change m old (event.Arm end.Host steps) outcome new step = arm_host_change m old steps outcome new step
step_change m old (event.Arm (end.Terminal t) steps) outcome new step =
    arm_till_change m (end.Terminal t) t (ArmTerminal steps) (ArmsTerminalCell m steps) old steps outcome new tt (λ before after is. is.called) step
step_change m old (event.Arm (end.Book t) steps) outcome new step =
    arm_till_change m (end.Book t) t (ArmBook steps) (ArmsTillBook m steps) old steps outcome new tt (λ before after is. is.called) step

-- and so is each move
pub move_change : {C B J I : Type 0} (m : Meanings C B J I) (old new : BooksOf C B J I) → Moves m old new → Change m old new
move_change m old new (inl happens) = step_change m old happens.event happens.outcome new happens.step
move_change m old new (inr (inl left)) = host (host_restart_refused host_fault.NoMemory left.host) left.rest
move_change m old new (inr (inr (k, out))) = unanswered out.frame out.answers host_fault.NoMemory (at_contains old.requests k out.frame out.sent) out.first out.rest
