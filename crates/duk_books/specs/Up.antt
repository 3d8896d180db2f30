-- A request or a reversal reaches the host: this project's own.
use Rattle.std.specs.Prelude.{◌≡◌, ◌≢◌, ◌⊎◌, ◌+◌, ◌++◌, ◌∷◌, [], ℕ, List, Contains, length}
use Rattle.duk_frame.specs.Answer.{IsRefusal, IsReply}
use Rattle.duk_host.specs.declared.fault.HostFault.{HostFault}
use Rattle.duk_host.specs.declared.fault.HostFault.TheVariants.{NoMemory}
use Rattle.duk_journal_host.specs.Group.{AnswersFirst, AnswersFrames, GroupRefused}
use Rattle.duk_reversal.specs.Reply.{IsReversalReply}
use Rattle.duk_reversal.specs.declared.reply.ReversalReply.{ReversalReply}
use Rattle.duk_books.specs.Books.{BooksOf, Frame, Meanings}
use Rattle.duk_stations.specs.Places.{HasNone, IsAt}
use Rattle.duk_books.specs.declared.outcome.Outcome.{Outcome}
use Rattle.duk_books.specs.declared.outcome.Outcome.TheVariants as outcome

-- what an answer says, that is sent after these: it is the reply to a request, and was not sent
-- before, or was; a refusal; or the reply to a reversal
abbrev pub SaysAnswer : List Frame → Frame → Outcome → Type 0
SaysAnswer answers answer (outcome.Accepted n ksn code) =
    (n ≡ length answers + 1) × (¬ Contains answers answer)
    × ((mac : List ℕ) × IsReply answer.items ksn code mac)
SaysAnswer answers answer (outcome.Repeated n ksn code) =
    (n ≡ length answers + 1) × Contains answers answer
    × ((mac : List ℕ) × IsReply answer.items ksn code mac)
SaysAnswer answers answer (outcome.Refused n ksn reason) =
    (n ≡ length answers + 1) × IsRefusal answer.items ksn reason
SaysAnswer answers answer (outcome.Reversed n ksn reversed state) =
    (n ≡ length answers + 1)
    × ((reply : ReversalReply) × IsReversalReply answer.items reply
    × (reply.numbers ≡ record { ksn = ksn; reversed = reversed }) × (reply.state ≡ state))
SaysAnswer answers answer _ = ⊥

-- a frame of the network is answered by the host, alone, and the answer is sent
pub record IsAnswered
    {C B J I : Type 0} (m : Meanings C B J I) (old : BooksOf C B J I) (k : ℕ) (outcome : Outcome)
    (new : BooksOf C B J I) : Type 0 where
  pub frame : Frame
  pub answer : Frame
  pub sent : IsAt old.requests k frame
  pub answered : AnswersFrames m.host (frame.items ∷ []) old.host new.host (answer.items ∷ [])
  pub says : SaysAnswer old.answers answer outcome
  pub rest : new ≡ record old { host = new.host; answers = old.answers ++ answer ∷ [] }

-- the host does not answer, for another fault than out of memory
pub record UpFaulted
    {C B J I : Type 0} (m : Meanings C B J I) (old : BooksOf C B J I) (k : ℕ) (why : HostFault)
    (new : BooksOf C B J I) : Type 0 where
  pub frame : Frame
  pub answers : List (List ℕ)
  pub sent : IsAt old.requests k frame
  pub not_memory : why ≢ NoMemory
  pub faulted : GroupRefused m.host (frame.items ∷ []) old.host new.host answers why
  pub rest : new ≡ record old { host = new.host }

-- what comes of a request or a reversal that reaches the host
abbrev pub ReachesHost : {C B J I : Type 0} → Meanings C B J I → BooksOf C B J I → ℕ → Outcome
    → BooksOf C B J I → Type 0
ReachesHost m old k outcome.NoSuchFrame new = HasNone old.requests k × (new ≡ old)
ReachesHost m old k (outcome.HostFaulted why) new = UpFaulted m old k why new
ReachesHost m old k came new = IsAnswered m old k came new

-- the host was refused memory for a frame that it would accept, and is stopped; no answer is sent
pub record IsHostOutOfMemory
    {C B J I : Type 0} (m : Meanings C B J I) (old : BooksOf C B J I) (k : ℕ)
    (new : BooksOf C B J I) : Type 0 where
  pub frame : Frame
  pub answers : List (List ℕ)
  pub sent : IsAt old.requests k frame
  pub first : AnswersFirst m.host (frame.items ∷ []) old.host new.host answers
  pub rest : new ≡ record old { host = new.host }

-- memory was refused: all is as it was, or the host is stopped
abbrev pub IsUpLeft : {C B J I : Type 0} → Meanings C B J I → BooksOf C B J I → ℕ
    → BooksOf C B J I → Type 0
IsUpLeft m old k new = (new ≡ old) ⊎ IsHostOutOfMemory m old k new
