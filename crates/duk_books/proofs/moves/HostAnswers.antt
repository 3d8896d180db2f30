-- What the host answers one frame with: one answer, a refusal or a reply.
use Rattle.std.proofs.Common.{◌≡◌, ◌≢◌, ◌⊎◌, ◌<◌, ◌+◌, ◌↔◌, Bool, true, false, IsTrue, Contains, ℕ, List, [], ◌∷◌, None, Some, Option, Result, Ok, Err, IfOk, OnErr, length, map, refl, sym, ap, subst, ◌∙◌, arith}
use Rattle.std.specs.List.{slice_index_or}
use Rattle.duk_frame.specs.Answer.{IsAnswer}
use Rattle.duk_frame.specs.declared.answer.AnswerFrame.{AnswerFrame}
use Rattle.duk_frame.specs.declared.answer.AnswerFrame.TheVariants.{Refusal, Reply}
use Rattle.duk_journal.specs.Groups.{Entries}
use Rattle.duk_journal_host.specs.Group.{AnswersFrames}
use Rattle.duk_journal_host.specs.Host.{HostMeaning, HostOf, IndexOf, JudgesBy, basis_of}
use Rattle.duk_journal_host.specs.Judged.{AreJudged}
use Rattle.duk_journal_host.specs.Judgement.{IsJudged, LineBasis}
use Rattle.duk_reversal.specs.Reply.{IsReversalReply}
use Rattle.duk_reversal.specs.declared.reply.ReversalReply.{ReversalReply}
use Rattle.duk_store.specs.StoreState.{StaysButCalm}
use Rattle.duk_books.specs.Books.{BooksOf, Frame, Meanings}
use Rattle.duk_books.specs.Up.{IsAnswered, ReachesHost, SaysAnswer}
use Rattle.duk_books.specs.inner.Up.{said_by}
use Rattle.duk_books.specs.declared.outcome.Outcome.{Outcome}
use Rattle.duk_books.specs.declared.outcome.Outcome.TheVariants as came

abbrev pub IsAnswerBytes : List ℕ → Type 0
IsAnswerBytes bytes = ((answer : AnswerFrame) × IsAnswer bytes answer) ⊎ ((reply : ReversalReply) × IsReversalReply bytes reply)

-- what a frame is judged with is one of these
abbrev pub KindLaw : Type 0
KindLaw = (basis : LineBasis) (frame answer : List ℕ) (added : Entries) → IsJudged basis frame answer added → IsAnswerBytes answer

-- one frame has one answer
pub record IsOneAnswer (answers : List (List ℕ)) : Type 0 where
  pub answer : List ℕ
  pub alone : answers ≡ answer ∷ []
  pub kind : IsAnswerBytes answer

judged_alone : KindLaw → (basis : LineBasis) (frame : List ℕ) (answers : List (List ℕ)) (added : Entries) → AreJudged basis (frame ∷ []) answers added → IsOneAnswer answers
judged_alone law basis frame [] added judged = absurd judged
judged_alone law basis frame (answer ∷ []) added judged = record { answer = answer; alone = refl; kind = law basis frame answer judged.0 judged.2 }
judged_alone law basis frame (answer ∷ other ∷ others) added judged = absurd judged.3

not_empty : (frame : List ℕ) → (frame ∷ []) ≡ [] → ⊥
not_empty frame same = absurd (cc)

-- so it is of a host that runs, and a stopped host answers no frame
module _ {J I : Type 0} (law : KindLaw) (meaning : HostMeaning J I) (old new : HostOf J I) (frame : List ℕ) (answers : List (List ℕ)) (answered : AnswersFrames meaning (frame ∷ []) old new answers) where
  in_state : (state : Option IndexOf) → old.state ≡ state → ((index : IndexOf) → old.state ≡ Some index → (entries : Entries) × JudgesBy meaning old entries) → IsOneAnswer answers
  in_state None is judges = absurd (not_empty frame (answered.stopped is).no_frames)
  in_state (Some index) is judges =
      let by = judges index is in
      let judged = answered.answered by.0 by.1 in
      judged_alone law (basis_of meaning old by.0) frame answers judged.0 judged.1

  pub answer_alone : ((index : IndexOf) → old.state ≡ Some index → (entries : Entries) × JudgesBy meaning old entries) → IsOneAnswer answers
  answer_alone judges = in_state old.state refl judges

-- the first answer is the first frame
pub first_within : (frames : List Frame) → map (λ frame. frame.items) frames ≢ [] → 0 < length frames
first_within [] some = absurd (some refl)
first_within (first ∷ frames) some = omega arith

no_frames : (answer : List ℕ) (others : List (List ℕ)) → [] ≡ answer ∷ others → ⊥
no_frames answer others same = absurd (cc)

front_is : (one other : List ℕ) (rest others : List (List ℕ)) → one ∷ rest ≡ other ∷ others → one ≡ other
front_is one other rest others same = cc

pub first_frame : (frames : List Frame) (first : Frame) (answer : List ℕ) (others : List (List ℕ)) → map (λ frame. frame.items) frames ≡ answer ∷ others → first ≡ slice_index_or frames 0 first → first.items ≡ answer
first_frame [] first answer others same is = absurd (no_frames answer others same)
first_frame (front ∷ frames) first answer others same is = ap (λ (it : Frame). it.items) is ∙ front_is front.items answer (map (λ frame. frame.items) frames) others same

pub not_none : (answers : List (List ℕ)) → IsOneAnswer answers → answers ≢ []
not_none answers one none = no_frames one.answer [] (sym none ∙ one.alone)

-- a host that is armed judges by what it judged by
pub still_judges : {J I : Type 0} (meaning : HostMeaning J I) (old new : HostOf J I) → StaysButCalm (meaning.journal.state_of old.journal) (meaning.journal.state_of new.journal) → new.state ≡ old.state
    → ((index : IndexOf) → new.state ≡ Some index → (entries : Entries) × JudgesBy meaning new entries) → (meaning.journal.state_of old.journal).honest → (entries : Entries)
    → JudgesBy meaning old entries → JudgesBy meaning new entries
still_judges meaning old new stays state judges honest entries by =
    let now = judges by.index (state ∙ by.runs) in
    let found = (now.1.kept.finds (stays.honest.0 honest) now.0).1 refl in
    let same : now.0 ≡ entries = (by.kept.finds honest now.0).0 ((stays.found honest now.0).0 found) in
    subst (λ (it : Entries). JudgesBy meaning new it) same now.1

not_both : false ≡ true → ⊥
not_both same = cc

-- an answer is told by its outcome
pub answered_reaches : {C B J I : Type 0} (m : Meanings C B J I) (old : BooksOf C B J I) (k : ℕ) (outcome : Outcome) (new : BooksOf C B J I) → IsAnswered m old k outcome new → ReachesHost m old k outcome new
answered_reaches m old k came.NoSuchFrame new is = absurd is.says
answered_reaches m old k (came.HostFaulted why) new is = absurd is.says
answered_reaches m old k _ new is = is

-- what follows of what is so where a result is Ok
pub if_ok : {A E : Type 0} (P Q : A → Type 0) → ((x : A) → P x → Q x) → (result : Result A E) → IfOk result P → IfOk result Q
if_ok P Q follows (Ok x) holds = follows x holds
if_ok P Q follows (Err e) holds = holds

-- what follows of what is so where a result is Err
pub on_err : {A E : Type 0} (P Q : Type 0) → (P → Q) → (result : Result A E) → OnErr result P → OnErr result Q
on_err P Q follows (Ok x) holds = holds
on_err P Q follows (Err e) holds = follows holds

-- what an answer to a request says
pub says_answer : (answers : List Frame) (answer : Frame) (again : Bool) (given : AnswerFrame) → (IsTrue again ↔ Contains answers answer) → IsAnswer answer.items given → SaysAnswer answers answer (said_by (length answers + 1) again given)
says_answer answers answer true (Reply ksn code mac) was is = (refl, was.0 refl, (mac, is))
says_answer answers answer false (Reply ksn code mac) was is = (refl, (λ sent. not_both (was.1 sent)), (mac, is))
says_answer answers answer true (Refusal ksn reason) was is = (refl, is)
says_answer answers answer false (Refusal ksn reason) was is = (refl, is)
