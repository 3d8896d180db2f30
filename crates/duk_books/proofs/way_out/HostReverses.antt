-- How the host answers a reversal whose number is new, where there is room for a record.
use Rattle.std.proofs.Common.{◌≡◌, ◌≢◌, ◌⊎◌, ◌++◌, ◌∷◌, [], ℕ, true, List, Some, None, Contains, inl, inr, refl, sym, ap, subst, ◌∙◌, arith}
use Rattle.std.proofs.lemmas.List.Elements.{Contains-append_cases}
use Rattle.duk_host.specs.declared.fault.HostFault.{HostFault}
use Rattle.duk_host.specs.declared.fault.HostFault.TheVariants as host_fault
use Rattle.duk_journal.specs.Entry.{reversed_by}
use Rattle.duk_journal.specs.Groups.{Entries}
use Rattle.duk_journal.specs.Journal.{JournalMeaning}
use Rattle.duk_store.specs.Listed.{GroupAppendFailed}
use Rattle.duk_journal.specs.Standing.{numbers_in, used_by}
use Rattle.duk_journal.specs.declared.entry.Decided.{Decided}
use Rattle.duk_journal.specs.declared.entry.Decided.TheVariants.{Payment, Reversal}
use Rattle.duk_journal_host.specs.Group.{GroupRefused}
use Rattle.duk_journal_host.specs.Host.{HostOf, IndexOf, JudgesBy, basis_of}
use Rattle.duk_journal_host.specs.Judgement.{IsJudged, IsReasonAgainst, IsReversalAcceptable, IsReversalReplyWith, LineBasis}
use Rattle.duk_reversal.specs.Reversal.{IsReversal}
use Rattle.duk_reversal.specs.declared.reversal.Reversal as reversal_frame
use Rattle.duk_reversal.specs.declared.state.ReversalState.{ReversalState}
use Rattle.duk_store.specs.declared.fault.StoreFault.{StoreFault}
use Rattle.duk_store.specs.declared.fault.StoreFault.TheVariants as store_fault
use Rattle.duk_tree.specs.Serial.{Serial}
use Rattle.duk_books.specs.Books.{BooksOf, Frame, Meanings}
use Rattle.duk_stations.specs.Places.{IsAt}
use Rattle.duk_books.specs.Calm.{IsJournalFault, ReportsFault}
use Rattle.duk_books.specs.Came.{AreAskedFor, IsAskedFor}
use Rattle.duk_books.specs.Numbers.{IsUsedNumber}
use Rattle.duk_books.specs.Up.{IsAnswered, ReachesHost}
use Rattle.duk_books.specs.declared.event.End.TheVariants as ends
use Rattle.duk_books.specs.declared.outcome.Outcome.{Outcome}
use Rattle.duk_books.specs.declared.outcome.Outcome.TheVariants as came
use Rattle.duk_books.specs.inner.Known.{FrameLaws}
use Rattle.duk_books.proofs.agreement.Facts.{IsCalledBack, the_only}
use Rattle.duk_books.proofs.agreement.HostHolds.{flat_from}
use Rattle.duk_stations.proofs.PlacesInLists.{not_missing}
use Rattle.duk_books.proofs.way_out.Ups.{not_both, one_at, one_there}

-- ---- the number is new

-- what an entry used was asked for: it was sent under that number, or a reversal of it was
asked_number : (requests : List Frame) (number : Serial) (decided : Decided) → IsAskedFor requests number decided → IsUsedNumber requests number
asked_number requests number (Payment amount code) is =
    record { frame = is.frame; sent = is.sent; number = inl (record { request = is.request; is_request = is.is_request; ksn_is = sym is.ksn_is }) }
asked_number requests number (Reversal counter state) is =
    record { frame = is.frame; sent = is.sent; number = inr (record { reversal = is.reversal; is_reversal = is.is_reversal; ksn_is = sym is.ksn_is }) }

entry_used : (requests : List Frame) (number : Serial) (decided : Decided) (mac : List ℕ) (ksn : Serial) → IsAskedFor requests number decided → Contains (numbers_in (record { number = number; decided = decided; mac = mac })) ksn
    → IsUsedNumber requests ksn ⊎ IsCalledBack requests ksn
entry_used requests number (Payment amount code) mac ksn is has =
    inl (subst (λ (it : Serial). IsUsedNumber requests it) (sym (the_only number ksn has)) (asked_number requests number (Payment amount code) is))
entry_used requests number (Reversal counter state) mac ksn is has = elim (Contains-append_cases (number ∷ []) (reversed_by number counter ∷ []) ksn has) [
  | inl own ↦ inl (subst (λ (it : Serial). IsUsedNumber requests it) (sym (the_only number ksn own)) (asked_number requests number (Reversal counter state) is))
  | inr other ↦ inr (record {
    frame = is.frame;
    reversal = is.reversal;
    sent = is.sent;
    is_reversal = is.is_reversal;
    reversed_is = is.reversed_is ∙ sym (the_only (reversed_by number counter) ksn other);
  })
]

-- so a number that was never sent, and of which no reversal was, is not used
pub not_used : (requests : List Frame) (entries : Entries) (ksn : Serial) → AreAskedFor requests entries → ¬ IsUsedNumber requests ksn → ¬ IsCalledBack requests ksn → ¬ Contains (used_by entries) ksn
not_used requests entries ksn asked new not_back has =
    let it = flat_from numbers_in entries ksn has in
    elim (entry_used requests it.0.number it.0.decided it.0.mac ksn (asked it.0 it.1) it.2) [
      | inl used ↦ new used
      | inr back ↦ not_back back
    ]

-- ---- it is accepted

-- there is no reason against it
no_reason : (basis : LineBasis) (reversal : reversal_frame.Reversal) (why : _) → IsReversalAcceptable basis reversal → ¬ IsReasonAgainst basis reversal why
no_reason basis reversal why acceptable first =
    grind (arith, first.fails, acceptable.authentic.key_is.held, acceptable.authentic.key_is.usable, acceptable.authentic, acceptable.new, acceptable.room)

-- the answer is its reply
module _ (laws : FrameLaws) (basis : LineBasis) (bytes answer : List ℕ) (reversal : reversal_frame.Reversal) (is_reversal : IsReversal bytes reversal) (acceptable : IsReversalAcceptable basis reversal) where
  abbrev pub IsItsReply : Type 0
  IsItsReply = (state : ReversalState) × IsReversalReplyWith basis.keys reversal.numbers state answer

  same_numbers : (other : reversal_frame.Reversal) (state : ReversalState) → IsReversal bytes other → IsReversalReplyWith basis.keys other.numbers state answer → IsItsReply
  same_numbers other state is reply = (state, subst (λ (it : reversal_frame.Reversal). IsReversalReplyWith basis.keys it.numbers state answer) (laws.one_reversal bytes other reversal is is_reversal) reply)

  pub judged_replies : (added : Entries) → IsJudged basis bytes answer added → IsItsReply
  judged_replies added (inl (inl (inl refused), none)) = absurd (refused.no_reversal reversal is_reversal)
  judged_replies added (inl (inl (inr again), none)) = absurd (laws.apart bytes again.request reversal again.is_request is_reversal)
  judged_replies added (inl (inr (inl refused), none)) =
      absurd (no_reason basis refused.reversal refused.why
      (subst (λ (it : reversal_frame.Reversal). IsReversalAcceptable basis it) (laws.one_reversal bytes reversal refused.reversal is_reversal refused.is_reversal) acceptable) refused.refuses)
  judged_replies added (inl (inr (inr again), none)) = same_numbers again.reversal again.state again.is_reversal again.reply
  judged_replies added (inr (entry, inl paid, one)) = absurd (laws.apart bytes paid.request reversal paid.accepted.is_request is_reversal)
  judged_replies added (inr (entry, inr reversed, one)) = same_numbers reversed.reversal reversed.state reversed.is_reversal reversed.reply

-- ---- it is answered

-- a running journal that does not fail appends
append_fails : {J : Type 0} (journal : JournalMeaning J) (old new : J) (added : Entries) (why : StoreFault) → (journal.state_of old).running ≡ true → GroupAppendFailed journal old new added why → why ≡ store_fault.Device
append_fails journal old new added store_fault.Device runs failed = refl
append_fails journal old new added store_fault.Stopped runs failed = absurd (not_both (journal.state_of old).running runs failed.was_stopped)
append_fails journal old new added _ runs failed = absurd failed

stopped_host : {J I : Type 0} (host : HostOf J I) (index : IndexOf) → host.state ≡ Some index → host.state ≡ None → ⊥
stopped_host host index runs stopped = cc

-- a running host whose journal's device does not fail answers
module _ {C B J I : Type 0} (m : Meanings C B J I) (old new : BooksOf C B J I) (entries : Entries) (judges : JudgesBy m.host old.host entries) where
  pub refuses : (frames answers : List (List ℕ)) (why : HostFault) → why ≢ host_fault.NoMemory → ¬ IsJournalFault why store_fault.Device → GroupRefused m.host frames old.host new.host answers why → ⊥
  refuses frames answers host_fault.NoMemory other spared is = other refl
  refuses frames answers (host_fault.Store why) other spared is =
      let failed = is.0.not_kept entries judges in
      spared (append_fails m.host.journal old.host.journal new.host.journal failed.2 why judges.kept.runs failed.4)
  refuses frames answers host_fault.Stopped other spared is = stopped_host old.host judges.index judges.runs is.0
  refuses frames answers _ other spared is = is

-- the host's reply to a reversal, as the next answer
pub record RepliesTo {C B J I : Type 0} (old : BooksOf C B J I) (reversal : reversal_frame.Reversal) (new : BooksOf C B J I) : Type 0 where
  pub answer : Frame
  pub state : ReversalState
  pub reply : IsReversalReplyWith old.host.keys reversal.numbers state answer.items
  pub tills : new.tills ≡ old.tills
  pub answers : new.answers ≡ old.answers ++ answer ∷ []
  pub keys : new.host.keys ≡ old.host.keys

module _ {C B J I : Type 0} (m : Meanings C B J I) (laws : FrameLaws) (old new : BooksOf C B J I) (k : ℕ) (frame : Frame) (at : IsAt old.requests k frame) (entries : Entries) (judges : JudgesBy m.host old.host entries)
    (reversal : reversal_frame.Reversal) (is_reversal : IsReversal frame.items reversal) (acceptable : IsReversalAcceptable (basis_of m.host old.host entries) reversal) where
  is_answered : (outcome : Outcome) → IsAnswered m old k outcome new → RepliesTo old reversal new
  is_answered outcome is =
      let same : is.frame ≡ frame = one_at old.requests k is.frame frame is.sent at in
      let judged = (is.answered.answered entries judges).1 in
      let told = judged_replies laws (basis_of m.host old.host entries) is.frame.items is.answer.items reversal (subst (λ (it : Frame). IsReversal it.items reversal) (sym same) is_reversal) acceptable judged.0 judged.2 in
      record {
        answer = is.answer;
        state = told.0;
        reply = told.1;
        tills = ap (λ (books : BooksOf C B J I). books.tills) is.rest;
        answers = ap (λ (books : BooksOf C B J I). books.answers) is.rest;
        keys = is.answered.ends.keys;
      }

  pub replies_to : (outcome : Outcome) → ReachesHost m old k outcome new → ¬ ReportsFault outcome ends.Host store_fault.Device → RepliesTo old reversal new
  replies_to came.NoSuchFrame is spared = absurd (not_missing old.requests k (one_there old.requests k frame at) is.0)
  replies_to (came.HostFaulted why) is spared = absurd (refuses m old new entries judges (is.frame.items ∷ []) is.answers why is.not_memory spared is.faulted)
  replies_to (came.Accepted n ksn code) is spared = is_answered (came.Accepted n ksn code) is
  replies_to (came.Repeated n ksn code) is spared = is_answered (came.Repeated n ksn code) is
  replies_to (came.Refused n ksn why) is spared = is_answered (came.Refused n ksn why) is
  replies_to (came.Reversed n ksn reversed state) is spared = is_answered (came.Reversed n ksn reversed state) is
  replies_to _ is spared = absurd is.says
