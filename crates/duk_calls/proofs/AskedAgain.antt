-- What is known again has the answer that it had when it was kept.
use Rattle.std.proofs.Common.{◌≡◌, ◌∙◌, ℕ, List, Some, ap, sym}
use Rattle.duk_frame.specs.Payment.{payment_reply}
use Rattle.duk_frame.specs.declared.code.Code.{Code}
use Rattle.duk_host.specs.Judgement.{Decision, IsReplyWith}
use Rattle.duk_hsm.specs.Commands.{IsTransactionKey}
use Rattle.duk_hsm.specs.Keys.{HsmKeys}
use Rattle.duk_journal_host.specs.Candidate.{IsCandidate, IsOfCandidate}
use Rattle.duk_journal_host.specs.Judgement.{IsReversalReplyWith}
use Rattle.duk_journal_host.specs.Steps.{IsAnswerBy, IsAnswerOf}
use Rattle.duk_journal_host.specs.declared.candidate.Candidate.{Candidate}
use Rattle.duk_journal_host.specs.declared.settlement.Settled.{Settled}
use Rattle.duk_journal_host.specs.declared.settlement.Settled.TheVariants as settled
use Rattle.duk_journal_host.specs.declared.settlement.Settlement.{Settlement}
use Rattle.duk_journal_host.specs.declared.settlement.Settlement.TheVariants.{Full, Kept, KnownAgain, Used}
use Rattle.duk_reversal.specs.Numbers.{Numbers}
use Rattle.duk_reversal.specs.Authentic.{reversal_reply_under}
use Rattle.duk_reversal.specs.declared.state.ReversalState.{ReversalState}
use Rattle.duk_tree.specs.Derivation.{derived_key_of, response_key_of}
use Rattle.duk_tree.specs.Serial.{Serial}
use Rattle.duk_calls.specs.Hosts.{BeginsWithAnswer, SaysAnswer, asked_again, candidate_bytes, known_again, marked, padded}
use Rattle.duk_calls.specs.Requests.{front_frame}
use Rattle.duk_calls.proofs.FramesInPlaces.{TextLaws}
use Rattle.duk_calls.proofs.HostSteps.{candidate_answered}
use Rattle.duk_calls.proofs.Marked.{SerialLaws}

-- ---- a number has one transaction key, and so one reply

one_key : (keys : HsmKeys) (ksn : Serial) (key other : List ℕ) → IsTransactionKey keys ksn key → IsTransactionKey keys ksn other → key ≡ other
one_key keys ksn key other one two =
    let held : Some one.bdk ≡ Some two.bdk = sym one.held ∙ two.held in
    let bdk : one.bdk ≡ two.bdk = cc in
    one.key_is ∙ ap (λ bdk. derived_key_of bdk ksn) bdk ∙ sym two.key_is

same_reply : (keys : HsmKeys) (ksn : Serial) (code : Code) (one other : List ℕ) → IsReplyWith keys ksn code one → IsReplyWith keys ksn code other → one ≡ other
same_reply keys ksn code one other is also =
    is.frame_is ∙ ap (λ key. payment_reply key ksn code) (one_key keys ksn is.key also.key is.key_is also.key_is) ∙ sym also.frame_is

same_reversal_reply : (keys : HsmKeys) (numbers : Numbers) (state : ReversalState) (one other : List ℕ) → IsReversalReplyWith keys numbers state one
    → IsReversalReplyWith keys numbers state other → one ≡ other
same_reversal_reply keys numbers state one other is also =
    is.frame_is ∙ ap (λ key. reversal_reply_under (response_key_of key) numbers state) (one_key keys numbers.ksn is.key also.key is.key_is also.key_is) ∙ sym also.frame_is

-- ---- the same answer

same_by : {T : Type 0} (number : Serial) (replies : T → List ℕ → Type 0) → ((outcome : T) (one other : List ℕ) → replies outcome one → replies outcome other → one ≡ other)
    → (settlement : Settlement T) (one other : List ℕ) → IsAnswerBy number replies settlement one → IsAnswerBy number replies (known_again settlement) other → other ≡ one
same_by number replies same (Kept outcome) one other is also = same outcome other one also is
same_by number replies same (KnownAgain outcome) one other is also = same outcome other one also is
same_by number replies same Used one other is also = also ∙ sym is
same_by number replies same Full one other is also = also ∙ sym is

same_answer : (keys : HsmKeys) (done : Settled) (one other : List ℕ) → IsAnswerOf keys done one → IsAnswerOf keys (asked_again done) other → other ≡ one
same_answer keys (settled.Payment purchase settlement) one other is also =
    same_by purchase.number (IsReplyWith keys purchase.number) (λ code. same_reply keys purchase.number code) settlement one other is also
same_answer keys (settled.Reversal reversal settlement) one other is also =
    same_by reversal.numbers.ksn (IsReversalReplyWith keys reversal.numbers) (λ state. same_reversal_reply keys reversal.numbers state) settlement one other is also

pub answered_again : SerialLaws → TextLaws → (keys : HsmKeys) (decides others : Decision) (frame first later : List ℕ) (it other : Candidate) (done : Settled)
    → IsCandidate keys decides frame it → IsOfCandidate it done → IsCandidate keys others frame other → IsOfCandidate other (asked_again done)
    → SaysAnswer keys (marked done (padded (candidate_bytes it))) first
    → SaysAnswer keys (marked (asked_again done) (padded (candidate_bytes other))) later → later ≡ first
answered_again serials laws keys decides others frame first later it other done is of also again says says_again =
    let one : BeginsWithAnswer keys done first = candidate_answered serials laws keys decides frame it done first is of says in
    let two : BeginsWithAnswer keys (asked_again done) later = candidate_answered serials laws keys others frame other (asked_again done) later also again says_again in
    two.zeros ∙ ap padded (same_answer keys done (front_frame first) (front_frame later) one.answers two.answers) ∙ sym one.zeros
