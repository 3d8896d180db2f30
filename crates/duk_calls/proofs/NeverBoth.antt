-- No frame is a candidate and refused whatever is kept: by an empty book the candidate would be kept.
use Rattle.std.proofs.Common.{◌≡◌, ◌≢◌, ℕ, List, [], ◌∷◌, Contains, ap, arith, length, refl, slice_index_or}
use Rattle.duk_frame.specs.Payment.{payment_reply}
use Rattle.duk_host.specs.Judgement.{Decision}
use Rattle.duk_hsm.specs.Commands.{HasTransactionKey}
use Rattle.duk_hsm.specs.Keys.{HsmKeys}
use Rattle.duk_journal.specs.Groups.{Entries}
use Rattle.duk_journal.specs.Standing.{HasApproved, UseNewNumbers, payment_entry}
use Rattle.duk_journal.specs.declared.entry.Entry.{Entry}
use Rattle.duk_journal_host.specs.Candidate.{IsCandidate}
use Rattle.duk_journal_host.specs.Judgement.{IsJudged, LineBasis, line_basis, reversal_entry}
use Rattle.duk_journal_host.specs.Steps.{IsAnswerOf, IsAsked, IsCodeFor, IsDismissed, IsSettledBy, added_by}
use Rattle.duk_journal_host.specs.declared.candidate.Candidate.{Candidate}
use Rattle.duk_journal_host.specs.declared.candidate.Candidate.TheVariants as candidate
use Rattle.duk_journal_host.specs.declared.settlement.Settled.{Settled}
use Rattle.duk_journal_host.specs.declared.settlement.Settled.TheVariants as settled
use Rattle.duk_journal_host.specs.declared.settlement.Settlement.TheVariants.{Kept}
use Rattle.duk_reversal.specs.Authentic.{reversal_reply_under}
use Rattle.duk_reversal.specs.declared.state.ReversalState.TheVariants.{NoneStands}
use Rattle.duk_tree.specs.Derivation.{response_key_of}
use Rattle.duk_calls.specs.Hosts.{SaysJudgement}
use Rattle.duk_calls.specs.Requests.{front_frame}
use Rattle.duk_calls.proofs.FramesInPlaces.{TextLaws}
use Rattle.duk_calls.proofs.HostSteps.{judged_refused, key_of_candidate}

-- the laws of steps, and that a frame has one judgement
pub record Steps : Type 0 where
  pub settled : (keys : HsmKeys) (entries : Entries) (capacity room : ℕ) (decides : Decision) (bytes frame : List ℕ) (settled : Settled) → IsAsked keys bytes settled
      → IsSettledBy entries capacity room (IsCodeFor keys decides bytes) settled → IsAnswerOf keys settled frame
      → IsJudged (line_basis keys entries capacity room decides) bytes frame (added_by settled)
  pub dismissed : (keys : HsmKeys) (entries : Entries) (capacity room : ℕ) (decides : Decision) (bytes frame : List ℕ) → IsDismissed keys bytes frame
      → IsJudged (line_basis keys entries capacity room decides) bytes frame []
  pub one : (basis : LineBasis) (frame answer other : List ℕ) (added further : Entries) → UseNewNumbers basis.entries → IsJudged basis frame answer added
      → IsJudged basis frame other further → (answer ≡ other) × (added ≡ further)

none_in : {A : Type 0} (thing : A) → ¬ Contains [] thing
none_in thing is_in = omega (arith, is_in.1)

none_new : UseNewNumbers []
none_new = record { usable = λ i d within. absurd (omega (arith, within)); stand = λ i d within. absurd (omega (arith, within)); new = λ i j d below within. absurd (omega (arith, within)) }

-- an empty book with room keeps a candidate, which has its reply
pub record IsKept (keys : HsmKeys) (decides : Decision) (frame : List ℕ) : Type 0 where
  pub answer : List ℕ
  pub entry : Entry
  pub judged : IsJudged (line_basis keys [] 0 1 decides) frame answer (entry ∷ [])

is_kept : Steps → (keys : HsmKeys) (decides : Decision) (frame : List ℕ) (it : Candidate) → IsCandidate keys decides frame it → IsKept keys decides frame
is_kept steps keys decides frame (candidate.Payment purchase code) is =
    let done : Settled = settled.Payment purchase (Kept code) in
    let key : HasTransactionKey keys purchase.number = key_of_candidate keys decides frame (candidate.Payment purchase code) done is refl in
    let answer : List ℕ = payment_reply key.0 purchase.number code in
    let replied : IsAnswerOf keys done answer = record { key = key.0; key_is = key.1; frame_is = refl } in
    let settles : IsSettledBy [] 0 1 (IsCodeFor keys decides frame) done = (record { new = none_in purchase.number; room_left = omega arith }, is.1) in
    record {
      answer = answer;
      entry = payment_entry purchase.number purchase.amount code purchase.mac;
      judged = steps.settled keys [] 0 1 decides frame answer done is.0 settles replied;
    }
is_kept steps keys decides frame (candidate.Reversal reversal) is =
    let done : Settled = settled.Reversal reversal (Kept NoneStands) in
    let key : HasTransactionKey keys reversal.numbers.ksn = key_of_candidate keys decides frame (candidate.Reversal reversal) done is refl in
    let answer : List ℕ = reversal_reply_under (response_key_of key.0) reversal.numbers NoneStands in
    let replied : IsAnswerOf keys done answer = record { key = key.0; key_is = key.1; frame_is = refl } in
    let none : ¬ HasApproved [] reversal.numbers.reversed = λ has. none_in _ has.kept in
    let settles : IsSettledBy [] 0 1 (IsCodeFor keys decides frame) done = (record { new = none_in reversal.numbers.ksn; room_left = omega arith }, none) in
    record {
      answer = answer;
      entry = reversal_entry reversal NoneStands;
      judged = steps.settled keys [] 0 1 decides frame answer done is settles replied;
    }

not_dismissed : Steps → (keys : HsmKeys) (decides : Decision) (frame refusal : List ℕ) → IsKept keys decides frame → ¬ IsDismissed keys frame refusal
not_dismissed steps keys decides frame refusal kept dismissed =
    let refused = steps.dismissed keys [] 0 1 decides frame refusal dismissed in
    let same = steps.one (line_basis keys [] 0 1 decides) frame kept.answer refusal (kept.entry ∷ []) [] none_new kept.judged refused in
    omega (arith, ap length same.1)

pub never_both : TextLaws → Steps → (keys : HsmKeys) (decides others : Decision) (frame said : List ℕ) (it : Candidate) → IsCandidate keys decides frame it
    → SaysJudgement keys others frame said → slice_index_or said 0 0 ≢ 0
never_both laws steps keys decides others frame said it is says zero =
    not_dismissed steps keys decides frame (front_frame said) (is_kept steps keys decides frame it is) (judged_refused laws keys others frame said says zero)
