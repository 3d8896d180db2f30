-- The calls of a host whose book is elsewhere, as steps: what is judged, marked and answered.
use Rattle.std.proofs.Common.{◌≡◌, ◌≢◌, ◌<◌, ◌+◌, ◌^◌, ◌∙◌, ◌∷◌, ℕ, List, [], None, Some, ap, arith, inl, inr, length, slice_index_or, subst, sym, take}
use Rattle.std.proofs.lemmas.List.Elements.{All-drop, All-take}
use Rattle.std.specs.List.{All}
use Rattle.duk_frame.specs.Stream.{IsFrame}
use Rattle.duk_frame.specs.Code.{code_text}
use Rattle.duk_frame.specs.declared.code.Code.TheVariants.{Approved}
use Rattle.duk_host.specs.Judgement.{Decision}
use Rattle.duk_hsm.specs.Commands.{HasTransactionKey, NoTransactionKey}
use Rattle.duk_hsm.specs.Keys.{HsmKeys}
use Rattle.duk_hsm.specs.declared.fault.HsmFault.{HsmFault}
use Rattle.duk_hsm.specs.declared.fault.HsmFault.TheVariants as hsm
use Rattle.duk_journal_host.specs.Candidate.{IsCandidate, IsJudgedTo, IsOfCandidate}
use Rattle.duk_journal_host.specs.Judgement.{line_basis}
use Rattle.duk_journal_host.specs.Steps.{IsAnswerOf, IsDismissed, number_in}
use Rattle.duk_journal_host.specs.declared.authentic.Purchase.{Purchase}
use Rattle.duk_journal_host.specs.declared.candidate.Candidate.{Candidate}
use Rattle.duk_journal_host.specs.declared.candidate.Candidate.TheVariants as candidate
use Rattle.duk_journal_host.specs.declared.candidate.Judgement.{Judgement}
use Rattle.duk_journal_host.specs.declared.candidate.Judgement.TheVariants as judgement
use Rattle.duk_journal_host.specs.declared.settlement.Settled.{Settled}
use Rattle.duk_journal_host.specs.declared.settlement.Settled.TheVariants as settled
use Rattle.duk_reversal.specs.State.{state_byte}
use Rattle.duk_reversal.specs.declared.reversal.Reversal.{Reversal}
use Rattle.duk_tdes.specs.Tdes.{IsTdesKey}
use Rattle.duk_tree.specs.Serial.{IsSerial, Serial}
use Rattle.duk_calls.specs.Hosts.{BeginsWithAnswer, HasAnswer, SaysAnswer, SaysJudgement, SaysSettled, candidate_bytes, judgement_bytes, marked, marked_at, padded}
use Rattle.duk_calls.specs.Modules.{IsModule, count_in, lmk_in}
use Rattle.duk_calls.specs.Requests.{front_frame}
use Rattle.duk_calls.proofs.FramesInPlaces.{TextLaws, answer_is_frame, begins_with_zero, front_of_frame, settled_is_frame}
use Rattle.duk_calls.proofs.Loading.{Readings, loaded_one}
use Rattle.duk_calls.proofs.Marked.{SerialLaws, one_reading, payment_said, reversal_said}

-- ---- what is judged

dismissed_is_frame : TextLaws → (keys : HsmKeys) (bytes frame : List ℕ) → IsDismissed keys bytes frame → IsFrame frame
dismissed_is_frame laws keys bytes frame is =
    let any : Decision = λ pan amount block. Approved in
    settled_is_frame laws (line_basis keys [] 0 0 any) bytes frame (is [] 0 0 any)

-- what begins with a zero is the frame of a refusal
refused_by : TextLaws → (keys : HsmKeys) (decides : Decision) (frame said : List ℕ) (found : Judgement) → IsJudgedTo keys decides frame found
    → said ≡ padded (judgement_bytes found) → slice_index_or said 0 0 ≡ 0 → IsDismissed keys frame (front_frame said)
refused_by laws keys decides frame said (judgement.Refused refusal) is same zero =
    subst (IsDismissed keys frame) (sym (ap front_frame same ∙ front_of_frame refusal.items (dismissed_is_frame laws keys frame refusal.items is))) is
refused_by laws keys decides frame said (judgement.Candidate (candidate.Payment purchase code)) is same zero =
    absurd (omega (arith, zero, ap (λ said. slice_index_or said 0 0) same))
refused_by laws keys decides frame said (judgement.Candidate (candidate.Reversal reversal)) is same zero =
    absurd (omega (arith, zero, ap (λ said. slice_index_or said 0 0) same))

pub judged_refused : TextLaws → (keys : HsmKeys) (decides : Decision) (frame said : List ℕ) → SaysJudgement keys decides frame said
    → slice_index_or said 0 0 ≡ 0 → IsDismissed keys frame (front_frame said)
judged_refused laws keys decides frame said says = refused_by laws keys decides frame said says.0 says.1 says.2

-- and what does not, a candidate
candidate_by : TextLaws → (keys : HsmKeys) (decides : Decision) (frame said : List ℕ) (found : Judgement) → IsJudgedTo keys decides frame found
    → said ≡ padded (judgement_bytes found) → slice_index_or said 0 0 ≢ 0
    → (candidate : Candidate) × IsCandidate keys decides frame candidate × (said ≡ padded (candidate_bytes candidate))
candidate_by laws keys decides frame said (judgement.Refused refusal) is same some =
    absurd (some (ap (λ said. slice_index_or said 0 0) same ∙ begins_with_zero refusal.items (dismissed_is_frame laws keys frame refusal.items is)))
candidate_by laws keys decides frame said (judgement.Candidate it) is same some = (it, is, same)

pub judged_candidate : TextLaws → (keys : HsmKeys) (decides : Decision) (frame said : List ℕ) → SaysJudgement keys decides frame said
    → slice_index_or said 0 0 ≢ 0
    → (candidate : Candidate) × IsCandidate keys decides frame candidate × (said ≡ padded (candidate_bytes candidate))
judged_candidate laws keys decides frame said says = candidate_by laws keys decides frame said says.0 says.1 says.2

-- ---- what is marked

-- a candidate, marked with what became of it, says that
pub candidate_says : SerialLaws → (keys : HsmKeys) (decides : Decision) (frame : List ℕ) (it : Candidate) (settled : Settled) → IsCandidate keys decides frame it
    → IsOfCandidate it settled → SaysSettled (marked settled (padded (candidate_bytes it))) settled
candidate_says laws keys decides frame (candidate.Payment purchase code) (settled.Payment same settlement) is of =
    let asked = is.0 in
    let fields = asked.is_request.fields in
    let serial : IsSerial purchase.number = subst IsSerial (sym (ap (λ (purchase : Purchase). purchase.number) asked.purchase_is)) fields.ksn_is in
    let amount : purchase.amount ≡ asked.request.amount = ap (λ (purchase : Purchase). purchase.amount) asked.purchase_is in
    let fits : purchase.amount < 2 ^ 32 = omega (arith, amount, fields.amount_fits) in
    let eight : length purchase.mac ≡ 8 = ap (λ (purchase : Purchase). length purchase.mac) asked.purchase_is ∙ fields.mac_is.eight in
    let said : List ℕ = marked_at 16 code_text settlement (padded (candidate_bytes (candidate.Payment purchase code))) in
    subst (λ (purchase : Purchase). SaysSettled said (settled.Payment purchase settlement)) (sym of)
    (payment_said laws purchase code settlement serial fits eight)
candidate_says laws keys decides frame (candidate.Reversal reversal) (settled.Reversal same settlement) is of =
    let fields = is.is_reversal.fields in
    let said : List ℕ = marked_at 30 (λ state. state_byte state ∷ []) settlement (padded (candidate_bytes (candidate.Reversal reversal))) in
    subst (λ (reversal : Reversal). SaysSettled said (settled.Reversal reversal settlement)) (sym of)
    (reversal_said laws reversal settlement fields.numbers_are fields.mac_is.eight)
candidate_says laws keys decides frame (candidate.Payment purchase code) (settled.Reversal same settlement) is of = absurd of
candidate_says laws keys decides frame (candidate.Reversal reversal) (settled.Payment same settlement) is of = absurd of

-- ---- what is answered

-- what uses the number of a candidate has a transaction key
pub key_of_candidate : (keys : HsmKeys) (decides : Decision) (frame : List ℕ) (it : Candidate) (settled : Settled) → IsCandidate keys decides frame it
    → IsOfCandidate it settled → HasTransactionKey keys (number_in settled)
key_of_candidate keys decides frame (candidate.Payment purchase code) (settled.Payment same settlement) is of =
    let asked = is.0 in
    let number : asked.request.ksn ≡ same.number = sym (ap (λ (purchase : Purchase). purchase.number) (of ∙ asked.purchase_is)) in
    subst (HasTransactionKey keys) number (asked.authentic.key, asked.authentic.key_is)
key_of_candidate keys decides frame (candidate.Reversal reversal) (settled.Reversal same settlement) is of =
    let number : reversal.numbers.ksn ≡ same.numbers.ksn = sym (ap (λ (reversal : Reversal). reversal.numbers.ksn) of) in
    subst (HasTransactionKey keys) number (is.authentic.key, is.authentic.key_is)
key_of_candidate keys decides frame (candidate.Payment purchase code) (settled.Reversal same settlement) is of = absurd of
key_of_candidate keys decides frame (candidate.Reversal reversal) (settled.Payment same settlement) is of = absurd of

-- and so there is no fault for which it has none
no_fault : (keys : HsmKeys) (number : Serial) (why : HsmFault) → HasTransactionKey keys number → ¬ NoTransactionKey keys number why
no_fault keys number hsm.NoKeySet has none =
    let clash : None ≡ Some has.1.bdk = sym none ∙ has.1.held in cc
no_fault keys number hsm.BadCounter has none = none.unusable has.1.usable
no_fault keys number (hsm.Block fault) has none = none
no_fault keys number hsm.WrongUse has none = none
no_fault keys number hsm.PrefixTaken has none = none
no_fault keys number hsm.SlotsFull has none = none
no_fault keys number hsm.ZoneTaken has none = none
no_fault keys number hsm.NoZone has none = none
no_fault keys number hsm.BadMac has none = none
no_fault keys number hsm.BadPinBlock has none = none

has_answer : TextLaws → (keys : HsmKeys) (settled : Settled) (answer : List ℕ) → HasTransactionKey keys (number_in settled) → HasAnswer keys settled answer
    → BeginsWithAnswer keys settled answer
has_answer laws keys settled answer key (inl has) =
    let front : front_frame answer ≡ has.1 = ap front_frame has.3 ∙ front_of_frame has.1 (answer_is_frame laws keys settled has.1 has.2) in
    record {
      answers = subst (IsAnswerOf keys settled) (sym front) has.2;
      zeros = has.3 ∙ ap padded (sym front);
    }
has_answer laws keys settled answer key (inr has) = absurd (no_fault keys (number_in settled) has.0 key has.1)

answered : TextLaws → (keys : HsmKeys) (settled : Settled) (said answer : List ℕ) → HasTransactionKey keys (number_in settled) → SaysSettled said settled
    → SaysAnswer keys said answer → BeginsWithAnswer keys settled answer
answered laws keys settled said answer key says (inl found) =
    has_answer laws keys settled answer key (subst (λ settled. HasAnswer keys settled answer) (one_reading said found.0 settled found.1 says) found.2)
answered laws keys settled said answer key says (inr nothing) = absurd (nothing.0 settled says)

-- a candidate, marked with what became of it, is answered so
pub candidate_answered : SerialLaws → TextLaws → (keys : HsmKeys) (decides : Decision) (frame : List ℕ) (it : Candidate) (settled : Settled) (answer : List ℕ)
    → IsCandidate keys decides frame it → IsOfCandidate it settled → SaysAnswer keys (marked settled (padded (candidate_bytes it))) answer
    → BeginsWithAnswer keys settled answer
candidate_answered serials laws keys decides frame it settled answer is of =
    answered laws keys settled (marked settled (padded (candidate_bytes it))) answer (key_of_candidate keys decides frame it settled is of)
    (candidate_says serials keys decides frame it settled is of)

-- ---- an image

-- an image of bytes has the keys of one security module
pub one_set_of_keys : Readings → (image : List ℕ) (one other : HsmKeys) → All (λ byte. byte < 2 ^ 8) image → IsModule image one → IsModule image other → one ≡ other
one_set_of_keys readings image one other fit is also =
    let tdes : IsTdesKey (lmk_in image) = record {
      length_is = is.lmk_is;
      bytes_fit = All-drop (λ byte. byte < 2 ^ 8) 4682 (take (4682 + slice_index_or image 4681 0) image)
          (All-take (λ byte. byte < 2 ^ 8) (4682 + slice_index_or image 4681 0) image fit);
    } in
    loaded_one readings image (count_in image) one other tdes is.are_loaded also.are_loaded
