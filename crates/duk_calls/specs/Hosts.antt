-- What the calls over the frames of a host answer: forms of this project's own. What is judged, and
-- what was settled of it, has 64 bytes.
use Rattle.std.specs.Prelude.{◌≡◌, ◌⊎◌, ◌<◌, ◌≤◌, ◌+◌, ◌/◌, ◌%◌, ◌++◌, ℕ, zero, suc, List, [], ◌∷◌, Some, IsSome, None, drop, length, replicate, slice_index_or, take}
use Rattle.byteorder.specs.Endian.{big_bytes, big_number}
use Rattle.duk_frame.specs.Code.{code_text}
use Rattle.duk_frame.specs.declared.code.Code.{Code}
use Rattle.duk_host.specs.Judgement.{Decision}
use Rattle.duk_host.specs.Table.{table_decision}
use Rattle.duk_hsm.specs.Keys.{HsmKeys}
use Rattle.duk_hsm.specs.declared.fault.HsmFault.{HsmFault}
use Rattle.duk_hsm.specs.Commands.{HasTransactionKey, NoTransactionKey}
use Rattle.duk_journal_host.specs.Candidate.{IsJudgedTo}
use Rattle.duk_journal_host.specs.Steps.{IsAnswerOf, number_in}
use Rattle.duk_journal_host.specs.declared.candidate.Candidate.{Candidate}
use Rattle.duk_journal_host.specs.declared.candidate.Candidate.TheVariants as candidate
use Rattle.duk_journal_host.specs.declared.candidate.Judgement.{Judgement}
use Rattle.duk_journal_host.specs.declared.candidate.Judgement.TheVariants as judgement
use Rattle.duk_journal_host.specs.declared.settlement.Settled.{Settled}
use Rattle.duk_journal_host.specs.declared.settlement.Settled.TheVariants as settled
use Rattle.duk_journal_host.specs.declared.settlement.Settlement.{Settlement}
use Rattle.duk_journal_host.specs.declared.settlement.Settlement.TheVariants.{Full, Kept, KnownAgain, Used}
use Rattle.duk_pin.specs.Pan.{IsPan}
use Rattle.duk_pin.specs.Pin.{IsPin}
use Rattle.duk_pin.specs.declared.card.Card.{Card}
use Rattle.duk_reversal.specs.Numbers.{AreNumbers}
use Rattle.duk_reversal.specs.State.{state_byte}
use Rattle.duk_reversal.specs.declared.state.ReversalState.{ReversalState}
use Rattle.duk_tree.specs.Serial.{serial_bytes, serial_of_bytes}
use Rattle.duk_calls.specs.Answer.{Answer, Ends, part_at, with_front}
use Rattle.duk_calls.specs.Fault.{fault_number}
use Rattle.duk_calls.specs.Modules.{IsModule, IsNoModule, fault_of_hsm}
use Rattle.duk_calls.specs.Requests.{front_frame}
use Rattle.duk_calls.specs.declared.fault.Fault.{Fault}
use Rattle.duk_calls.specs.declared.fault.Fault.TheVariants as fault

-- ---- the issuer's cards

-- a card has 37 bytes: the number of its PAN's digits, and room for 19 of them; the number of its
-- PIN's digits, and room for 12; and its limit in four
abbrev pub card_in : List ℕ → Card
card_in place = record {
  pan = drop 1 (take (1 + slice_index_or place 0 0) place);
  pin = drop 21 (take (21 + slice_index_or place 20 0) place);
  limit = big_number 4 (drop 33 place);
}

-- the cards from a place on, so many
abbrev pub cards_from : List ℕ → ℕ → ℕ → List Card
cards_from bytes place zero = []
cards_from bytes place (suc count) =
    card_in (part_at 37 bytes place) ∷ cards_from bytes (suc place) count

abbrev pub cards_in : List ℕ → List Card
cards_in bytes = cards_from bytes 0 (length bytes / 37)

-- a card's PAN is one, and its PIN
pub record IsCard (card : Card) : Type 0 where
  pub pan_is : IsPan card.pan
  pub pin_is : IsPin card.pin

-- each place has a card
abbrev pub AreCards : List ℕ → Type 0
AreCards bytes = (place : ℕ) → place < length bytes / 37 → IsCard (card_in (part_at 37 bytes place))

-- what the issuer of these cards says, to whom PIN blocks come under this zone key
abbrev pub decision_of : List ℕ → List ℕ → Decision
decision_of zone cards = table_decision (record { zone = zone; cards = cards_in cards })

-- ---- frames are judged

-- bytes in front of zeros, 64 in all
abbrev pub padded : List ℕ → List ℕ
padded bytes = with_front bytes (replicate 64 0)

-- a candidate: 1 for a payment or 2 for a reversal, a zero, and its fields
abbrev pub candidate_bytes : Candidate → List ℕ
candidate_bytes (candidate.Payment purchase code) =
    1 ∷ 0 ∷ serial_bytes purchase.number ++ big_bytes 4 purchase.amount ++ code_text code
    ++ purchase.mac
candidate_bytes (candidate.Reversal reversal) =
    2 ∷ 0 ∷ serial_bytes reversal.numbers.ksn ++ serial_bytes reversal.numbers.reversed
    ++ reversal.mac

-- what a frame is judged to be: the frame of its refusal, which begins with a zero, or a candidate
abbrev pub judgement_bytes : Judgement → List ℕ
judgement_bytes (judgement.Refused frame) = frame.items
judgement_bytes (judgement.Candidate it) = candidate_bytes it

-- the 64 bytes say what the frame is judged to be
abbrev pub SaysJudgement : HsmKeys → Decision → List ℕ → List ℕ → Type 0
SaysJudgement keys decides frame said =
    (judgement : Judgement) × IsJudgedTo keys decides frame judgement
    × (said ≡ padded (judgement_bytes judgement))

-- an image of a module, whole cards, places of 64 bytes for frames, and room for as many judgements
pub record FitJudging (image cards frames judged : List ℕ) : Type 0 where
  pub image_is : length image ≡ 4706
  pub whole_cards : length cards % 37 ≡ 0
  pub whole_frames : length frames % 64 ≡ 0
  pub room : length frames ≤ length judged

-- at the place of each frame stands what it is judged to be; the bytes behind stay as they were
pub record HoldsJudgements (image cards frames old new : List ℕ) : Type 0 where
  pub keys : HsmKeys
  pub zone : List ℕ
  pub is_module : IsModule image keys
  pub zone_is : keys.zone ≡ Some zone
  pub are_cards : AreCards cards
  pub each : (i : ℕ) → i < length frames / 64
      → SaysJudgement keys (decision_of zone cards) (front_frame (part_at 64 frames i))
      (part_at 64 new i)
  pub behind : drop (length frames) new ≡ drop (length frames) old

-- the image is a module's with no zone key
pub record HasNoZone (image : List ℕ) : Type 0 where
  pub keys : HsmKeys
  pub is_module : IsModule image keys
  pub no_zone : keys.zone ≡ None

-- the image is a module's with a zone key
pub record HasZone (image : List ℕ) : Type 0 where
  pub keys : HsmKeys
  pub is_module : IsModule image keys
  pub some_zone : IsSome keys.zone

abbrev pub IsJudgingRefused : Type 0 → List ℕ → List ℕ → Fault → Type 0
IsJudgingRefused Fit image cards fault.Length = ¬ Fit
IsJudgingRefused Fit image cards fault.NotAModule = Fit × IsNoModule image
IsJudgingRefused Fit image cards fault.NoZone = Fit × HasNoZone image
IsJudgingRefused Fit image cards fault.NotACard = Fit × HasZone image × (¬ AreCards cards)
IsJudgingRefused Fit image cards _ = ⊥

abbrev pub HostJudgeAnswers : List ℕ → List ℕ → List ℕ → List ℕ → List ℕ → Answer → Type 0
HostJudgeAnswers image cards frames old new =
    let Fit = FitJudging image cards frames old in
    Ends (Fit × HoldsJudgements image cards frames old new) (IsJudgingRefused Fit image cards)
    (new ≡ old)

-- ---- settlements are answered

-- how what is settled is said in a byte, and which outcome it has
abbrev pub IsSaid : {T : Type 0} → ℕ → (T → Type 0) → Settlement T → Type 0
IsSaid said is_outcome (Kept outcome) = (said ≡ 1) × is_outcome outcome
IsSaid said is_outcome (KnownAgain outcome) = (said ≡ 2) × is_outcome outcome
IsSaid said is_outcome Used = said ≡ 3
IsSaid said is_outcome Full = said ≡ 4

-- what became of a payment, and of a reversal
abbrev pub IsPaymentSaid : List ℕ → Settlement Code → Type 0
IsPaymentSaid said =
    IsSaid (slice_index_or said 1 0) (λ code. code_text code ≡ take 2 (drop 16 said))

abbrev pub IsReversalSaid : List ℕ → Settlement ReversalState → Type 0
IsReversalSaid said =
    IsSaid (slice_index_or said 1 0) (λ state. state_byte state ≡ slice_index_or said 30 0)

-- the 64 bytes say what was settled: they are those of a candidate, with a byte of what became of it
-- in the place of the zero; the code of a payment is that which came of it, and behind a reversal
-- stands the byte of what it found
abbrev pub SaysSettled : List ℕ → Settled → Type 0
SaysSettled said (settled.Payment purchase settlement) =
    (slice_index_or said 0 0 ≡ 1)
    × (purchase.number ≡ serial_of_bytes (take 10 (drop 2 said)))
    × (purchase.amount ≡ big_number 4 (drop 12 said))
    × (purchase.mac ≡ take 8 (drop 18 said))
    × IsPaymentSaid said settlement
SaysSettled said (settled.Reversal reversal settlement) =
    (slice_index_or said 0 0 ≡ 2)
    × AreNumbers reversal.numbers
    × (reversal.numbers.ksn ≡ serial_of_bytes (take 10 (drop 2 said)))
    × (reversal.numbers.reversed ≡ serial_of_bytes (take 10 (drop 12 said)))
    × (reversal.mac ≡ take 8 (drop 22 said))
    × IsReversalSaid said settlement

-- bytes with these in the place of those from a place on
abbrev pub with_at : ℕ → List ℕ → List ℕ → List ℕ
with_at place these bytes = take place bytes ++ with_front these (drop place bytes)

-- the 64 bytes of a candidate, marked with what became of it: how it was settled in the second byte,
-- and what came of it from a place on
abbrev pub marked_at : {T : Type 0} → ℕ → (T → List ℕ) → Settlement T → List ℕ → List ℕ
marked_at place bytes_of (Kept outcome) said =
    with_at 1 (1 ∷ []) (with_at place (bytes_of outcome) said)
marked_at place bytes_of (KnownAgain outcome) said =
    with_at 1 (2 ∷ []) (with_at place (bytes_of outcome) said)
marked_at place bytes_of Used said = with_at 1 (3 ∷ []) said
marked_at place bytes_of Full said = with_at 1 (4 ∷ []) said

-- a payment's code stands in the place of its own, and what a reversal found behind its fields
abbrev pub marked : Settled → List ℕ → List ℕ
marked (settled.Payment purchase settlement) = marked_at 16 code_text settlement
marked (settled.Reversal reversal settlement) =
    marked_at 30 (λ state. state_byte state ∷ []) settlement

-- what becomes of it when it is asked once more: what was kept is known again from then on
abbrev pub known_again : {T : Type 0} → Settlement T → Settlement T
known_again (Kept outcome) = KnownAgain outcome
known_again settlement = settlement

abbrev pub asked_again : Settled → Settled
asked_again (settled.Payment purchase settlement) =
    settled.Payment purchase (known_again settlement)
asked_again (settled.Reversal reversal settlement) =
    settled.Reversal reversal (known_again settlement)

-- the 64 bytes say nothing that was settled
abbrev pub SaysNothing : List ℕ → Type 0
SaysNothing said = (settled : Settled) → ¬ SaysSettled said settled

-- what was settled has this answer: where its key serial number has a transaction key, a frame, which
-- begins with a zero; and else the number of the fault for which it has none
abbrev pub HasAnswer : HsmKeys → Settled → List ℕ → Type 0
HasAnswer keys settled answer =
    (HasTransactionKey keys (number_in settled) × (frame : List ℕ)
    × IsAnswerOf keys settled frame × (answer ≡ padded frame))
    ⊎ ((why : HsmFault) × NoTransactionKey keys (number_in settled) why
    × (answer ≡ padded (fault_number (fault_of_hsm why) ∷ [])))

-- the 64 bytes are the answer to what others say, or the number of the fault that they say nothing
abbrev pub SaysAnswer : HsmKeys → List ℕ → List ℕ → Type 0
SaysAnswer keys said answer =
    ((settled : Settled) × SaysSettled said settled × HasAnswer keys settled answer)
    ⊎ (SaysNothing said × (answer ≡ padded (fault_number fault.NotSettled ∷ [])))

-- the 64 bytes begin with the frame that answers what was settled, and zeros follow
pub record BeginsWithAnswer (keys : HsmKeys) (settled : Settled) (answer : List ℕ) : Type 0 where
  pub answers : IsAnswerOf keys settled (front_frame answer)
  pub zeros : answer ≡ padded (front_frame answer)

-- an image of a module, places of 64 bytes for what was settled, and room for as many answers
pub record FitAnswering (image said answers : List ℕ) : Type 0 where
  pub image_is : length image ≡ 4706
  pub whole : length said % 64 ≡ 0
  pub room : length said ≤ length answers

-- at the place of each stands its answer; the bytes behind stay as they were
pub record HoldsAnswers (image said old new : List ℕ) : Type 0 where
  pub keys : HsmKeys
  pub is_module : IsModule image keys
  pub each : (i : ℕ) → i < length said / 64
      → SaysAnswer keys (part_at 64 said i) (part_at 64 new i)
  pub behind : drop (length said) new ≡ drop (length said) old

abbrev pub IsAnsweringRefused : Type 0 → List ℕ → Fault → Type 0
IsAnsweringRefused Fit image fault.Length = ¬ Fit
IsAnsweringRefused Fit image fault.NotAModule = Fit × IsNoModule image
IsAnsweringRefused Fit image _ = ⊥

abbrev pub HostAnswerAnswers : List ℕ → List ℕ → List ℕ → List ℕ → Answer → Type 0
HostAnswerAnswers image said old new =
    let Fit = FitAnswering image said old in
    Ends (Fit × HoldsAnswers image said old new) (IsAnsweringRefused Fit image) (new ≡ old)
