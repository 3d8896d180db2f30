-- What becomes of a candidate is marked in its bytes, and read in them again.
use Rattle.std.proofs.Common.{◌≡◌, ◌<◌, ◌+◌, ◌^◌, ◌==◌, ◌∙◌, ◌∷◌, ◌++◌, ℕ, List, [], ap, arith, drop, get_or, length, length-append, refl, replicate, slice_index_or, subst, sym, take}
use Rattle.std.specs.Prelude.{if◌then◌else◌}
use Rattle.std.proofs.lemmas.List.{append_assoc, drop_at, get_or_at, take_at}
use Rattle.byteorder.specs.Endian.{big_bytes, big_number}
use Rattle.byteorder.specs.Numbers.{big_number-reads_back, length-bytes_high_first}
use Rattle.duk_frame.specs.Code.{code_text}
use Rattle.duk_frame.specs.declared.code.Code.{Code}
use Rattle.duk_frame.specs.declared.code.Code.TheVariants.{Approved, NoCard, OverLimit, Unreadable, WrongPin}
use Rattle.duk_journal_host.specs.declared.authentic.Purchase.{Purchase}
use Rattle.duk_journal_host.specs.declared.candidate.Candidate.TheVariants as candidate
use Rattle.duk_journal_host.specs.declared.settlement.Settled.{Settled}
use Rattle.duk_journal_host.specs.declared.settlement.Settled.TheVariants as settled
use Rattle.duk_journal_host.specs.declared.settlement.Settlement.{Settlement}
use Rattle.duk_journal_host.specs.declared.settlement.Settlement.TheVariants.{Full, Kept, KnownAgain, Used}
use Rattle.duk_reversal.specs.Numbers.{AreNumbers}
use Rattle.duk_reversal.specs.State.{state_byte}
use Rattle.duk_reversal.specs.declared.reversal.Reversal.{Reversal}
use Rattle.duk_reversal.specs.declared.state.ReversalState.{ReversalState}
use Rattle.duk_reversal.specs.declared.state.ReversalState.TheVariants.{NoneStands, Undone}
use Rattle.duk_tree.specs.Serial.{IsSerial, Serial, serial_bytes, serial_of_bytes}
use Rattle.duk_calls.specs.Answer.{with_front}
use Rattle.duk_calls.specs.Hosts.{IsSaid, SaysSettled, candidate_bytes, marked, marked_at, padded, with_at}

-- what is known of key serial numbers
pub record SerialLaws : Type 0 where
  pub ten : (serial : Serial) → length (serial_bytes serial) ≡ 10
  pub found : (serial : Serial) → IsSerial serial → serial_of_bytes (serial_bytes serial) ≡ serial

-- ---- parts of bytes

-- bytes in the place of as many
put_between : (place : ℕ) (front these old behind : List ℕ) → length front ≡ place → length these ≡ length old
    → with_at place these (front ++ (old ++ behind)) ≡ front ++ (these ++ behind)
put_between place front these old behind at many =
    let rest : drop place (front ++ (old ++ behind)) ≡ old ++ behind = drop_at front (old ++ behind) place at in
    let left : drop (length these) (old ++ behind) ≡ behind = drop_at old behind (length these) (sym many) in
    ap (λ part. part ++ with_front these (drop place (front ++ (old ++ behind)))) (take_at front (old ++ behind) place at)
    ∙ ap (λ part. front ++ (these ++ part)) (ap (drop (length these)) rest ∙ left)

-- a part of bytes, behind others
part_behind : (n k : ℕ) (whole front part behind : List ℕ) → whole ≡ front ++ (part ++ behind) → length front ≡ n → length part ≡ k
    → take k (drop n whole) ≡ part
part_behind n k whole front part behind is at size =
    ap (λ whole. take k (drop n whole)) is
    ∙ ap (take k) (drop_at front (part ++ behind) n at)
    ∙ take_at part behind k size

-- ---- a payment

-- the bytes of a payment, with this behind them
payment_form : ℕ → Purchase → List ℕ → List ℕ → List ℕ
payment_form how purchase text behind =
    1 ∷ how ∷ (serial_bytes purchase.number ++ (big_bytes 4 purchase.amount ++ (text ++ (purchase.mac ++ behind))))

pub length-code_text : (code : Code) → length (code_text code) ≡ 2
length-code_text Approved = refl
length-code_text NoCard = refl
length-code_text WrongPin = refl
length-code_text OverLimit = refl
length-code_text Unreadable = refl

-- what stands where in the bytes of a payment
record PaymentPlaces (said : List ℕ) (how : ℕ) (purchase : Purchase) (text : List ℕ) : Type 0 where
  kind : slice_index_or said 0 0 ≡ 1
  how_is : slice_index_or said 1 0 ≡ how
  number_is : purchase.number ≡ serial_of_bytes (take 10 (drop 2 said))
  amount_is : purchase.amount ≡ big_number 4 (drop 12 said)
  mac_is : purchase.mac ≡ take 8 (drop 18 said)
  text_is : text ≡ take 2 (drop 16 said)

payment_places : SerialLaws → (how : ℕ) (purchase : Purchase) (text behind : List ℕ) → IsSerial purchase.number → purchase.amount < 2 ^ 32
    → length purchase.mac ≡ 8 → length text ≡ 2 → PaymentPlaces (payment_form how purchase text behind) how purchase text
unfolding payment_form
payment_places laws how purchase text behind serial fits eight two =
    let number : List ℕ = serial_bytes purchase.number in
    let amount : List ℕ = big_bytes 4 purchase.amount in
    let mac = purchase.mac in
    let ten : length number ≡ 10 = laws.ten purchase.number in
    let four : length amount ≡ 4 = length-bytes_high_first 4 purchase.amount in
    let whole : List ℕ = number ++ (amount ++ (text ++ (mac ++ behind))) in
    let at_text : whole ≡ (number ++ amount) ++ (text ++ (mac ++ behind)) = simp append_assoc in
    let at_mac : whole ≡ ((number ++ amount) ++ text) ++ (mac ++ behind) = simp append_assoc in
    record {
      kind = refl;
      how_is = refl;
      number_is = sym (ap serial_of_bytes (take_at number (amount ++ (text ++ (mac ++ behind))) 10 ten) ∙ laws.found purchase.number serial);
      amount_is = sym (ap (big_number 4) (drop_at number (amount ++ (text ++ (mac ++ behind))) 10 ten)
          ∙ big_number-reads_back 4 purchase.amount (text ++ (mac ++ behind)) (omega (arith, fits)));
      mac_is = sym (part_behind 16 8 whole ((number ++ amount) ++ text) mac behind at_mac (omega (arith, ten, four, two, length-append (number ++ amount) text, length-append number amount)) eight);
      text_is = sym (part_behind 14 2 whole (number ++ amount) text (mac ++ behind) at_text (omega (arith, ten, four, length-append number amount)) two);
    }

-- zeros behind so many bytes
zeros_behind : List ℕ → List ℕ
zeros_behind bytes = drop (length bytes) (replicate 64 0)

padded_payment : (purchase : Purchase) (code : Code)
    → padded (candidate_bytes (candidate.Payment purchase code)) ≡ payment_form 0 purchase (code_text code) (zeros_behind (candidate_bytes (candidate.Payment purchase code)))
unfolding payment_form zeros_behind
padded_payment purchase code = simp append_assoc

put_code : SerialLaws → (purchase : Purchase) (text other behind : List ℕ) → length text ≡ 2 → length other ≡ 2
    → with_at 16 other (payment_form 0 purchase text behind) ≡ payment_form 0 purchase other behind
unfolding payment_form
put_code laws purchase text other behind two also =
    let number : List ℕ = serial_bytes purchase.number in
    let amount : List ℕ = big_bytes 4 purchase.amount in
    let ten : length number ≡ 10 = laws.ten purchase.number in
    let four : length amount ≡ 4 = length-bytes_high_first 4 purchase.amount in
    let front : List ℕ = 1 ∷ 0 ∷ (number ++ amount) in
    let rest : List ℕ = purchase.mac ++ behind in
    let before : payment_form 0 purchase text behind ≡ front ++ (text ++ rest) = simp append_assoc in
    let after : payment_form 0 purchase other behind ≡ front ++ (other ++ rest) = simp append_assoc in
    ap (with_at 16 other) before
    ∙ put_between 16 front other text rest (omega (arith, ten, four, length-append number amount)) (omega (arith, two, also))
    ∙ sym after

-- how something was settled, in a byte
settlement_byte : {T : Type 0} → Settlement T → ℕ
settlement_byte (Kept outcome) = 1
settlement_byte (KnownAgain outcome) = 2
settlement_byte Used = 3
settlement_byte Full = 4

-- the text behind a payment's amount, once it is marked
text_of : Code → Settlement Code → List ℕ
text_of own (Kept code) = code_text code
text_of own (KnownAgain code) = code_text code
text_of own Used = code_text own
text_of own Full = code_text own

marked_payment : SerialLaws → (purchase : Purchase) (own : Code) (settlement : Settlement Code)
    → marked_at 16 code_text settlement (padded (candidate_bytes (candidate.Payment purchase own)))
    ≡ payment_form (settlement_byte settlement) purchase (text_of own settlement) (zeros_behind (candidate_bytes (candidate.Payment purchase own)))
unfolding payment_form settlement_byte text_of
marked_payment laws purchase own (Kept code) =
    ap (λ bytes. with_at 1 (1 ∷ []) (with_at 16 (code_text code) bytes)) (padded_payment purchase own)
    ∙ ap (with_at 1 (1 ∷ [])) (put_code laws purchase (code_text own) (code_text code) (zeros_behind (candidate_bytes (candidate.Payment purchase own))) (length-code_text own) (length-code_text code))
marked_payment laws purchase own (KnownAgain code) =
    ap (λ bytes. with_at 1 (2 ∷ []) (with_at 16 (code_text code) bytes)) (padded_payment purchase own)
    ∙ ap (with_at 1 (2 ∷ [])) (put_code laws purchase (code_text own) (code_text code) (zeros_behind (candidate_bytes (candidate.Payment purchase own))) (length-code_text own) (length-code_text code))
marked_payment laws purchase own Used = ap (with_at 1 (3 ∷ [])) (padded_payment purchase own)
marked_payment laws purchase own Full = ap (with_at 1 (4 ∷ [])) (padded_payment purchase own)

says_payment : (said : List ℕ) (purchase : Purchase) (own : Code) (settlement : Settlement Code)
    → PaymentPlaces said (settlement_byte settlement) purchase (text_of own settlement) → SaysSettled said (settled.Payment purchase settlement)
unfolding settlement_byte text_of
says_payment said purchase own (Kept code) at = (at.kind, at.number_is, at.amount_is, at.mac_is, (at.how_is, at.text_is))
says_payment said purchase own (KnownAgain code) at = (at.kind, at.number_is, at.amount_is, at.mac_is, (at.how_is, at.text_is))
says_payment said purchase own Used at = (at.kind, at.number_is, at.amount_is, at.mac_is, at.how_is)
says_payment said purchase own Full at = (at.kind, at.number_is, at.amount_is, at.mac_is, at.how_is)

length-text_of : (own : Code) (settlement : Settlement Code) → length (text_of own settlement) ≡ 2
unfolding text_of
length-text_of own (Kept code) = length-code_text code
length-text_of own (KnownAgain code) = length-code_text code
length-text_of own Used = length-code_text own
length-text_of own Full = length-code_text own

-- what is marked in the bytes of a payment is said by them
pub payment_said : SerialLaws → (purchase : Purchase) (own : Code) (settlement : Settlement Code) → IsSerial purchase.number → purchase.amount < 2 ^ 32
    → length purchase.mac ≡ 8 → SaysSettled (marked (settled.Payment purchase settlement) (padded (candidate_bytes (candidate.Payment purchase own)))) (settled.Payment purchase settlement)
payment_said laws purchase own settlement serial fits eight =
    let text : List ℕ = text_of own settlement in
    let behind : List ℕ = zeros_behind (candidate_bytes (candidate.Payment purchase own)) in
    subst (λ said. SaysSettled said (settled.Payment purchase settlement)) (sym (marked_payment laws purchase own settlement))
    (says_payment (payment_form (settlement_byte settlement) purchase text behind) purchase own settlement
    (payment_places laws (settlement_byte settlement) purchase text behind serial fits eight (length-text_of own settlement)))

-- a payment that is kept has its own code, which stands there already
pub own_code : SerialLaws → (purchase : Purchase) (code : Code)
    → marked (settled.Payment purchase (Kept code)) (padded (candidate_bytes (candidate.Payment purchase code)))
    ≡ with_at 1 (1 ∷ []) (padded (candidate_bytes (candidate.Payment purchase code)))
own_code laws purchase code =
    let behind : List ℕ = zeros_behind (candidate_bytes (candidate.Payment purchase code)) in
    let same = padded_payment purchase code in
    ap (with_at 1 (1 ∷ []))
    (ap (with_at 16 (code_text code)) same
    ∙ put_code laws purchase (code_text code) (code_text code) behind (length-code_text code) (length-code_text code)
    ∙ sym same)

-- ---- a reversal

-- the bytes of a reversal, with a byte of what it found and this behind them
reversal_form : ℕ → Reversal → ℕ → List ℕ → List ℕ
reversal_form how reversal state behind =
    2 ∷ how ∷ (serial_bytes reversal.numbers.ksn ++ (serial_bytes reversal.numbers.reversed ++ (reversal.mac ++ (state ∷ behind))))

-- what stands where in the bytes of a reversal
record ReversalPlaces (said : List ℕ) (how : ℕ) (reversal : Reversal) (state : ℕ) : Type 0 where
  kind : slice_index_or said 0 0 ≡ 2
  how_is : slice_index_or said 1 0 ≡ how
  ksn_is : reversal.numbers.ksn ≡ serial_of_bytes (take 10 (drop 2 said))
  reversed_is : reversal.numbers.reversed ≡ serial_of_bytes (take 10 (drop 12 said))
  mac_is : reversal.mac ≡ take 8 (drop 22 said)
  state_is : state ≡ slice_index_or said 30 0

reversal_places : SerialLaws → (how : ℕ) (reversal : Reversal) (state : ℕ) (behind : List ℕ) → AreNumbers reversal.numbers → length reversal.mac ≡ 8
    → ReversalPlaces (reversal_form how reversal state behind) how reversal state
unfolding reversal_form
reversal_places laws how reversal state behind are eight =
    let number : List ℕ = serial_bytes reversal.numbers.ksn in
    let other : List ℕ = serial_bytes reversal.numbers.reversed in
    let mac = reversal.mac in
    let ten : length number ≡ 10 = laws.ten reversal.numbers.ksn in
    let also : length other ≡ 10 = laws.ten reversal.numbers.reversed in
    let rest : List ℕ = state ∷ behind in
    let whole : List ℕ = number ++ (other ++ (mac ++ rest)) in
    let at_mac : whole ≡ (number ++ other) ++ (mac ++ rest) = simp append_assoc in
    let at_state : whole ≡ ((number ++ other) ++ mac) ++ (state ∷ behind) = simp append_assoc in
    record {
      kind = refl;
      how_is = refl;
      ksn_is = sym (ap serial_of_bytes (take_at number (other ++ (mac ++ rest)) 10 ten) ∙ laws.found reversal.numbers.ksn are.ksn_is);
      reversed_is = sym (ap serial_of_bytes (part_behind 10 10 whole number other (mac ++ rest) refl ten also) ∙ laws.found reversal.numbers.reversed are.reversed_is);
      mac_is = sym (part_behind 20 8 whole (number ++ other) mac rest at_mac (omega (arith, ten, also, length-append number other)) eight);
      state_is = sym (ap (λ whole. get_or whole 28 0) at_state
          ∙ get_or_at ((number ++ other) ++ mac) state behind 0 28 (omega (arith, ten, also, eight, length-append (number ++ other) mac, length-append number other)));
    }

padded_reversal : SerialLaws → (reversal : Reversal) → length reversal.mac ≡ 8
    → padded (candidate_bytes (candidate.Reversal reversal)) ≡ reversal_form 0 reversal 0 (drop 31 (replicate 64 0))
unfolding reversal_form
padded_reversal laws reversal eight =
    let number : List ℕ = serial_bytes reversal.numbers.ksn in
    let other : List ℕ = serial_bytes reversal.numbers.reversed in
    let bytes : List ℕ = candidate_bytes (candidate.Reversal reversal) in
    let size : length bytes ≡ 30 =
    omega (arith, laws.ten reversal.numbers.ksn, laws.ten reversal.numbers.reversed, eight, length-append (number ++ other) reversal.mac, length-append number other) in
    let zeros : List ℕ = drop 31 (replicate 64 0) in
    let behind : drop (length bytes) (replicate 64 0) ≡ 0 ∷ zeros = ap (λ n. drop n (replicate 64 0)) size in
    let grouped : bytes ++ (0 ∷ zeros) ≡ reversal_form 0 reversal 0 zeros = simp append_assoc in
    ap (λ rest. bytes ++ rest) behind ∙ grouped

put_state : SerialLaws → (reversal : Reversal) (state : ℕ) (behind : List ℕ) → length reversal.mac ≡ 8
    → with_at 30 (state ∷ []) (reversal_form 0 reversal 0 behind) ≡ reversal_form 0 reversal state behind
unfolding reversal_form
put_state laws reversal state behind eight =
    let number : List ℕ = serial_bytes reversal.numbers.ksn in
    let other : List ℕ = serial_bytes reversal.numbers.reversed in
    let front : List ℕ = 2 ∷ 0 ∷ ((number ++ other) ++ reversal.mac) in
    let before : reversal_form 0 reversal 0 behind ≡ front ++ ((0 ∷ []) ++ behind) = simp append_assoc in
    let after : reversal_form 0 reversal state behind ≡ front ++ ((state ∷ []) ++ behind) = simp append_assoc in
    ap (with_at 30 (state ∷ [])) before
    ∙ put_between 30 front (state ∷ []) (0 ∷ []) behind
    (omega (arith, laws.ten reversal.numbers.ksn, laws.ten reversal.numbers.reversed, eight, length-append (number ++ other) reversal.mac, length-append number other)) refl
    ∙ sym after

-- the byte behind a reversal, once it is marked
state_of : Settlement ReversalState → ℕ
state_of (Kept state) = state_byte state
state_of (KnownAgain state) = state_byte state
state_of Used = 0
state_of Full = 0

marked_reversal : SerialLaws → (reversal : Reversal) (settlement : Settlement ReversalState) → length reversal.mac ≡ 8
    → marked_at 30 (λ state. state_byte state ∷ []) settlement (padded (candidate_bytes (candidate.Reversal reversal)))
    ≡ reversal_form (settlement_byte settlement) reversal (state_of settlement) (drop 31 (replicate 64 0))
unfolding reversal_form settlement_byte state_of
marked_reversal laws reversal (Kept state) eight =
    ap (λ bytes. with_at 1 (1 ∷ []) (with_at 30 (state_byte state ∷ []) bytes)) (padded_reversal laws reversal eight)
    ∙ ap (with_at 1 (1 ∷ [])) (put_state laws reversal (state_byte state) (drop 31 (replicate 64 0)) eight)
marked_reversal laws reversal (KnownAgain state) eight =
    ap (λ bytes. with_at 1 (2 ∷ []) (with_at 30 (state_byte state ∷ []) bytes)) (padded_reversal laws reversal eight)
    ∙ ap (with_at 1 (2 ∷ [])) (put_state laws reversal (state_byte state) (drop 31 (replicate 64 0)) eight)
marked_reversal laws reversal Used eight = ap (with_at 1 (3 ∷ [])) (padded_reversal laws reversal eight)
marked_reversal laws reversal Full eight = ap (with_at 1 (4 ∷ [])) (padded_reversal laws reversal eight)

says_reversal : (said : List ℕ) (reversal : Reversal) (settlement : Settlement ReversalState) → AreNumbers reversal.numbers
    → ReversalPlaces said (settlement_byte settlement) reversal (state_of settlement) → SaysSettled said (settled.Reversal reversal settlement)
unfolding settlement_byte state_of
says_reversal said reversal (Kept state) are at = (at.kind, are, at.ksn_is, at.reversed_is, at.mac_is, (at.how_is, at.state_is))
says_reversal said reversal (KnownAgain state) are at = (at.kind, are, at.ksn_is, at.reversed_is, at.mac_is, (at.how_is, at.state_is))
says_reversal said reversal Used are at = (at.kind, are, at.ksn_is, at.reversed_is, at.mac_is, at.how_is)
says_reversal said reversal Full are at = (at.kind, are, at.ksn_is, at.reversed_is, at.mac_is, at.how_is)

-- what is marked in the bytes of a reversal is said by them
pub reversal_said : SerialLaws → (reversal : Reversal) (settlement : Settlement ReversalState) → AreNumbers reversal.numbers → length reversal.mac ≡ 8
    → SaysSettled (marked (settled.Reversal reversal settlement) (padded (candidate_bytes (candidate.Reversal reversal)))) (settled.Reversal reversal settlement)
reversal_said laws reversal settlement are eight =
    let behind : List ℕ = drop 31 (replicate 64 0) in
    subst (λ said. SaysSettled said (settled.Reversal reversal settlement)) (sym (marked_reversal laws reversal settlement eight))
    (says_reversal (reversal_form (settlement_byte settlement) reversal (state_of settlement) behind) reversal settlement are
    (reversal_places laws (settlement_byte settlement) reversal (state_of settlement) behind are eight))

-- ---- bytes say one thing at most

-- the code of two digits
code_at : List ℕ → Code
code_at digits =
    if get_or digits 0 0 == 48 then Approved
    else (if get_or digits 0 0 == 49 then NoCard
    else (if get_or digits 0 0 == 51 then Unreadable
    else (if get_or digits 1 0 == 53 then WrongPin else OverLimit)))

code_at-text : (code : Code) → code_at (code_text code) ≡ code
unfolding code_at
code_at-text Approved = refl
code_at-text NoCard = refl
code_at-text WrongPin = refl
code_at-text OverLimit = refl
code_at-text Unreadable = refl

same_code : (digits : List ℕ) (one other : Code) → code_text one ≡ digits → code_text other ≡ digits → one ≡ other
same_code digits one other is also = sym (code_at-text one) ∙ ap code_at (is ∙ sym also) ∙ code_at-text other

same_state : (byte : ℕ) (one other : ReversalState) → state_byte one ≡ byte → state_byte other ≡ byte → one ≡ other
same_state byte Undone Undone is also = refl
same_state byte Undone NoneStands is also = absurd (omega arith)
same_state byte NoneStands Undone is also = absurd (omega arith)
same_state byte NoneStands NoneStands is also = refl

one_settlement : {T : Type 0} (said : ℕ) (Is : T → Type 0) → ((one other : T) → Is one → Is other → one ≡ other)
    → (one other : Settlement T) → IsSaid said Is one → IsSaid said Is other → one ≡ other
one_settlement said Is same (Kept one) (Kept other) is also = ap Kept (same one other is.1 also.1)
one_settlement said Is same (KnownAgain one) (KnownAgain other) is also = ap KnownAgain (same one other is.1 also.1)
one_settlement said Is same Used Used is also = refl
one_settlement said Is same Full Full is also = refl
one_settlement said Is same (Kept one) (KnownAgain other) is also = absurd (omega (arith, is.0, also.0))
one_settlement said Is same (Kept one) Used is also = absurd (omega (arith, is.0, also))
one_settlement said Is same (Kept one) Full is also = absurd (omega (arith, is.0, also))
one_settlement said Is same (KnownAgain one) (Kept other) is also = absurd (omega (arith, is.0, also.0))
one_settlement said Is same (KnownAgain one) Used is also = absurd (omega (arith, is.0, also))
one_settlement said Is same (KnownAgain one) Full is also = absurd (omega (arith, is.0, also))
one_settlement said Is same Used (Kept other) is also = absurd (omega (arith, is, also.0))
one_settlement said Is same Used (KnownAgain other) is also = absurd (omega (arith, is, also.0))
one_settlement said Is same Used Full is also = absurd (omega (arith, is, also))
one_settlement said Is same Full (Kept other) is also = absurd (omega (arith, is, also.0))
one_settlement said Is same Full (KnownAgain other) is also = absurd (omega (arith, is, also.0))
one_settlement said Is same Full Used is also = absurd (omega (arith, is, also))

same_purchase : (one other : Purchase) → one.number ≡ other.number → one.amount ≡ other.amount → one.mac ≡ other.mac → one ≡ other
same_purchase one other number amount mac =
    ap (λ number. record { number = number; amount = one.amount; mac = one.mac }) number
    ∙ ap (λ amount. record { number = other.number; amount = amount; mac = one.mac }) amount
    ∙ ap (λ mac. record { number = other.number; amount = other.amount; mac = mac }) mac

same_reversal : (one other : Reversal) → one.numbers.ksn ≡ other.numbers.ksn → one.numbers.reversed ≡ other.numbers.reversed → one.mac ≡ other.mac → one ≡ other
same_reversal one other ksn reversed mac =
    ap (λ ksn. record { numbers = record { ksn = ksn; reversed = one.numbers.reversed }; mac = one.mac }) ksn
    ∙ ap (λ reversed. record { numbers = record { ksn = other.numbers.ksn; reversed = reversed }; mac = one.mac }) reversed
    ∙ ap (λ mac. record { numbers = other.numbers; mac = mac }) mac

pub one_reading : (said : List ℕ) (one other : Settled) → SaysSettled said one → SaysSettled said other → one ≡ other
one_reading said (settled.Payment one settlement) (settled.Payment other again) is also =
    let purchase : one ≡ other = same_purchase one other (is.1 ∙ sym also.1) (is.2 ∙ sym also.2) (is.3 ∙ sym also.3) in
    let settlements : settlement ≡ again =
    one_settlement (slice_index_or said 1 0) (λ code. code_text code ≡ take 2 (drop 16 said)) (same_code (take 2 (drop 16 said))) settlement again is.4 also.4 in
    cc
one_reading said (settled.Reversal one settlement) (settled.Reversal other again) is also =
    let reversal : one ≡ other = same_reversal one other (is.2 ∙ sym also.2) (is.3 ∙ sym also.3) (is.4 ∙ sym also.4) in
    let settlements : settlement ≡ again =
    one_settlement (slice_index_or said 1 0) (λ state. state_byte state ≡ slice_index_or said 30 0) (same_state (slice_index_or said 30 0)) settlement again is.5 also.5 in
    cc
one_reading said (settled.Payment one settlement) (settled.Reversal other again) is also = absurd (omega (arith, is.0, also.0))
one_reading said (settled.Reversal one settlement) (settled.Payment other again) is also = absurd (omega (arith, is.0, also.0))
