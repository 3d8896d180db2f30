-- Frames of answers, each at the begin of 64 bytes.
use Rattle.std.proofs.Common.{◌≡◌, ◌≤◌, ◌+◌, ◌∙◌, ◌∷◌, ◌++◌, ℕ, List, [], ap, arith, drop, inl, inr, length, length-append, refl, replicate, slice_index_or, subst, sym, take}
use Rattle.std.proofs.lemmas.List.{append_assoc, length-replicate, take_at}
use Rattle.byteorder.specs.Endian.{big_bytes, big_number}
use Rattle.byteorder.specs.Numbers.{big_number-reads_back, length-bytes_high_first}
use Rattle.duk_frame.specs.Answer.{refusal_text, reply_text}
use Rattle.duk_frame.specs.Code.{code_text}
use Rattle.duk_frame.specs.Frame.{framed}
use Rattle.duk_frame.specs.Stream.{IsFrame, said_length}
use Rattle.duk_frame.specs.declared.code.Code.{Code}
use Rattle.duk_host.specs.Judgement.{IsRefusalFor, IsReplyWith, JudgementBasis, reason_number}
use Rattle.duk_hsm.specs.Keys.{HsmKeys}
use Rattle.duk_journal_host.specs.Judgement.{IsReversalReplyWith, IsSettled, LineBasis, without_repeats}
use Rattle.duk_journal_host.specs.Steps.{IsAnswerOf}
use Rattle.duk_journal_host.specs.declared.settlement.Settled.{Settled}
use Rattle.duk_journal_host.specs.declared.settlement.Settled.TheVariants as settled
use Rattle.duk_journal_host.specs.declared.settlement.Settlement.TheVariants.{Full, Kept, KnownAgain, Used}
use Rattle.duk_mac.specs.Retail.{retail_of}
use Rattle.duk_reversal.specs.Numbers.{Numbers}
use Rattle.duk_reversal.specs.Reply.{reversal_reply_text}
use Rattle.duk_reversal.specs.State.{state_byte}
use Rattle.duk_reversal.specs.declared.state.ReversalState.{ReversalState}
use Rattle.duk_tree.specs.Derivation.{response_key_of}
use Rattle.duk_tree.specs.Serial.{Serial, serial_bytes}
use Rattle.duk_calls.specs.Hosts.{padded}
use Rattle.duk_calls.specs.Requests.{front_frame}
use Rattle.duk_calls.proofs.Marked.{length-code_text}

-- ---- at the begin of 64 bytes

front_of : (contents : List ℕ) → length contents ≤ 62 → front_frame (padded (framed contents)) ≡ framed contents
front_of contents short =
    let size : List ℕ = big_bytes 2 (length contents) in
    let behind : List ℕ = drop (length (framed contents)) (replicate 64 0) in
    let said : said_length (framed contents ++ behind) ≡ length contents =
    ap (big_number 2) (append_assoc size contents behind)
    ∙ big_number-reads_back 2 (length contents) (contents ++ behind) (omega (arith, short)) in
    let long : length (framed contents) ≡ 2 + length contents = omega (arith, length-append size contents, length-bytes_high_first 2 (length contents)) in
    ap (λ n. take (2 + n) (framed contents ++ behind)) said
    ∙ take_at (framed contents) behind (2 + length contents) long

-- the frame with which they begin is the one that stands there
pub front_of_frame : (frame : List ℕ) → IsFrame frame → front_frame (padded frame) ≡ frame
front_of_frame frame is =
    subst (λ frame. front_frame (padded frame) ≡ frame) (sym is.laid_out) (front_of is.contents is.short)

-- and the first byte is a zero
pub begins_with_zero : (frame : List ℕ) → IsFrame frame → slice_index_or (padded frame) 0 0 ≡ 0
begins_with_zero frame is =
    subst (λ frame. slice_index_or (padded frame) 0 0 ≡ 0) (sym is.laid_out) (first is.contents is.short)
  where
    first : (contents : List ℕ) → length contents ≤ 62 → slice_index_or (padded (framed contents)) 0 0 ≡ 0
    first contents short = omega (arith, short)

-- ---- answers are frames

-- what is known of texts and MACs
pub record TextLaws : Type 0 where
  pub ten : (serial : Serial) → length (serial_bytes serial) ≡ 10
  pub mac : (key message : List ℕ) → length (retail_of key message) ≡ 8

reply_is_frame : TextLaws → (keys : HsmKeys) (number : Serial) (code : Code) (frame : List ℕ) → IsReplyWith keys number code frame → IsFrame frame
reply_is_frame laws keys number code frame reply =
    let text : List ℕ = reply_text number code in
    let mac : List ℕ = retail_of (response_key_of reply.key) text in
    let eight : length mac ≡ 8 = laws.mac (response_key_of reply.key) text in
    record {
      contents = text ++ mac;
      short = omega (arith, eight, laws.ten number, length-code_text code, length-append text mac, length-append (serial_bytes number) (code_text code));
      laid_out = reply.frame_is;
    }

reversal_reply_is_frame : TextLaws → (keys : HsmKeys) (numbers : Numbers) (state : ReversalState) (frame : List ℕ)
    → IsReversalReplyWith keys numbers state frame → IsFrame frame
reversal_reply_is_frame laws keys numbers state frame reply =
    let text : List ℕ = reversal_reply_text numbers state in
    let mac : List ℕ = retail_of (response_key_of reply.key) text in
    let number : List ℕ = serial_bytes numbers.ksn in
    let other : List ℕ = serial_bytes numbers.reversed in
    let eight : length mac ≡ 8 = laws.mac (response_key_of reply.key) text in
    record {
      contents = text ++ mac;
      short = omega (arith, eight, laws.ten numbers.ksn, laws.ten numbers.reversed, length-append text mac, length-append (number ++ other) (state_byte state ∷ []), length-append number other);
      laid_out = reply.frame_is;
    }

-- a refusal of ten bytes is a frame
refusal_is_frame : (number : List ℕ) (byte : ℕ) → length number ≡ 10 → IsFrame (framed (refusal_text number byte))
refusal_is_frame number byte ten =
    record { contents = refusal_text number byte; short = omega (arith, ten, length-append number (byte ∷ [])); laid_out = refl }

refused_is_frame : TextLaws → (number : Serial) (byte : ℕ) (frame : List ℕ) → frame ≡ framed (refusal_text (serial_bytes number) byte) → IsFrame frame
refused_is_frame laws number byte frame is =
    subst IsFrame (sym is) (refusal_is_frame (serial_bytes number) byte (laws.ten number))

-- the answer to what was settled is a frame
pub answer_is_frame : TextLaws → (keys : HsmKeys) (settled : Settled) (frame : List ℕ) → IsAnswerOf keys settled frame → IsFrame frame
answer_is_frame laws keys (settled.Payment purchase (Kept code)) frame is = reply_is_frame laws keys purchase.number code frame is
answer_is_frame laws keys (settled.Payment purchase (KnownAgain code)) frame is = reply_is_frame laws keys purchase.number code frame is
answer_is_frame laws keys (settled.Payment purchase Used) frame is = refused_is_frame laws purchase.number 5 frame is
answer_is_frame laws keys (settled.Payment purchase Full) frame is = refused_is_frame laws purchase.number 6 frame is
answer_is_frame laws keys (settled.Reversal reversal (Kept state)) frame is = reversal_reply_is_frame laws keys reversal.numbers state frame is
answer_is_frame laws keys (settled.Reversal reversal (KnownAgain state)) frame is = reversal_reply_is_frame laws keys reversal.numbers state frame is
answer_is_frame laws keys (settled.Reversal reversal Used) frame is = refused_is_frame laws reversal.numbers.ksn 5 frame is
answer_is_frame laws keys (settled.Reversal reversal Full) frame is = refused_is_frame laws reversal.numbers.ksn 6 frame is

refusal_for : TextLaws → (basis : JudgementBasis) (bytes frame : List ℕ) → IsRefusalFor basis bytes frame → IsFrame frame
refusal_for laws basis bytes frame (inl malformed) =
    subst IsFrame (sym malformed.frame_is) (refusal_is_frame (replicate 10 0) 1 (length-replicate {A = ℕ} 10 0))
refusal_for laws basis bytes frame (inr refused) =
    refused_is_frame laws refused.request.ksn (reason_number refused.reason) frame refused.frame_is

-- so is the answer to what nothing is kept of
pub settled_is_frame : TextLaws → (basis : LineBasis) (bytes frame : List ℕ) → IsSettled basis bytes frame → IsFrame frame
settled_is_frame laws basis bytes frame (inl (inl refused)) = refusal_for laws (without_repeats basis) bytes frame refused.refusal
settled_is_frame laws basis bytes frame (inl (inr again)) = reply_is_frame laws basis.keys again.request.ksn again.code frame again.reply
settled_is_frame laws basis bytes frame (inr (inl refused)) = refused_is_frame laws refused.reversal.numbers.ksn (reason_number refused.why) frame refused.frame_is
settled_is_frame laws basis bytes frame (inr (inr again)) = reversal_reply_is_frame laws basis.keys again.reversal.numbers again.state frame again.reply
