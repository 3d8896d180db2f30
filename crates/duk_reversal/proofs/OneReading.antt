-- A frame of a reversal has one reading, and none of a payment.
use Rattle.std.proofs.Common.{◌≡◌, ℕ, List, ◌∷◌, Some, drop, get_or, refl, sym, ap, ◌∙◌, arith}
use Rattle.duk_frame.specs.Answer.{IsAnswer}
use Rattle.duk_frame.specs.Frame.{framed}
use Rattle.duk_frame.specs.Request.{IsRequest}
use Rattle.duk_frame.specs.declared.answer.AnswerFrame.{AnswerFrame}
use Rattle.duk_frame.specs.declared.answer.AnswerFrame.TheVariants.{Reply, Refusal}
use Rattle.duk_frame.specs.declared.request.Request.{Request}
use Rattle.duk_reversal.specs.Numbers.{Numbers}
use Rattle.duk_reversal.specs.Reply.{IsReversalReply}
use Rattle.duk_reversal.specs.Reversal.{IsReversal}
use Rattle.duk_reversal.specs.State.{state_byte}
use Rattle.duk_reversal.specs.declared.reply.ReversalReply.{ReversalReply}
use Rattle.duk_reversal.specs.declared.reversal.Reversal.{Reversal}
use Rattle.duk_reversal.specs.declared.state.ReversalState.{ReversalState}
use Rattle.duk_reversal.specs.declared.state.ReversalState.TheVariants.{Undone, NoneStands}
use Rattle.duk_reversal.proofs.PlacesOfNumbers.{SerialLaws, reply_places, reversal_places, same_numbers}

-- reversals with the same fields are one
pub same_reversal : (numbers : Numbers) (mac : List ℕ) (reversal : Reversal) → Some numbers ≡ Some reversal.numbers → mac ≡ reversal.mac
    → record { numbers = numbers; mac = mac } ≡ reversal
same_reversal numbers mac reversal same mac_is =
    let numbers_are : numbers ≡ reversal.numbers = cc in
    ap (λ numbers. record { numbers = numbers; mac = mac }) numbers_are
    ∙ ap (λ mac. record { numbers = reversal.numbers; mac = mac }) mac_is

-- so are replies
pub same_reply : (numbers : Numbers) (state : ReversalState) (mac : List ℕ) (reply : ReversalReply)
    → Some numbers ≡ Some reply.numbers → Some state ≡ Some reply.state → mac ≡ reply.mac
    → record { numbers = numbers; state = state; mac = mac } ≡ reply
same_reply numbers state mac reply same same_state_is mac_is =
    let numbers_are : numbers ≡ reply.numbers = cc in
    let state_is : state ≡ reply.state = cc in
    ap (λ numbers. record { numbers = numbers; state = state; mac = mac }) numbers_are
    ∙ ap (λ state. record { numbers = reply.numbers; state = state; mac = mac }) state_is
    ∙ ap (λ mac. record { numbers = reply.numbers; state = reply.state; mac = mac }) mac_is

-- bytes are the frame of one reversal
pub one_reversal : SerialLaws → (bytes : List ℕ) (one other : Reversal) → IsReversal bytes one → IsReversal bytes other → one ≡ other
one_reversal laws bytes one other is also =
    let at = reversal_places laws bytes one is in
    let other_at = reversal_places laws bytes other also in
    let numbers : one.numbers ≡ other.numbers =
    same_numbers laws one.numbers other.numbers is.fields.numbers_are.ksn_is is.fields.numbers_are.reversed_is also.fields.numbers_are (sym at.numbers_are ∙ other_at.numbers_are) in
    ap (λ numbers. record { numbers = numbers; mac = one.mac }) numbers
    ∙ ap (λ mac. record { numbers = other.numbers; mac = mac }) (sym at.rest_is ∙ other_at.rest_is)

-- states of one byte are one
pub same_state : (one other : ReversalState) → state_byte one ≡ state_byte other → one ≡ other
same_state Undone Undone same = refl
same_state Undone NoneStands same = absurd (omega arith)
same_state NoneStands Undone same = absurd (omega arith)
same_state NoneStands NoneStands same = refl

-- bytes are the frame of one reply
pub one_reply : SerialLaws → (bytes : List ℕ) (one other : ReversalReply) → IsReversalReply bytes one → IsReversalReply bytes other → one ≡ other
one_reply laws bytes one other is also =
    let at = reply_places laws bytes one is in
    let other_at = reply_places laws bytes other also in
    let numbers : one.numbers ≡ other.numbers =
    same_numbers laws one.numbers other.numbers is.fields.numbers_are.ksn_is is.fields.numbers_are.reversed_is also.fields.numbers_are (sym at.numbers_are ∙ other_at.numbers_are) in
    let rests : state_byte one.state ∷ one.mac ≡ state_byte other.state ∷ other.mac = sym at.rest_is ∙ other_at.rest_is in
    let state : one.state ≡ other.state = same_state one.state other.state (ap (λ rest. get_or rest 0 0) rests) in
    let mac : one.mac ≡ other.mac = ap (drop 1) rests in
    ap (λ numbers. record { numbers = numbers; state = one.state; mac = one.mac }) numbers
    ∙ ap (λ state. record { numbers = other.numbers; state = state; mac = one.mac }) state
    ∙ ap (λ mac. record { numbers = other.numbers; state = other.state; mac = mac }) mac

-- the kind of a frame
kind_in : (bytes rest : List ℕ) (kind : ℕ) → bytes ≡ framed (1 ∷ kind ∷ rest) → get_or bytes 3 0 ≡ kind
kind_in bytes rest kind laid = ap (λ b. get_or b 3 0) laid

reversal_kind : (bytes : List ℕ) (reversal : Reversal) → IsReversal bytes reversal → get_or bytes 3 0 ≡ 4
reversal_kind bytes reversal is = kind_in bytes _ 4 is.laid_out

reply_kind : (bytes : List ℕ) (reply : ReversalReply) → IsReversalReply bytes reply → get_or bytes 3 0 ≡ 5
reply_kind bytes reply is = kind_in bytes _ 5 is.laid_out

pub apart : (bytes : List ℕ) (reversal : Reversal) (reply : ReversalReply) → IsReversal bytes reversal → ¬ IsReversalReply bytes reply
apart bytes reversal reply is also = omega (arith, reversal_kind bytes reversal is, reply_kind bytes reply also)

-- no request is one of them
pub apart_from_request : (bytes : List ℕ) (request : Request) → IsRequest bytes request
    → ((reversal : Reversal) → ¬ IsReversal bytes reversal) × ((reply : ReversalReply) → ¬ IsReversalReply bytes reply)
apart_from_request bytes request is =
    let kind : get_or bytes 3 0 ≡ 1 = kind_in bytes _ 1 is.laid_out in (
      λ reversal also. omega (arith, kind, reversal_kind bytes reversal also),
      λ reply also. omega (arith, kind, reply_kind bytes reply also),
    )

-- nor is an answer
pub apart_from_answer : (bytes : List ℕ) (answer : AnswerFrame) → IsAnswer bytes answer
    → ((reversal : Reversal) → ¬ IsReversal bytes reversal) × ((reply : ReversalReply) → ¬ IsReversalReply bytes reply)
apart_from_answer bytes (Reply ksn code mac) is =
    let kind : get_or bytes 3 0 ≡ 2 = kind_in bytes _ 2 is.laid_out in (
      λ reversal also. omega (arith, kind, reversal_kind bytes reversal also),
      λ reply also. omega (arith, kind, reply_kind bytes reply also),
    )
apart_from_answer bytes (Refusal ksn reason) is =
    let kind : get_or bytes 3 0 ≡ 3 = kind_in bytes _ 3 is.laid_out in (
      λ reversal also. omega (arith, kind, reversal_kind bytes reversal also),
      λ reply also. omega (arith, kind, reply_kind bytes reply also),
    )
