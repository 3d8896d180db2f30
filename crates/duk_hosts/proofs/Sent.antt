-- What the frames say that a till sent and took, and what is known of a purchase by them.
use Rattle.std.proofs.Common.{◌≡◌, ◌≢◌, ◌⊎◌, ◌++◌, ◌∷◌, [], ℕ, List, Contains, inl, inr, refl, ap, subst, ◌∙◌}
use Rattle.std.proofs.lemmas.List.Elements.{Contains-append_right}
use Rattle.duk_frame.specs.Answer.{IsReply}
use Rattle.duk_frame.specs.Request.{IsRequest}
use Rattle.duk_frame.specs.declared.code.Code.{Code}
use Rattle.duk_frame.specs.declared.code.Code.TheVariants as code
use Rattle.duk_frame.specs.declared.request.Request.{Request}
use Rattle.duk_reversal.specs.Reply.{IsReversalReply}
use Rattle.duk_reversal.specs.Reversal.{IsReversal}
use Rattle.duk_reversal.specs.declared.reply.ReversalReply as reply_frame
use Rattle.duk_reversal.specs.declared.reversal.Reversal as reversal_frame
use Rattle.duk_till.specs.Lifetime.{Call}
use Rattle.duk_till.specs.declared.last.Last.{Last}
use Rattle.duk_till.specs.declared.last.Last.TheVariants.{Open, Approved, Declined, Undone}
use Rattle.duk_tree.specs.Serial.{Serial}
use Rattle.duk_hosts.specs.Tills.{all_sent, all_taken, sent_by, taken_by}
use Rattle.duk_hosts.proofs.Members.{front_or}

-- ---- what frames say

-- one is a request of this number, for this amount
pub record IsAsked (frames : List (List ℕ)) (ksn : Serial) (amount : ℕ) : Type 0 where
  pub frame : List ℕ
  pub request : Request
  pub sent : Contains frames frame
  pub is_request : IsRequest frame request
  pub ksn_is : request.ksn ≡ ksn
  pub amount_is : request.amount ≡ amount

-- one is a reversal of this number
pub record IsCalledBack (frames : List (List ℕ)) (ksn : Serial) : Type 0 where
  pub frame : List ℕ
  pub reversal : reversal_frame.Reversal
  pub sent : Contains frames frame
  pub is_reversal : IsReversal frame reversal
  pub reversed_is : reversal.numbers.reversed ≡ ksn

-- one is a reply to this number, with this code
pub record IsReplied (frames : List (List ℕ)) (ksn : Serial) (why : Code) : Type 0 where
  pub frame : List ℕ
  pub mac : List ℕ
  pub taken : Contains frames frame
  pub reply : IsReply frame ksn why mac

-- one is a reply to a reversal of this number
pub record IsUndoneBy (frames : List (List ℕ)) (ksn : Serial) : Type 0 where
  pub frame : List ℕ
  pub reply : reply_frame.ReversalReply
  pub taken : Contains frames frame
  pub is_reply : IsReversalReply frame reply
  pub reversed_is : reply.numbers.reversed ≡ ksn

-- how frames are read
pub record FrameLaws : Type 0 where
  pub one_request : (bytes : List ℕ) (one other : Request) → IsRequest bytes one → IsRequest bytes other → one ≡ other
  pub one_reversal : (bytes : List ℕ) (one other : reversal_frame.Reversal) → IsReversal bytes one → IsReversal bytes other → one ≡ other
  pub apart : (bytes : List ℕ) (request : Request) (reversal : reversal_frame.Reversal) → IsRequest bytes request → ¬ IsReversal bytes reversal

-- ---- what is known of a purchase

-- what was told of a purchase, or what the second cell may keep of it, is so by the frames that were taken;
-- and an approved one was not called back
abbrev pub IsKnown : List Call → Last → Type 0
IsKnown calls (Open ksn amount) = Unit {0}
IsKnown calls (Approved ksn amount) = IsReplied (all_taken calls) ksn code.Approved × (¬ IsCalledBack (all_sent calls) ksn)
IsKnown calls (Declined ksn why) = (why ≢ code.Approved) × IsReplied (all_taken calls) ksn why
IsKnown calls (Undone ksn) = IsUndoneBy (all_taken calls) ksn

-- what became of it is known
abbrev pub IsClosed : Last → Type 0
IsClosed (Open ksn amount) = ⊥
IsClosed _ = Unit {0}

-- ---- with one more call

-- what was taken stays
pub replied_on : (call : Call) (calls : List Call) (ksn : Serial) (why : Code) → IsReplied (all_taken calls) ksn why → IsReplied (all_taken (call ∷ calls)) ksn why
replied_on call calls ksn why is = record { frame = is.frame; mac = is.mac; taken = Contains-append_right (taken_by call) (all_taken calls) is.frame is.taken; reply = is.reply }

pub undone_on : (call : Call) (calls : List Call) (ksn : Serial) → IsUndoneBy (all_taken calls) ksn → IsUndoneBy (all_taken (call ∷ calls)) ksn
undone_on call calls ksn is =
    record { frame = is.frame; reply = is.reply; taken = Contains-append_right (taken_by call) (all_taken calls) is.frame is.taken; is_reply = is.is_reply; reversed_is = is.reversed_is }

-- what is known stays known where what was approved is not called back
pub known_on : (call : Call) (calls : List Call) (last : Last) → ((ksn : Serial) (amount : ℕ) → last ≡ Approved ksn amount → IsCalledBack (all_sent (call ∷ calls)) ksn → IsCalledBack (all_sent calls) ksn)
    → IsKnown calls last → IsKnown (call ∷ calls) last
known_on call calls (Open ksn amount) back known = tt
known_on call calls (Approved ksn amount) back known = (replied_on call calls ksn code.Approved known.0, λ now. known.1 (back ksn amount refl now))
known_on call calls (Declined ksn why) back known = (known.0, replied_on call calls ksn why known.1)
known_on call calls (Undone ksn) back known = undone_on call calls ksn known

-- a call that sends nothing
sent_before : (call : Call) (calls : List Call) (frame : List ℕ) → sent_by call ≡ [] → Contains (all_sent (call ∷ calls)) frame → Contains (all_sent calls) frame
sent_before call calls frame none is_in = subst (λ (sent : List (List ℕ)). Contains (sent ++ all_sent calls) frame) none is_in

pub asked_before : (call : Call) (calls : List Call) (ksn : Serial) (amount : ℕ) → sent_by call ≡ [] → IsAsked (all_sent (call ∷ calls)) ksn amount → IsAsked (all_sent calls) ksn amount
asked_before call calls ksn amount none is = record {
  frame = is.frame;
  request = is.request;
  sent = sent_before call calls is.frame none is.sent;
  is_request = is.is_request;
  ksn_is = is.ksn_is;
  amount_is = is.amount_is;
}

pub back_before : (call : Call) (calls : List Call) (ksn : Serial) → sent_by call ≡ [] → IsCalledBack (all_sent (call ∷ calls)) ksn → IsCalledBack (all_sent calls) ksn
back_before call calls ksn none is = record { frame = is.frame; reversal = is.reversal; sent = sent_before call calls is.frame none is.sent; is_reversal = is.is_reversal; reversed_is = is.reversed_is }

-- ---- a call that sends a frame

module _ (laws : FrameLaws) (call : Call) (calls : List Call) (frame : List ℕ) (sends : sent_by call ≡ frame ∷ []) where
  sent_or_now : (other : List ℕ) → Contains (all_sent (call ∷ calls)) other → (other ≡ frame) ⊎ Contains (all_sent calls) other
  sent_or_now other is_in = front_or frame (all_sent calls) other (subst (λ (sent : List (List ℕ)). Contains (sent ++ all_sent calls) other) sends is_in)

  -- a request
  pub asked_or_now : (request : Request) (ksn : Serial) (amount : ℕ) → IsRequest frame request → IsAsked (all_sent (call ∷ calls)) ksn amount
      → IsAsked (all_sent calls) ksn amount ⊎ ((request.ksn ≡ ksn) × (request.amount ≡ amount))
  asked_or_now request ksn amount is_request is = elim (sent_or_now is.frame is.sent) [
    | inl here ↦
        let same = laws.one_request frame request is.request is_request (subst (λ (it : List ℕ). IsRequest it is.request) here is.is_request) in
        inr (ap (λ (it : Request). it.ksn) same ∙ is.ksn_is, ap (λ (it : Request). it.amount) same ∙ is.amount_is)
    | inr before ↦ inl (record { frame = is.frame; request = is.request; sent = before; is_request = is.is_request; ksn_is = is.ksn_is; amount_is = is.amount_is })
  ]

  pub back_by_no_request : (request : Request) (ksn : Serial) → IsRequest frame request → IsCalledBack (all_sent (call ∷ calls)) ksn → IsCalledBack (all_sent calls) ksn
  back_by_no_request request ksn is_request is = elim (sent_or_now is.frame is.sent) [
    | inl here ↦ absurd (laws.apart frame request is.reversal is_request (subst (λ (it : List ℕ). IsReversal it is.reversal) here is.is_reversal))
    | inr before ↦ record { frame = is.frame; reversal = is.reversal; sent = before; is_reversal = is.is_reversal; reversed_is = is.reversed_is }
  ]

  -- a reversal
  pub back_or_now : (reversal : reversal_frame.Reversal) (ksn : Serial) → IsReversal frame reversal → IsCalledBack (all_sent (call ∷ calls)) ksn
      → IsCalledBack (all_sent calls) ksn ⊎ (reversal.numbers.reversed ≡ ksn)
  back_or_now reversal ksn is_reversal is = elim (sent_or_now is.frame is.sent) [
    | inl here ↦
        let same = laws.one_reversal frame reversal is.reversal is_reversal (subst (λ (it : List ℕ). IsReversal it is.reversal) here is.is_reversal) in
        inr (ap (λ (it : reversal_frame.Reversal). it.numbers.reversed) same ∙ is.reversed_is)
    | inr before ↦ inl (record { frame = is.frame; reversal = is.reversal; sent = before; is_reversal = is.is_reversal; reversed_is = is.reversed_is })
  ]

  pub asked_by_no_reversal : (reversal : reversal_frame.Reversal) (ksn : Serial) (amount : ℕ) → IsReversal frame reversal → IsAsked (all_sent (call ∷ calls)) ksn amount → IsAsked (all_sent calls) ksn amount
  asked_by_no_reversal reversal ksn amount is_reversal is = elim (sent_or_now is.frame is.sent) [
    | inl here ↦ absurd (laws.apart frame is.request reversal (subst (λ (it : List ℕ). IsRequest it is.request) here is.is_request) is_reversal)
    | inr before ↦ record { frame = is.frame; request = is.request; sent = before; is_request = is.is_request; ksn_is = is.ksn_is; amount_is = is.amount_is }
  ]
