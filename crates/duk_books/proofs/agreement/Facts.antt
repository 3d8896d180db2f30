-- What the frames on the network say, and whom they are of.
use Rattle.std.proofs.Common.{◌≡◌, ◌⊎◌, ◌++◌, ◌∷◌, [], ℕ, zero, suc, List, Contains, inl, inr, refl, sym, ap, subst, ◌∙◌, arith}
use Rattle.std.proofs.lemmas.List.Elements.{Contains-append_cases, Contains-append_left, Contains-append_right}
use Rattle.duk_frame.specs.Answer.{IsReply}
use Rattle.duk_frame.specs.Request.{IsRequest}
use Rattle.duk_frame.specs.declared.code.Code.{Code}
use Rattle.duk_frame.specs.declared.request.Request.{Request}
use Rattle.duk_reversal.specs.Reply.{IsReversalReply}
use Rattle.duk_reversal.specs.Reversal.{IsReversal}
use Rattle.duk_reversal.specs.declared.reply.ReversalReply as reply_frame
use Rattle.duk_reversal.specs.declared.reversal.Reversal as reversal_frame
use Rattle.duk_till.specs.History.{payment_of}
use Rattle.duk_tree.specs.Serial.{Serial}
use Rattle.duk_books.specs.Books.{Frame}
use Rattle.duk_books.specs.Came.{IsAsked, IsReversedBy}
use Rattle.duk_stations.specs.Owner.{IsOwner}
use Rattle.duk_books.specs.Sales.{sale_of}
use Rattle.duk_stations.specs.declared.owner.Owner.{Owner}
use Rattle.duk_books.specs.declared.sales.Sale.{Sale}
use Rattle.duk_books.specs.inner.Known.{FrameLaws}

-- ---- members

pub none_in : {A : Type 0} (thing : A) → ¬ Contains [] thing
none_in thing (k, within, is) = omega (arith, within)

pub the_only : {A : Type 0} (thing other : A) → Contains (thing ∷ []) other → other ≡ thing
the_only thing other (zero, within, is) = sym is
the_only thing other (suc k, within, is) = absurd (omega (arith, within))

pub the_one : {A : Type 0} (thing : A) → Contains (thing ∷ []) thing
the_one thing = (0, omega arith, refl)

-- ---- frames

-- a reversal of this number was sent
pub record IsCalledBack (requests : List Frame) (ksn : Serial) : Type 0 where
  pub frame : Frame
  pub reversal : reversal_frame.Reversal
  pub sent : Contains requests frame
  pub is_reversal : IsReversal frame.items reversal
  pub reversed_is : reversal.numbers.reversed ≡ ksn

-- a reply to this number was given, with this code
pub record IsRepliedTo (answers : List Frame) (ksn : Serial) (code : Code) : Type 0 where
  pub frame : Frame
  pub mac : List ℕ
  pub sent : Contains answers frame
  pub reply : IsReply frame.items ksn code mac

-- a reply to a reversal of this number was given
pub record IsUndoneBy (answers : List Frame) (ksn : Serial) : Type 0 where
  pub frame : Frame
  pub reply : reply_frame.ReversalReply
  pub sent : Contains answers frame
  pub is_reply : IsReversalReply frame.items reply
  pub reversed_is : reply.numbers.reversed ≡ ksn

-- ---- more frames

pub asked_before : (requests added : List Frame) (ksn : Serial) (amount : ℕ) → IsAsked requests ksn amount → IsAsked (requests ++ added) ksn amount
asked_before requests added ksn amount is = record {
  frame = is.frame;
  request = is.request;
  sent = Contains-append_left requests added is.frame is.sent;
  is_request = is.is_request;
  ksn_is = is.ksn_is;
  amount_is = is.amount_is;
}

pub reversed_before : (requests added : List Frame) (ksn reversed : Serial) → IsReversedBy requests ksn reversed → IsReversedBy (requests ++ added) ksn reversed
reversed_before requests added ksn reversed is = record {
  frame = is.frame;
  reversal = is.reversal;
  sent = Contains-append_left requests added is.frame is.sent;
  is_reversal = is.is_reversal;
  ksn_is = is.ksn_is;
  reversed_is = is.reversed_is;
}

pub called_back_before : (requests added : List Frame) (ksn : Serial) → IsCalledBack requests ksn → IsCalledBack (requests ++ added) ksn
called_back_before requests added ksn is = record {
  frame = is.frame;
  reversal = is.reversal;
  sent = Contains-append_left requests added is.frame is.sent;
  is_reversal = is.is_reversal;
  reversed_is = is.reversed_is;
}

pub replied_before : (answers added : List Frame) (ksn : Serial) (code : Code) → IsRepliedTo answers ksn code → IsRepliedTo (answers ++ added) ksn code
replied_before answers added ksn code is = record { frame = is.frame; mac = is.mac; sent = Contains-append_left answers added is.frame is.sent; reply = is.reply }

pub undone_before : (answers added : List Frame) (ksn : Serial) → IsUndoneBy answers ksn → IsUndoneBy (answers ++ added) ksn
undone_before answers added ksn is =
    record { frame = is.frame; reply = is.reply; sent = Contains-append_left answers added is.frame is.sent; is_reply = is.is_reply; reversed_is = is.reversed_is }

-- a frame stands where it did, or is the one that was added
one_more : (frames : List Frame) (added frame : Frame) → Contains (frames ++ added ∷ []) frame → Contains frames frame ⊎ (frame ≡ added)
one_more frames added frame is_in = elim (Contains-append_cases frames (added ∷ []) frame is_in) [
  | inl before ↦ inl before
  | inr here ↦ inr (the_only added frame here)
]

module _ (laws : FrameLaws) (requests : List Frame) (added : Frame) where
  -- with a request added
  pub asked_or_added : (request : Request) (ksn : Serial) (amount : ℕ) → IsRequest added.items request → IsAsked (requests ++ added ∷ []) ksn amount
      → IsAsked requests ksn amount ⊎ ((request.ksn ≡ ksn) × (request.amount ≡ amount))
  asked_or_added request ksn amount is_request is = elim (one_more requests added is.frame is.sent) [
    | inl before ↦ inl (record { frame = is.frame; request = is.request; sent = before; is_request = is.is_request; ksn_is = is.ksn_is; amount_is = is.amount_is })
    | inr here ↦
        let same = laws.one_request added.items request is.request is_request (subst (λ (it : Frame). IsRequest it.items is.request) here is.is_request) in
        inr (ap (λ (it : Request). it.ksn) same ∙ is.ksn_is, ap (λ (it : Request). it.amount) same ∙ is.amount_is)
  ]

  pub not_called_back : (request : Request) (ksn : Serial) → IsRequest added.items request → IsCalledBack (requests ++ added ∷ []) ksn → IsCalledBack requests ksn
  not_called_back request ksn is_request is = elim (one_more requests added is.frame is.sent) [
    | inl before ↦ record { frame = is.frame; reversal = is.reversal; sent = before; is_reversal = is.is_reversal; reversed_is = is.reversed_is }
    | inr here ↦ absurd (laws.apart added.items request is.reversal is_request (subst (λ (it : Frame). IsReversal it.items is.reversal) here is.is_reversal))
  ]

  pub is_asked_now : (request : Request) → IsRequest added.items request → IsAsked (requests ++ added ∷ []) request.ksn request.amount
  is_asked_now request is_request = record {
    frame = added;
    request = request;
    sent = Contains-append_right requests (added ∷ []) added (the_one added);
    is_request = is_request;
    ksn_is = refl;
    amount_is = refl;
  }

  -- with a reversal added
  pub called_back_or_added : (reversal : reversal_frame.Reversal) (ksn : Serial) → IsReversal added.items reversal → IsCalledBack (requests ++ added ∷ []) ksn
      → IsCalledBack requests ksn ⊎ (reversal.numbers.reversed ≡ ksn)
  called_back_or_added reversal ksn is_reversal is = elim (one_more requests added is.frame is.sent) [
    | inl before ↦ inl (record { frame = is.frame; reversal = is.reversal; sent = before; is_reversal = is.is_reversal; reversed_is = is.reversed_is })
    | inr here ↦
        let same = laws.one_reversal added.items reversal is.reversal is_reversal (subst (λ (it : Frame). IsReversal it.items is.reversal) here is.is_reversal) in
        inr (ap (λ (it : reversal_frame.Reversal). it.numbers.reversed) same ∙ is.reversed_is)
  ]

  pub not_asked : (reversal : reversal_frame.Reversal) (ksn : Serial) (amount : ℕ) → IsReversal added.items reversal → IsAsked (requests ++ added ∷ []) ksn amount → IsAsked requests ksn amount
  not_asked reversal ksn amount is_reversal is = elim (one_more requests added is.frame is.sent) [
    | inl before ↦ record { frame = is.frame; request = is.request; sent = before; is_request = is.is_request; ksn_is = is.ksn_is; amount_is = is.amount_is }
    | inr here ↦ absurd (laws.apart added.items is.request reversal (subst (λ (it : Frame). IsRequest it.items is.request) here is.is_request) is_reversal)
  ]

-- ---- what was sent and told, as far as it is of a till

-- all that was begun, sent, answered, owned and sold: a purchase that began has taken its number,
-- whether its request was sent or not
pub record Lists : Type 0 where
  pub begun : List Serial
  pub requests : List Frame
  pub answers : List Frame
  pub owners : List Owner
  pub sales : List Sale

-- a till has sold for this amount under this number
abbrev pub IsSold : Lists → ℕ → Serial → ℕ → Type 0
IsSold lists t ksn amount = Contains lists.sales (sale_of t (payment_of ksn amount))

-- how lists may grow beside a till: all stays, and nothing of this till is added but answers
pub record GrowBeside (t : ℕ) (old new : Lists) : Type 0 where
  pub owner : (iksn u : ℕ) → IsOwner old.owners iksn u → IsOwner new.owners iksn u
  pub begun : (ksn : Serial) → Contains new.begun ksn → IsOwner new.owners ksn.iksn t → Contains old.begun ksn × IsOwner old.owners ksn.iksn t
  pub begun_stays : (ksn : Serial) → Contains old.begun ksn → Contains new.begun ksn
  pub asked : (ksn : Serial) (amount : ℕ) → IsAsked new.requests ksn amount → IsOwner new.owners ksn.iksn t → IsAsked old.requests ksn amount × IsOwner old.owners ksn.iksn t
  pub asked_stays : (ksn : Serial) (amount : ℕ) → IsAsked old.requests ksn amount → IsAsked new.requests ksn amount
  pub called_back : (ksn : Serial) → IsCalledBack new.requests ksn → IsOwner new.owners ksn.iksn t → IsCalledBack old.requests ksn
  pub replied : (ksn : Serial) (code : Code) → IsRepliedTo old.answers ksn code → IsRepliedTo new.answers ksn code
  pub undone : (ksn : Serial) → IsUndoneBy old.answers ksn → IsUndoneBy new.answers ksn
  pub sold : (ksn : Serial) (amount : ℕ) → IsSold new t ksn amount → IsSold old t ksn amount
  pub sold_stays : (ksn : Serial) (amount : ℕ) → IsSold old t ksn amount → IsSold new t ksn amount
