-- The least reason against a frame, by what is known of it.
use Rattle.std.proofs.Common.{◌≡◌, ◌<◌, ℕ, List, [], Contains, Option, Some, IsSome, inl, inr, refl, sym, subst, arith}
use Rattle.duk_frame.specs.Request.{IsRequest}
use Rattle.duk_frame.specs.declared.request.Request.{Request}
use Rattle.duk_host.specs.Judgement.{Decision, IsAuthentic, IsReasonAgainst as IsReasonAgainstRequest, IsRefusalFor, JudgementBasis, Passes, basis_with, reason_number}
use Rattle.duk_host.specs.Judgement as host
use Rattle.duk_host.specs.declared.reason.Reason.{Reason}
use Rattle.duk_host.specs.declared.reason.Reason.TheVariants as reason
use Rattle.duk_hsm.specs.Commands.{IsOtherMac, IsRequestMac}
use Rattle.duk_hsm.specs.Keys.{HsmKeys, key_set_of}
use Rattle.duk_journal.specs.Groups.{Entries}
use Rattle.duk_reversal.specs.Reversal.{IsReversal, reversal_text}
use Rattle.duk_reversal.specs.declared.reversal.Reversal.{Reversal}
use Rattle.duk_tree.specs.Path.{IsUsable}
use Rattle.duk_tree.specs.Serial.{Serial, prefix_of}
use Rattle.duk_journal_host.specs.Judgement.{IsAuthenticReversal, IsReasonAgainst, LineBasis, ReversalPasses, line_basis, refusal_of, room_for_payments}
use Rattle.duk_journal.specs.Standing.{used_by}
use Rattle.duk_journal_host.specs.Steps.{IsDismissed}
use Rattle.duk_journal_host.specs.inner.Judged.{IsAgainstMac, IsNoReversal}
use Rattle.duk_journal_host.proofs.OneNumber.{one_key}

is_held : {A : Type 0} (found : Option A) (value : A) → found ≡ Some value → IsSome found
is_held found value is = subst (λ found. IsSome found) (sym is) refl

-- ---- against a reversal

-- no text has two MACs for requests
no_other_mac : (keys : HsmKeys) (ksn : Serial) (text mac : List ℕ) → IsOtherMac keys ksn text mac → IsRequestMac keys ksn text mac → ⊥
no_other_mac keys ksn text mac other is =
    other.mac_is_other (rw (one_key keys ksn is.key other.key is.key_is other.key_is) at is.mac_is)

-- a reversal with a reason against its MAC is not authentic
not_authentic : (keys : HsmKeys) (reversal : Reversal) (why : Reason) → IsAgainstMac keys reversal why → ¬ IsAuthenticReversal keys reversal
not_authentic keys reversal reason.Malformed against authentic = absurd against
not_authentic keys reversal reason.UnknownKeySet against authentic = absurd (cc (authentic.key_is.held, against))
not_authentic keys reversal reason.BadCounter against authentic = against.unusable authentic.key_is.usable
not_authentic keys reversal reason.BadMac against authentic = no_other_mac keys reversal.numbers.ksn (reversal_text reversal.numbers) reversal.mac against authentic
not_authentic keys reversal reason.Used against authentic = absurd against
not_authentic keys reversal reason.LogFull against authentic = absurd against

module _ (basis : LineBasis) (reversal : Reversal) where
  abbrev HasKeySet : Type 0
  HasKeySet = IsSome (key_set_of basis.keys (prefix_of reversal.numbers.ksn))

  abbrev HasCounter : Type 0
  HasCounter = IsUsable reversal.numbers.ksn.counter

  abbrev IsNew : Type 0
  IsNew = ¬ Contains (used_by basis.entries) reversal.numbers.ksn

  -- what holds where a reason is tested
  passes : (number : ℕ) → (2 < number → HasKeySet) → (3 < number → HasCounter) → (4 < number → IsAuthenticReversal basis.keys reversal) → (5 < number → IsNew)
      → (6 < number → 0 < basis.room) → (earlier : Reason) → reason_number earlier < number → ReversalPasses basis reversal earlier
  passes number key_set counter authentic new room reason.Malformed below = tt
  passes number key_set counter authentic new room reason.UnknownKeySet below = key_set below
  passes number key_set counter authentic new room reason.BadCounter below = counter below
  passes number key_set counter authentic new room reason.BadMac below = authentic below
  passes number key_set counter authentic new room reason.Used below = new below
  passes number key_set counter authentic new room reason.LogFull below = room below

  of_mac : (why : Reason) → IsAgainstMac basis.keys reversal why → IsReasonAgainst basis reversal why
  of_mac reason.Malformed against = absurd against
  of_mac reason.UnknownKeySet against = record {
    fails = against;
    earlier_met = passes 2 (λ below. absurd (omega (arith, below))) (λ below. absurd (omega (arith, below))) (λ below. absurd (omega (arith, below))) (λ below. absurd (omega (arith, below)))
        (λ below. absurd (omega (arith, below)));
  }
  of_mac reason.BadCounter against = record {
    fails = against.unusable;
    earlier_met = passes 3 (λ below. against.held) (λ below. absurd (omega (arith, below))) (λ below. absurd (omega (arith, below))) (λ below. absurd (omega (arith, below)))
        (λ below. absurd (omega (arith, below)));
  }
  of_mac reason.BadMac against = record {
    fails = not_authentic basis.keys reversal reason.BadMac against;
    earlier_met = passes 4 (λ below. is_held (key_set_of basis.keys (prefix_of reversal.numbers.ksn)) against.key_is.bdk against.key_is.held) (λ below. against.key_is.usable)
        (λ below. absurd (omega (arith, below))) (λ below. absurd (omega (arith, below))) (λ below. absurd (omega (arith, below)));
  }
  of_mac reason.Used against = absurd against
  of_mac reason.LogFull against = absurd against

  module _ (authentic : IsAuthenticReversal basis.keys reversal) where
    held : HasKeySet
    held = is_held (key_set_of basis.keys (prefix_of reversal.numbers.ksn)) authentic.key_is.bdk authentic.key_is.held

    pub is_used_reversal : Contains (used_by basis.entries) reversal.numbers.ksn → IsReasonAgainst basis reversal reason.Used
    is_used_reversal used = record {
      fails = used;
      earlier_met = passes 5 (λ below. held) (λ below. authentic.key_is.usable) (λ below. authentic) (λ below. absurd (omega (arith, below))) (λ below. absurd (omega (arith, below)));
    }

    pub is_full_for_reversal : IsNew → basis.room ≡ 0 → IsReasonAgainst basis reversal reason.LogFull
    is_full_for_reversal new full = record {
      fails = full;
      earlier_met = passes 6 (λ below. held) (λ below. authentic.key_is.usable) (λ below. authentic) (λ below. new) (λ below. absurd (omega (arith, below)));
    }

-- a reversal with a reason against its MAC is refused, whatever is kept
pub reversal_dismissed : (keys : HsmKeys) (bytes frame : List ℕ) (reversal : Reversal) (why : Reason) → IsReversal bytes reversal → IsAgainstMac keys reversal why → frame ≡ refusal_of reversal.numbers.ksn why
    → IsDismissed keys bytes frame
reversal_dismissed keys bytes frame reversal why is_reversal against frame_is entries capacity room decides = inr (inl (record {
  reversal = reversal;
  why = why;
  is_reversal = is_reversal;
  no_repeat = λ authentic. absurd (not_authentic keys reversal why against authentic);
  refuses = of_mac (line_basis keys entries capacity room decides) reversal why against;
  frame_is = frame_is;
}))

-- ---- against a request

-- a request that is not authentic is refused, whatever is kept
pub request_dismissed : (keys : HsmKeys) (bytes frame : List ℕ) → IsNoReversal bytes → ((request : Request) → IsRequest bytes request → ¬ IsAuthentic keys request)
    → ((entries : Entries) (payments : ℕ) (decides : Decision) → IsRefusalFor (basis_with keys (used_by entries) [] payments decides) bytes frame) → IsDismissed keys bytes frame
request_dismissed keys bytes frame no_reversal not_one refusal entries capacity room decides = inl (inl (record {
  no_reversal = no_reversal;
  no_repeat = λ request code is_request authentic kept. not_one request is_request authentic;
  refusal = refusal entries (room_for_payments capacity room) decides;
}))

module _ (basis : JudgementBasis) (request : Request) (no_repeat : host.IsNoRepeat basis request) (authentic : IsAuthentic basis.keys request) where
  -- what holds of an authentic one where a reason is tested
  met : (number : ℕ) → (5 < number → ¬ Contains basis.used request.ksn) → (6 < number → 0 < basis.room) → (earlier : Reason) → reason_number earlier < number → Passes basis request earlier
  met number new room reason.Malformed below = tt
  met number new room reason.UnknownKeySet below = is_held (key_set_of basis.keys (prefix_of request.ksn)) authentic.key_is.bdk authentic.key_is.held
  met number new room reason.BadCounter below = authentic.key_is.usable
  met number new room reason.BadMac below = authentic
  met number new room reason.Used below = new below
  met number new room reason.LogFull below = room below

  pub is_used_request : Contains basis.used request.ksn → IsReasonAgainstRequest basis request reason.Used
  is_used_request used = record { fails = (no_repeat, used); earlier_met = met 5 (λ below. absurd (omega (arith, below))) (λ below. absurd (omega (arith, below))) }

  pub is_full_for_request : ¬ Contains basis.used request.ksn → basis.room ≡ 0 → IsReasonAgainstRequest basis request reason.LogFull
  is_full_for_request new full = record { fails = (no_repeat, full); earlier_met = met 6 (λ below. new) (λ below. absurd (omega (arith, below))) }
