-- The frames of refusals are read as these refusals.
use Rattle.std.proofs.Common.{◌≡◌, ℕ, List, replicate, refl, sym, ap, ◌∙◌, arith}
use Rattle.duk_frame.specs.Answer.{IsReason, IsRefusal, refusal_text}
use Rattle.duk_frame.specs.Frame.{framed}
use Rattle.duk_tree.specs.Serial.{IsSerial, serial_bytes}
use Rattle.duk_host.specs.Judgement.{IsMalformed, IsRefusedRequest, JudgementBasis, no_serial, reason_number}
use Rattle.duk_host.specs.declared.reason.Reason.{Reason}
use Rattle.duk_host.specs.declared.reason.Reason.TheVariants as reason

-- a reason's number is from 1 to 6
is_reason : (why : Reason) → IsReason (reason_number why)
is_reason reason.Malformed = record { least = omega arith; most = omega arith }
is_reason reason.UnknownKeySet = record { least = omega arith; most = omega arith }
is_reason reason.BadCounter = record { least = omega arith; most = omega arith }
is_reason reason.BadMac = record { least = omega arith; most = omega arith }
is_reason reason.Used = record { least = omega arith; most = omega arith }
is_reason reason.LogFull = record { least = omega arith; most = omega arith }

no_serial_is_one : IsSerial no_serial
no_serial_is_one = record { iksn_is = record { counter_is_zero = refl; fits = omega arith }; counter_fits = omega arith }

no_serial_bytes : serial_bytes no_serial ≡ replicate 10 0
unfolding serial_bytes
no_serial_bytes = refl

pub malformed_read : (bytes frame : List ℕ) → IsMalformed bytes frame → IsRefusal frame no_serial 1
malformed_read bytes frame malformed = record {
  fields = (no_serial_is_one, is_reason reason.Malformed);
  laid_out = malformed.frame_is ∙ ap (λ ksn. framed (refusal_text ksn 1)) (sym no_serial_bytes);
}

pub request_read : (basis : JudgementBasis) (bytes frame : List ℕ) (refused : IsRefusedRequest basis bytes frame) → IsRefusal frame refused.request.ksn (reason_number refused.reason)
request_read basis bytes frame refused = record {
  fields = (refused.is_request.fields.ksn_is, is_reason refused.reason);
  laid_out = refused.frame_is;
}
