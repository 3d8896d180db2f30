use Rattle.std.proofs.Common.{List, ℕ, inl, inr}
use Rattle.duk_frame.specs.Answer.{IsRefusal}
use Rattle.duk_host.specs.Judgement.{IsRefusalFor, JudgementBasis, no_serial, reason_number}
use Rattle.duk_tree.specs.Serial.{Serial}
use Rattle.duk_journal_host.proofs.OneJudgement.{FrameLaws, one_frame, one_judgement}
use Rattle.duk_journal_host.proofs.laws.one_judgement.Goals as goal
use Rattle.duk_journal_host.proofs.laws.one_judgement.Goals.{After-apart_from_payments}

module _ (c : After-apart_from_payments) where
  refused : (basis : JudgementBasis) (bytes frame : List ℕ) → IsRefusalFor basis bytes frame → (ksn : Serial) × (number : ℕ) × IsRefusal frame ksn number
  refused basis bytes frame (inl malformed) = (no_serial, 1, c.refusals.ensures.malformed bytes frame malformed)
  refused basis bytes frame (inr refusal) = (refusal.request.ksn, reason_number refusal.reason, c.refusals.ensures.request basis bytes frame refusal)

  laws : FrameLaws
  laws = record {
    readings = record {
      one_request = c.one_reading.ensures.request;
      one_reversal = c.one_reading-2.ensures.reversal;
      apart = λ bytes request reversal is. (c.apart_from_payments.ensures.requests bytes request is).0 reversal;
      used_again = c.used_again.ensures;
    };
    one_reading = c.one_reading.ensures.answer;
    one_answer = c.one_answer.ensures;
    refused = refused;
    accepted = c.replies.ensures;
  }

pub returns : goal.returns
returns c = record { frame = one_frame (laws c); frames = one_judgement (laws c) }
