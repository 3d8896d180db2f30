use Rattle.std.proofs.Common.{ap, inl, inr, Bool, true, false, List, ℕ}
use Rattle.std.proofs.lemmas.Bool.{false≢true}
use Rattle.duk_frame.specs.declared.answer.AnswerFrame.{AnswerFrame}
use Rattle.duk_frame.specs.declared.answer.AnswerFrame.TheVariants.{Refusal, Reply}
use Rattle.duk_frame.specs.Payment.{reply_mac}
use Rattle.duk_host.specs.Host.{host_meaning_of}
use Rattle.duk_host.specs.Judgement.{JudgementBasis, IsRefusalFor, no_serial, reason_number}
use Rattle.duk_host.specs.Lifetime.{AcceptsNumber}
use Rattle.duk_tree.specs.Serial.{Serial}
use Rattle.duk_host.proofs.LifetimeOfServices.{AnswerLaws, ServiceLaws, lifetime_sound}
use Rattle.duk_host.proofs.laws.lifetimes.Goals as goal
use Rattle.duk_host.proofs.laws.lifetimes.Goals.{After-services}

abbrev number_of : AnswerFrame → Serial
number_of (Reply ksn code mac) = ksn
number_of (Refusal ksn reason) = ksn

abbrev is_reply : AnswerFrame → Bool
is_reply (Reply ksn code mac) = true
is_reply (Refusal ksn reason) = false

module _ (g : _) (c : After-services g) where
  no_reply : (basis : JudgementBasis) (bytes frame : List ℕ) (ksn : Serial) → IsRefusalFor basis bytes frame → ¬ AcceptsNumber ksn frame
  no_reply basis bytes frame ksn (inl malformed) accepts =
      false≢true (ap is_reply (c.one_reading.ensures.answer frame (Refusal no_serial 1) (Reply ksn accepts.0 accepts.1.0) (c.refusals.ensures.malformed bytes frame malformed) accepts.1.1))
  no_reply basis bytes frame ksn (inr refused) accepts =
      false≢true
      (ap is_reply (c.one_reading.ensures.answer frame (Refusal refused.request.ksn (reason_number refused.reason)) (Reply ksn accepts.0 accepts.1.0) (c.refusals.ensures.request basis bytes frame refused) accepts.1.1))

  answers : AnswerLaws
  answers = record {
    one_number = λ frame ksn other one two. ap number_of (c.one_reading.ensures.answer frame (Reply ksn one.0 one.1.0) (Reply other two.0 two.1.0) one.1.1 two.1.1);
    refused = no_reply;
    given = c.exchanges.ensures.given;
    others = c.exchanges.ensures.others;
    accepted = λ basis bytes request frame accepted.
        (accepted.reply.code, (reply_mac accepted.reply.reply.key request.ksn accepted.reply.code, c.replies.ensures basis bytes request frame accepted));
  }

  services_do : ServiceLaws (host_meaning_of g.L.UsedLog.meaning g.I.Issuer.decides)
  services_do = record { judged = c.services.ensures.judged; restarted = c.services.ensures.restarted }

pub returns-clause-once : goal.returns-clause-once
returns-clause-once g c keys decides first runs life = (lifetime_sound _ (answers g c) (services_do g c) keys decides _ runs life).alike

pub returns-clause-apart : goal.returns-clause-apart
returns-clause-apart g c keys decides first runs life = (lifetime_sound _ (answers g c) (services_do g c) keys decides _ runs life).apart

pub returns-clause-own_key : goal.returns-clause-own_key
returns-clause-own_key g c keys decides first runs life = (lifetime_sound _ (answers g c) (services_do g c) keys decides _ runs life).own
