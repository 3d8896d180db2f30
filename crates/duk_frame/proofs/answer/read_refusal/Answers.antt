use Rattle.std.proofs.Common.{◌≡◌, ap, refl, ◌∙◌, arith, rules}
use Rattle.duk_tree.specs.Serial.{serial_of_bytes}
use Rattle.duk_frame.specs.Frame.{framed}
use Rattle.duk_frame.proofs.PlacesOfAnswers.{kind_of_refusal, refusal_places, refusal_text_at}
use Rattle.duk_frame.proofs.answer.read_refusal.Goals as goal

pub returns-then-not-has_kind-clause-every : goal.returns-then-not-has_kind-clause-every
returns-then-not-has_kind-clause-every c = λ ksn reason is.
    let yes = c.has_kind.ensures.1 (kind_of_refusal c.args.bytes.now ksn reason c.serials.ensures.ten is) in
    cc

pub returns-clause-found : goal.returns-clause-found
returns-clause-found c =
    let bytes = c.args.bytes.now in
    let has = c.has_kind.ensures.0 c.if-not-has_kind.false in
    record {
      fields = (c.from_bytes-ksn.ensures.serial, search rules);
      laid_out =
          has.laid_out
          ∙ ap framed (refusal_text_at bytes c.from_bytes-ksn.result _ (omega arith)
          (c.from_bytes-ksn.ensures.bytes ∙ c.array_of.ensures.bytes) refl);
    }

pub returns-clause-every : goal.returns-clause-every
returns-clause-every c = λ ksn reason is.
    let places = refusal_places c.args.bytes.now ksn reason c.serials.ensures.ten is in
    let serial : c.from_bytes-ksn.result ≡ ksn =
    c.from_bytes-ksn.ensures.value
    ∙ ap serial_of_bytes (c.array_of.ensures.bytes ∙ places.serial)
    ∙ c.serials.ensures.found ksn is.fields.0 in
    let same = places.reason_is in
    cc
