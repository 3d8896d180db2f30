use Rattle.std.proofs.Common.{◌≡◌, ap, sym, ◌∙◌}
use Rattle.std.proofs.lemmas.List.{take_rest}
use Rattle.duk_tree.specs.Serial.{serial_of_bytes}
use Rattle.duk_frame.specs.Frame.{framed}
use Rattle.duk_frame.proofs.PlacesOfAnswers.{kind_of_reply, reply_places, reply_text_at}
use Rattle.duk_frame.proofs.answer.read_reply.Goals as goal

pub returns-then-not-has_kind-clause-every : goal.returns-then-not-has_kind-clause-every
returns-then-not-has_kind-clause-every c = λ ksn code mac is.
    let yes = c.has_kind.ensures.1 (kind_of_reply c.args.bytes.now ksn code mac c.serials.ensures.ten is) in
    cc

pub returns-in_err-code-clause-every : goal.returns-in_err-code-clause-every
returns-in_err-code-clause-every c = λ ksn code mac is.
    let places = reply_places c.args.bytes.now ksn code mac c.serials.ensures.ten is in
    let wrong = c.in_err-code.ensures.every code (sym (c.array_of-2.ensures.bytes ∙ places.digits)) in
    cc

pub returns-clause-found : goal.returns-clause-found
returns-clause-found c =
    let bytes = c.args.bytes.now in
    let has = c.has_kind.ensures.0 c.if-not-has_kind.false in
    record {
      fields = (c.from_bytes-ksn.ensures.serial, record { eight = c.array_of-mac.ensures.key.size_is; bytes_fit = c.array_of-mac.ensures.key.bytes_fit });
      laid_out =
          has.laid_out
          ∙ ap framed (reply_text_at bytes c.from_bytes-ksn.result c.in_ok-code.code c.array_of-mac.result
          (c.from_bytes-ksn.ensures.bytes ∙ c.array_of.ensures.bytes)
          (c.in_ok-code.ensures.found ∙ c.array_of-2.ensures.bytes)
          (c.array_of-mac.ensures.bytes ∙ take_rest bytes 16));
    }

pub returns-clause-every : goal.returns-clause-every
returns-clause-every c = λ ksn code mac is.
    let bytes = c.args.bytes.now in
    let places = reply_places bytes ksn code mac c.serials.ensures.ten is in
    let serial : c.from_bytes-ksn.result ≡ ksn =
    c.from_bytes-ksn.ensures.value
    ∙ ap serial_of_bytes (c.array_of.ensures.bytes ∙ places.serial)
    ∙ c.serials.ensures.found ksn is.fields.0 in
    let digits = c.in_ok-code.ensures.every code (sym (c.array_of-2.ensures.bytes ∙ places.digits)) in
    let last : c.array_of-mac.result ≡ mac = c.array_of-mac.ensures.bytes ∙ take_rest bytes 16 ∙ places.mac_is in
    cc
