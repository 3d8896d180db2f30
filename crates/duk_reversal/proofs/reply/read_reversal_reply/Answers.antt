use Rattle.std.proofs.Common.{◌≡◌, Some, ap, sym, ◌∙◌}
use Rattle.std.proofs.lemmas.List.{take_rest}
use Rattle.std.specs.Cmp.Lexicographic.{bytes_decides}
use Rattle.duk_reversal.specs.Reply.{reversal_reply_bytes}
use Rattle.duk_reversal.proofs.OneReading.{same_reply}
use Rattle.duk_reversal.proofs.PlacesOfNumbers.{SerialLaws, mac_place, reply_places, state_place}
use Rattle.duk_reversal.proofs.reply.read_reversal_reply.Goals as goal

pub returns-in_err-numbers-clause-every : goal.returns-in_err-numbers-clause-every
returns-in_err-numbers-clause-every c = λ reply is.
    let laws : SerialLaws = record { ten = c.serials.ensures.ten; found = c.serials.ensures.found } in
    let places = reply_places laws c.args.bytes.now reply is in
    let wrong = c.in_err-numbers.ensures.every reply.numbers is.fields.numbers_are (sym places.numbers_are) in
    cc

pub returns-in_err-state-clause-every : goal.returns-in_err-state-clause-every
returns-in_err-state-clause-every c = λ reply is.
    let laws : SerialLaws = record { ten = c.serials.ensures.ten; found = c.serials.ensures.found } in
    let wrong = c.in_err-state.ensures.every reply.state (sym (state_place laws c.args.bytes.now reply is)) in
    cc

pub returns-then-eq-clause-every : goal.returns-then-eq-clause-every
returns-then-eq-clause-every c = λ reply is.
    let bytes = c.args.bytes.now in
    let laws : SerialLaws = record { ten = c.serials.ensures.ten; found = c.serials.ensures.found } in
    let places = reply_places laws bytes reply is in
    let numbers = c.in_ok-numbers.ensures.every reply.numbers is.fields.numbers_are (sym places.numbers_are) in
    let state = c.in_ok-state.ensures.every reply.state (sym (state_place laws bytes reply is)) in
    let mac : c.array_of-mac.result ≡ reply.mac = c.array_of-mac.ensures.bytes ∙ take_rest bytes 25 ∙ mac_place laws bytes reply is in
    ap Some (same_reply _ _ _ reply numbers state mac)

pub returns-else-eq-clause-every : goal.returns-else-eq-clause-every
returns-else-eq-clause-every c = λ reply is.
    let bytes = c.args.bytes.now in
    let laws : SerialLaws = record { ten = c.serials.ensures.ten; found = c.serials.ensures.found } in
    let places = reply_places laws bytes reply is in
    let numbers = c.in_ok-numbers.ensures.every reply.numbers is.fields.numbers_are (sym places.numbers_are) in
    let state = c.in_ok-state.ensures.every reply.state (sym (state_place laws bytes reply is)) in
    let mac : c.array_of-mac.result ≡ reply.mac = c.array_of-mac.ensures.bytes ∙ take_rest bytes 25 ∙ mac_place laws bytes reply is in
    let same = same_reply _ _ _ reply numbers state mac in
    let equal : c.as_slice.result.now ≡ bytes =
    c.as_slice.ensures.value ∙ c.bytes.ensures.reply.laid_out ∙ ap reversal_reply_bytes same ∙ sym is.laid_out in
    let yes = c.eq.ensures ∙ (bytes_decides c.as_slice.result.now bytes).1 equal in
    cc
