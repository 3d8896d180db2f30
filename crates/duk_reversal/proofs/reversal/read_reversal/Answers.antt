use Rattle.std.proofs.Common.{◌≡◌, Some, ap, sym, ◌∙◌}
use Rattle.std.proofs.lemmas.List.{take_rest}
use Rattle.std.specs.Cmp.Lexicographic.{bytes_decides}
use Rattle.duk_reversal.specs.Reversal.{reversal_bytes}
use Rattle.duk_reversal.proofs.OneReading.{same_reversal}
use Rattle.duk_reversal.proofs.PlacesOfNumbers.{SerialLaws, reversal_places}
use Rattle.duk_reversal.proofs.reversal.read_reversal.Goals as goal

pub returns-in_err-numbers-clause-every : goal.returns-in_err-numbers-clause-every
returns-in_err-numbers-clause-every c = λ reversal is.
    let laws : SerialLaws = record { ten = c.serials.ensures.ten; found = c.serials.ensures.found } in
    let places = reversal_places laws c.args.bytes.now reversal is in
    let wrong = c.in_err-numbers.ensures.every reversal.numbers is.fields.numbers_are (sym places.numbers_are) in
    cc

pub returns-then-eq-clause-every : goal.returns-then-eq-clause-every
returns-then-eq-clause-every c = λ reversal is.
    let bytes = c.args.bytes.now in
    let laws : SerialLaws = record { ten = c.serials.ensures.ten; found = c.serials.ensures.found } in
    let places = reversal_places laws bytes reversal is in
    let numbers = c.in_ok-numbers.ensures.every reversal.numbers is.fields.numbers_are (sym places.numbers_are) in
    let mac : c.array_of-mac.result ≡ reversal.mac = c.array_of-mac.ensures.bytes ∙ take_rest bytes 24 ∙ places.rest_is in
    ap Some (same_reversal _ _ reversal numbers mac)

pub returns-else-eq-clause-every : goal.returns-else-eq-clause-every
returns-else-eq-clause-every c = λ reversal is.
    let bytes = c.args.bytes.now in
    let laws : SerialLaws = record { ten = c.serials.ensures.ten; found = c.serials.ensures.found } in
    let places = reversal_places laws bytes reversal is in
    let numbers = c.in_ok-numbers.ensures.every reversal.numbers is.fields.numbers_are (sym places.numbers_are) in
    let mac : c.array_of-mac.result ≡ reversal.mac = c.array_of-mac.ensures.bytes ∙ take_rest bytes 24 ∙ places.rest_is in
    let same = same_reversal _ _ reversal numbers mac in
    let equal : c.as_slice.result.now ≡ bytes =
    c.as_slice.ensures.value ∙ c.bytes.ensures.reversal.laid_out ∙ ap reversal_bytes same ∙ sym is.laid_out in
    let yes = c.eq.ensures ∙ (bytes_decides c.as_slice.result.now bytes).1 equal in
    cc
