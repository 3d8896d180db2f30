use Rattle.std.proofs.Common.{◌≡◌, ◌++◌, Some, ap, subst, sym, take, drop, ◌∙◌}
use Rattle.std.proofs.lemmas.Option.{IfSome_then}
use Rattle.duk_tree.specs.Serial.{serial_bytes}
use Rattle.duk_reversal.specs.Numbers.{Numbers, Reverses, number_bytes}
use Rattle.duk_reversal.proofs.PlacesOfNumbers.{SerialLaws, same_numbers, some_of, two_tens}
use Rattle.duk_reversal.proofs.text.numbers_at.Goals as goal
use Rattle.duk_reversal.proofs.text.numbers_at.Goals.{After-new}

read : After-new → Numbers
read c = record { ksn = c.from_bytes-ksn.result; reversed = c.from_bytes-reversed.result }

bytes_of_read : (c : After-new) → number_bytes (read c) ≡ take 20 (drop 4 c.args.bytes.now)
unfolding read
bytes_of_read c =
    let bytes = c.args.bytes.now in
    ap (λ front. front ++ serial_bytes c.from_bytes-reversed.result) (c.from_bytes-ksn.ensures.bytes ∙ c.array_of.ensures.bytes)
    ∙ ap (λ back. take 10 (drop 4 bytes) ++ back) (c.from_bytes-reversed.ensures.bytes ∙ c.array_of-2.ensures.bytes)
    ∙ two_tens bytes

pub returns-clause-at : goal.returns-clause-at
unfolding read
returns-clause-at c = IfSome_then c.new.result c.new.ensures.numbers (λ numbers is. ap number_bytes is ∙ bytes_of_read c)

pub returns-clause-every : goal.returns-clause-every
unfolding read
returns-clause-every c = λ numbers are at.
    let laws : SerialLaws = record { ten = c.serials.ensures.ten; found = c.serials.ensures.found } in
    let same : read c ≡ numbers =
    same_numbers laws (read c) numbers c.from_bytes-ksn.ensures.serial c.from_bytes-reversed.ensures.serial are (bytes_of_read c ∙ sym at) in
    let reverses = subst (λ (n : Numbers). Reverses n.ksn n.reversed) (sym same) are.reverses in
    some_of c.new.result (read c) (c.new.ensures.found.1 reverses) c.new.ensures.numbers ∙ ap Some same
