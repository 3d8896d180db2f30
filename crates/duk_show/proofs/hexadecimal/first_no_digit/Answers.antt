use Rattle.std.proofs.Common.{◌≡◌, true, get_or, arith, rules}
use Rattle.hex.specs.Hex.{is_hex_digit}
use Rattle.duk_show.proofs.Texts.{passes_more}
use Rattle.duk_show.proofs.hexadecimal.first_no_digit.Goals as goal

pub loop-place-preserved : goal.loop-place-preserved
loop-place-preserved c =
    let digit : is_hex_digit (get_or c.args.text.now c.loop-place.place 0) ≡ true = search rules in
    passes_more is_hex_digit c.args.text.now c.loop-place.place (omega arith) c.loop-place.invariant digit
