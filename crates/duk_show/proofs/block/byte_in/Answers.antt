use Rattle.std.proofs.Common.{◌≡◌, ◌∷◌, [], None, Ok, sym, ap, ◌∙◌}
use Rattle.std.specs.Result.{result_ok}
use Rattle.hex.proofs.HexLemmas.{decode_of-ok, decode_sized-twice}
use Rattle.hex.specs.Hex.{decode_sized}
use Rattle.duk_show.proofs.block.byte_in.Goals as goal

pub returns-in_err-byte : goal.returns-in_err-byte
returns-in_err-byte c = rw c.from_residual.ensures (λ byte read.
    let digits = c.args.digits.now in
    let size = (decode_of-ok digits (byte ∷ []) read).2 in
    let sized : decode_sized digits 1 ≡ Ok (byte ∷ []) = decode_sized-twice digits 1 size ∙ read in
    let none : result_ok (decode_sized digits 1) ≡ None = ap result_ok (sym c.from_hex.ensures) ∙ sym c.ok.ensures.value ∙ c.in_err-byte.was in
    cc (ap result_ok sized, none))
