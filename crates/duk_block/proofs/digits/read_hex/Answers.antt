use Rattle.std.proofs.Common.{Bool, length, subst, sym}
use Rattle.std.specs.Prelude.{MatchBool}
use Rattle.std.specs.List.{AllPass}
use Rattle.hex.specs.Hex.{is_hex_digit}
use Rattle.duk_block.specs.Hexadecimal.{IsHexadecimal}
use Rattle.duk_block.proofs.DecoderAnswers.{read_from_decoding}
use Rattle.duk_block.proofs.digits.read_hex.Goals as goal

pub returns : goal.returns
returns c =
    let P : Bool → Type 0 = λ b. MatchBool b (IsHexadecimal c.args.digits.now c.decode_to_slice.new.out) (AllPass is_hex_digit c.args.digits.now → ⊥) in
    subst P (sym c.is_ok.ensures.value) (read_from_decoding c.args.digits.now c.decode_to_slice.new.out (length c.args.bytes.now) c.decode_to_slice.result c.requires c.decode_to_slice.ensures.value)
