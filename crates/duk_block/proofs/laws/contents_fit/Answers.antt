use Rattle.std.proofs.Common.{ℕ, ◌<◌, List, [], ◌∷◌, ◌++◌, length, length-drop, ap, subst, arith}
use Rattle.std.specs.List.{All}
use Rattle.std.proofs.lemmas.List.Elements.{All-head, All-tail}
use Rattle.hex.proofs.HexLemmas.{decode_of-ok}
use Rattle.duk_block.specs.Optional.{IsOptionalBlock}
use Rattle.duk_block.proofs.laws.contents_fit.Goals as goal

-- two digits give the length of the whole block
length_is_a_byte : (block : List ℕ) → IsOptionalBlock block → length block < 256
length_is_a_byte block is = (decode_of-ok is.digits (length block ∷ []) is.length_is).3 0

-- an optional block behind others
one_of : (before : List (List ℕ)) (block : List ℕ) (after : List (List ℕ))
    → All IsOptionalBlock (before ++ block ∷ after)
    → IsOptionalBlock block
one_of [] block after each = All-head IsOptionalBlock block after each
one_of (other ∷ before) block after each =
    one_of before block after (All-tail IsOptionalBlock other (before ++ block ∷ after) each)

pub returns : goal.returns
returns c = λ blocks id content each first.
    let is = one_of first.before first.block first.after (subst (All IsOptionalBlock) first.laid_out each) in
    omega (arith, length_is_a_byte first.block is, ap length first.content_is, length-drop 4 first.block)
