use Rattle.std.proofs.Common.{◌≡◌, ◌∷◌, [], ℕ, List, take, drop, get_or, inl, inr, sym, ap, subst, ◌∙◌, arith}
use Rattle.hex.proofs.HexLemmas.{decode_of-same}
use Rattle.duk_block.specs.Hexadecimal.{IsHexadecimal}
use Rattle.duk_show.specs.inner.Block.{BeginsWithBlock}
use Rattle.duk_show.proofs.OptionalBlocks.{block_of, size_at}
use Rattle.duk_show.proofs.block.optional_length.Goals as goal

-- a text's digits write the length of the block that it begins with
same_size : (text : List ℕ) (byte size : ℕ) → IsHexadecimal (take 2 (drop 2 text)) (byte ∷ []) → BeginsWithBlock text size → byte ≡ size
same_size text byte size read begins =
    ap (λ bytes. get_or bytes 0 0) (decode_of-same (take 2 (drop 2 text)) (byte ∷ []) (size ∷ []) read (size_at text size begins))

pub returns-in_err-byte_in : goal.returns-in_err-byte_in
returns-in_err-byte_in c = rw c.from_residual.ensures (λ size begins. c.in_err-byte_in.ensures size (size_at c.args.text.now size begins))

pub returns-then-length-lt4 : goal.returns-then-length-lt4
returns-then-length-lt4 c = λ size begins.
    let n = c.from-length.result in
    let same : n ≡ size = c.from-length.ensures ∙ same_size c.args.text.now _ size c.in_ok-byte_in.ensures begins in
    elim c.then-length-lt4.either [
      | inl below ↦ absurd (omega (arith, same, below, begins.least))
      | inr above ↦ absurd (omega (arith, same, above.1, begins.within))
    ]

pub returns : goal.returns
returns c =
    let P : ℕ → Type 0 = λ n. IsHexadecimal (take 2 (drop 2 c.args.text.now)) (n ∷ []) in
    block_of c.args.text.now c.from-length.result c.if-length-lt4.false c.if-length-text.false (subst P (sym c.from-length.ensures) c.in_ok-byte_in.ensures)
