-- The blocks of a message with the last one masked, from its front.
use Rattle.std.proofs.Common.{◌≡◌, ℕ, ◌<◌, ◌≤◌, List, [], ◌∷◌, length, take, drop, refl, sym, ap, ◌∙◌, length-drop, arith}
use Rattle.duk_tdes.specs.Blocks.{blocks_of}
use Rattle.duk_mac.specs.Cmac.{last_block, with_last_masked}
use Rattle.duk_mac.proofs.FirstBlock.{blocks_of-more, blocks_of-one}

pub masked-more : (key rest : List ℕ) → 8 < length rest → with_last_masked key (blocks_of rest) ≡ take 8 rest ∷ with_last_masked key (blocks_of (drop 8 rest))
unfolding with_last_masked
masked-more key rest long =
    let again = blocks_of-more (drop 8 rest) (omega (arith, length-drop 8 rest)) in
    ap (with_last_masked key) (blocks_of-more rest (omega arith) ∙ ap (λ blocks. take 8 rest ∷ blocks) again)
    ∙ ap (λ blocks. take 8 rest ∷ with_last_masked key blocks) (sym again)

pub masked-one : (key : List ℕ) (rest : List ℕ) → length rest ≤ 8 → with_last_masked key (blocks_of rest) ≡ last_block key rest ∷ []
unfolding with_last_masked blocks_of
masked-one key [] short = refl
masked-one key (byte ∷ rest) short = ap (with_last_masked key) (blocks_of-one (byte ∷ rest) (omega arith) short)
