-- The first block of a message, and those of what follows it.
use Rattle.std.proofs.Common.{◌≡◌, ℕ, suc, ◌+◌, ◌/◌, ◌<◌, ◌≤◌, List, [], ◌∷◌, length, take, drop, ap, ◌∙◌, length-drop, arith}
use Rattle.std.proofs.lemmas.List.{drop_all, take_all}
use Rattle.duk_tdes.specs.Blocks.{leading_blocks, blocks_of}

pub blocks_of-more : (bytes : List ℕ) → 0 < length bytes → blocks_of bytes ≡ take 8 bytes ∷ blocks_of (drop 8 bytes)
unfolding blocks_of
blocks_of-more bytes some =
    let count : (length bytes + 7) / 8 ≡ suc ((length (drop 8 bytes) + 7) / 8) = omega (arith, length-drop 8 bytes) in
    ap (λ n. leading_blocks n bytes) count

pub blocks_of-one : (bytes : List ℕ) → 0 < length bytes → length bytes ≤ 8 → blocks_of bytes ≡ bytes ∷ []
unfolding blocks_of
blocks_of-one bytes some short =
    blocks_of-more bytes some
    ∙ ap (λ first. first ∷ blocks_of (drop 8 bytes)) (take_all 8 bytes short)
    ∙ ap (λ rest. bytes ∷ blocks_of rest) (drop_all 8 bytes short)
