-- A message filled with zero bytes, block by block from its front.
use Rattle.std.proofs.Common.{◌≡◌, ℕ, suc, ◌+◌, ◌-◌, ◌/◌, ◌%◌, ◌<◌, ◌≤◌, List, [], ◌∷◌, ◌++◌, length, take, drop, replicate, refl, ap, ◌∙◌, length-drop, length-append, arith}
use Rattle.std.proofs.lemmas.List.{take-append-le, drop-append-le, length-replicate, take_all, drop_all}
use Rattle.duk_tdes.specs.Blocks.{leading_blocks, blocks_of}
use Rattle.duk_mac.specs.Retail.{zero_filled}

pub first_block : (bytes : List ℕ) → 0 < length bytes → blocks_of bytes ≡ take 8 bytes ∷ blocks_of (drop 8 bytes)
unfolding blocks_of
first_block bytes some =
    let count : (length bytes + 7) / 8 ≡ suc ((length (drop 8 bytes) + 7) / 8) = omega (arith, length-drop 8 bytes) in
    ap (λ n. leading_blocks n bytes) count

pub no_blocks : blocks_of [] ≡ []
unfolding blocks_of
no_blocks = refl

pub filled-more : (rest : List ℕ) → 8 < length rest → blocks_of (zero_filled rest) ≡ take 8 rest ∷ blocks_of (zero_filled (drop 8 rest))
filled-more rest long =
    let fill : List ℕ = replicate ((8 - length rest % 8) % 8) 0 in
    let same : (8 - length rest % 8) % 8 ≡ (8 - length (drop 8 rest) % 8) % 8 = omega (arith, length-drop 8 rest) in
    first_block (rest ++ fill) (omega (arith, length-append rest fill))
    ∙ ap (λ first. first ∷ blocks_of (drop 8 (rest ++ fill))) (take-append-le 8 rest fill (omega arith))
    ∙ ap (λ bytes. take 8 rest ∷ blocks_of bytes) (drop-append-le 8 rest fill (omega arith) ∙ ap (λ n. drop 8 rest ++ replicate n 0) same)

pub filled-one : (rest : List ℕ) → 0 < length rest → length rest ≤ 8 → blocks_of (zero_filled rest) ≡ (rest ++ replicate (8 - length rest) 0) ∷ []
filled-one rest some short =
    let fill : List ℕ = replicate (8 - length rest) 0 in
    let count : (8 - length rest % 8) % 8 ≡ 8 - length rest = omega arith in
    let whole : length (rest ++ fill) ≡ 8 = length-append rest fill ∙ omega (arith, length-replicate {A = ℕ} (8 - length rest) 0) in
    ap (λ n. blocks_of (rest ++ replicate n 0)) count
    ∙ first_block (rest ++ fill) (omega arith)
    ∙ ap (λ first. first ∷ blocks_of (drop 8 (rest ++ fill))) (take_all 8 (rest ++ fill) (omega arith))
    ∙ ap (λ bytes. (rest ++ fill) ∷ blocks_of bytes) (drop_all 8 (rest ++ fill) (omega arith))
    ∙ ap (λ blocks. (rest ++ fill) ∷ blocks) no_blocks
