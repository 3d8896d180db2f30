-- A message filled with zero bytes, from its front.
use Rattle.std.proofs.Common.{◌≡◌, ℕ, ◌-◌, ◌%◌, ◌<◌, ◌≤◌, List, [], ◌∷◌, ◌++◌, length, take, drop, replicate, ap, ◌∙◌, length-drop, length-append, arith}
use Rattle.std.proofs.lemmas.List.{take-append-le, drop-append-le, length-replicate}
use Rattle.duk_tdes.specs.Blocks.{blocks_of}
use Rattle.duk_mac.specs.Retail.{zero_filled}
use Rattle.duk_mac.proofs.FirstBlock.{blocks_of-more, blocks_of-one}

pub filled-more : (rest : List ℕ) → 8 < length rest → blocks_of (zero_filled rest) ≡ take 8 rest ∷ blocks_of (zero_filled (drop 8 rest))
filled-more rest long =
    let fill : List ℕ = replicate ((8 - length rest % 8) % 8) 0 in
    let same : (8 - length rest % 8) % 8 ≡ (8 - length (drop 8 rest) % 8) % 8 = omega (arith, length-drop 8 rest) in
    blocks_of-more (rest ++ fill) (omega (arith, length-append rest fill))
    ∙ ap (λ first. first ∷ blocks_of (drop 8 (rest ++ fill))) (take-append-le 8 rest fill (omega arith))
    ∙ ap (λ bytes. take 8 rest ∷ blocks_of bytes) (drop-append-le 8 rest fill (omega arith) ∙ ap (λ n. drop 8 rest ++ replicate n 0) same)

pub filled-one : (rest : List ℕ) → 0 < length rest → length rest ≤ 8 → blocks_of (zero_filled rest) ≡ (rest ++ replicate (8 - length rest) 0) ∷ []
filled-one rest some short =
    let fill : List ℕ = replicate (8 - length rest) 0 in
    let count : (8 - length rest % 8) % 8 ≡ 8 - length rest = omega arith in
    let whole : length (rest ++ fill) ≡ 8 = length-append rest fill ∙ omega (arith, length-replicate {A = ℕ} (8 - length rest) 0) in
    ap (λ n. blocks_of (rest ++ replicate n 0)) count ∙ blocks_of-one (rest ++ fill) (omega arith) (omega arith)
