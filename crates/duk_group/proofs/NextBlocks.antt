-- The next block of a message that is filled with zero bytes.
use Rattle.std.proofs.Common.{◌≡◌, ℕ, ◌-◌, ◌^◌, ◌<◌, ◌≤◌, min, List, [], ◌∷◌, ◌++◌, length, take, drop, replicate, lit<, refl, sym, ap, ◌∙◌, inl, inr, length-append, length-take, length-drop, arith}
use Rattle.std.specs.List.{All}
use Rattle.std.proofs.lemmas.Bool.{cases_lt}
use Rattle.std.proofs.lemmas.List.{take_all, drop_all, append-nil, length-take-le, length-replicate}
use Rattle.std.proofs.lemmas.List.Elements.{All-append, All-replicate, All-take, All-drop}
use Rattle.duk_des.specs.Block.{IsBlock}
use Rattle.duk_tdes.specs.Blocks.{blocks_of}
use Rattle.duk_mac.specs.Retail.{zero_filled}
use Rattle.duk_group.proofs.FilledBlocks.{filled-more, filled-one}

pub no_block : (rest : List ℕ) → length rest ≡ 0 → blocks_of (zero_filled rest) ≡ []
unfolding blocks_of
no_block [] none = refl
no_block (byte ∷ rest) none = absurd (omega arith)

pub next_block : (rest : List ℕ) → 0 < length rest
    → blocks_of (zero_filled rest) ≡ (take 8 rest ++ replicate (8 - length (take 8 rest)) 0) ∷ blocks_of (zero_filled (drop 8 rest))
next_block rest some =
    elim (cases_lt 8 (length rest)) [
      | inl long ↦
          let none : 8 - length (take 8 rest) ≡ 0 = omega (arith, length-take-le 8 rest (omega arith)) in
          filled-more rest long
          ∙ ap (λ first. first ∷ blocks_of (zero_filled (drop 8 rest)))
          (sym (append-nil (take 8 rest)) ∙ ap (λ n. take 8 rest ++ replicate n 0) (sym none))
      | inr short ↦
          filled-one rest some short
          ∙ ap (λ part. (part ++ replicate (8 - length part) 0) ∷ []) (sym (take_all 8 rest short))
          ∙ ap (λ blocks. (take 8 rest ++ replicate (8 - length (take 8 rest)) 0) ∷ blocks)
          (sym (ap (λ bytes. blocks_of (zero_filled bytes)) (drop_all 8 rest short) ∙ no_block [] refl))
    ]

-- at most the first eight bytes of what is left
pub first_part : (message : List ℕ) (done count : ℕ) → count ≡ min (length (take (length message - done) (drop done message))) 8
    → take count (take (length message - done) (drop done message)) ≡ take 8 (drop done message)
first_part message done count is =
    let rest : List ℕ = drop done message in
    let all : take (length message - done) rest ≡ rest = take_all (length message - done) rest (omega (arith, length-drop done message)) in
    let lesser : count ≡ min (length rest) 8 = is ∙ ap (λ part. min (length part) 8) all in
    ap (take count) all
    ∙ elim (cases_lt 8 (length rest)) [
      | inl long ↦ let eight : count ≡ 8 = omega arith in ap (λ n. take n rest) eight
      | inr short ↦
          let whole : count ≡ length rest = omega arith in
          take_all count rest (omega arith) ∙ sym (take_all 8 rest short)
    ]

-- a part of a block with zero bytes after it is a block
pub filled_block : (part : List ℕ) → length part ≤ 8 → All (λ byte. byte < 2 ^ 8) part → IsBlock (part ++ replicate (8 - length part) 0)
filled_block part short fit =
    let zeros : List ℕ = replicate (8 - length part) 0 in
    record {
      eight = omega (arith, length-append part zeros, length-replicate {A = ℕ} (8 - length part) 0);
      bytes_fit = All-append (λ byte. byte < 2 ^ 8) part zeros fit (All-replicate (λ byte. byte < 2 ^ 8) (8 - length part) 0 (lit< tt));
    }

pub next_block_fits : (message : List ℕ) (done : ℕ) → All (λ byte. byte < 2 ^ 8) message
    → IsBlock (take 8 (drop done message) ++ replicate (8 - length (take 8 (drop done message))) 0)
next_block_fits message done fit =
    filled_block (take 8 (drop done message)) (simp length-take (omega arith))
    (All-take (λ byte. byte < 2 ^ 8) 8 (drop done message) (All-drop (λ byte. byte < 2 ^ 8) done message fit))
