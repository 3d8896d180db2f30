use Rattle.std.proofs.Common.{◌≡◌, ℕ, List, [], ◌++◌, take, drop, get_or, refl, sym, ap₂, ◌∙◌, arith}
use Rattle.std.proofs.lemmas.List.{append_assoc}
use Rattle.duk_lanes.specs.Words.{wide_lane}
use Rattle.duk_group.specs.Blocks.{block_of}
use Rattle.duk_group.proofs.JoinedHalves.{half_block, halves_joined}
use Rattle.duk_group.proofs.LaneBlocks.{block_of-bits}
use Rattle.duk_group.proofs.PartsOfMessages.{message_of_three}
use Rattle.duk_group.proofs.key_blocks.with_front.Goals as goal

pub returns : goal.returns
returns c = λ i h.
    let front = c.args.front.now in
    let payloads = c.args.payloads.now in
    let first = c.array_of.result in
    let second = c.array_of-2.result in
    let rest : List ℕ = block_of wide_lane i (get_or payloads 0 []) ++ (block_of wide_lane i (get_or payloads 1 []) ++ (block_of wide_lane i (get_or payloads 2 []) ++ [])) in
    let in_first : block_of wide_lane i c.spread_wide-first.result ≡ first =
    block_of-bits wide_lane i c.spread_wide-first.result first (half_block c.array_of.ensures.key refl) (c.spread_wide-first.ensures i (omega arith)) in
    let in_second : block_of wide_lane i c.spread_wide-second.result ≡ second =
    block_of-bits wide_lane i c.spread_wide-second.result second (half_block c.array_of-2.ensures.key refl) (c.spread_wide-second.ensures i (omega arith)) in
    ap₂ (λ (a b : List ℕ). a ++ (b ++ rest)) (in_first ∙ c.array_of.ensures.bytes) (in_second ∙ c.array_of-2.ensures.bytes)
    ∙ sym (append_assoc (take 8 front) (take 8 (drop 8 front)) rest)
    ∙ ap₂ (λ (a b : List ℕ). a ++ b) (halves_joined front c.told-front) (sym (message_of_three wide_lane i payloads c.told-payloads))
