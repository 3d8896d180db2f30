use Rattle.std.proofs.Common.{◌≡◌, ◌<◌, ℕ, List, refl, sym, ap, subst, ◌∙◌, arith}
use Rattle.duk_des.specs.Des.{des_encrypted, des_decrypted}
use Rattle.duk_lanes.specs.Words.{wide_lane}
use Rattle.duk_mac.specs.Chain.{zero_block}
use Rattle.duk_tdes.specs.Key.{xor_bytes}
use Rattle.duk_group.specs.Blocks.{block_of}
use Rattle.duk_group.specs.Numbers.{message_at}
use Rattle.duk_group.specs.inner.Turns.{turn_at}
use Rattle.duk_group.proofs.LaneBlocks.{block_of-bits, zeros_are_a_block}
use Rattle.duk_group.proofs.LanesAlong.{HasChain, chain_after, chain_at_start, chain_at_end, retail_of-key_of}
use Rattle.duk_group.proofs.retail.retail_macs.Goals as goal

pub loop-count-init : goal.loop-count-init
loop-count-init c = λ i h.
    let left = block_of wide_lane i c.args.keys.now.left in
    let message = message_at c.args.messages.now i in
    let zeros : block_of wide_lane i c.spread_wide-chain.result ≡ zero_block = block_of-bits wide_lane i c.spread_wide-chain.result zero_block zeros_are_a_block (c.spread_wide-chain.ensures i (omega arith)) in
    let P : List ℕ → Type 0 = HasChain left message 0 in
    subst P (sym zeros) (chain_at_start left message)

pub loop-count-preserved : goal.loop-count-preserved
loop-count-preserved c = λ i h.
    let lane : i < 128 = omega arith in
    let left = block_of wide_lane i c.args.keys.now.left in
    let chain = block_of wide_lane i c.loop-count.chain in
    let turn = turn_at c.next_blocks-turns.result i in
    chain_after left (message_at c.args.messages.now i) c.loop-count.count turn turn.goes
    chain (block_of wide_lane i c.des_encrypt-next.result) (block_of wide_lane i c.chosen-chain.result) refl
    (c.next_blocks-turns.ensures i h) (c.loop-count.invariant i h)
    (λ is_block. c.des_encrypt-next.ensures i lane ∙ ap (des_encrypted left) (c.xor.ensures i lane ∙ ap (xor_bytes chain) (c.blocks_of_turns.ensures i lane is_block)))
    (λ is. c.chosen-chain.ensures.one i lane (c.going.ensures i lane ∙ is))
    (λ is. c.chosen-chain.ensures.zero i lane (c.going.ensures i lane ∙ is))

pub returns : goal.returns
returns c = λ i h.
    let lane : i < 128 = omega arith in
    let left = c.args.keys.now.left in
    let right = c.args.keys.now.right in
    let message = message_at c.args.messages.now i in
    let last = chain_at_end (block_of wide_lane i left) message c.loop-count.count (block_of wide_lane i c.loop-count.chain) (omega (arith, c.most_blocks-count-end.ensures.all i h)) (c.loop-count.invariant i h) in
    c.des_encrypt.ensures i lane
    ∙ ap (des_encrypted (block_of wide_lane i left)) (c.des_decrypt.ensures i lane ∙ ap (des_decrypted (block_of wide_lane i right)) last)
    ∙ sym (retail_of-key_of wide_lane i left right message)
