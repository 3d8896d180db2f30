use Rattle.std.proofs.Common.{◌≡◌, ◌+◌, ◌-◌, ℕ, List, [], length, get_or, take, ap, ap₂, ◌∙◌, arith}
use Rattle.std.proofs.lemmas.List.{get_or-take, length-take-le}
use Rattle.duk_lanes.specs.Words.{wide_lane}
use Rattle.duk_mac.specs.Chain.{zero_block}
use Rattle.duk_mac.specs.Cmac.{first_subkey}
use Rattle.duk_tdes.specs.Key.{xor_bytes}
use Rattle.duk_tdes.specs.KeyBytes.{bytes_of}
use Rattle.duk_tdes.specs.Tdes.{tdes_encrypted}
use Rattle.duk_group.specs.Blocks.{block_of}
use Rattle.duk_group.proofs.JoinedHalves.{half_block}
use Rattle.duk_group.proofs.LaneBlocks.{block_of-bits, zeros_are_a_block}
use Rattle.duk_group.proofs.LaneMessages.{mac_after, mac_at_start, mac_one_on, mac_at_end}
use Rattle.duk_group.proofs.modes.cmac_under.Goals as goal

pub loop-block-init : goal.loop-block-init
loop-block-init c = λ i h.
    let key = bytes_of c.args.key.now in
    let blocks = c.args.blocks.now in
    ap (mac_after wide_lane i key blocks 0) (block_of-bits wide_lane i c.spread_wide-chain.result zero_block zeros_are_a_block (c.spread_wide-chain.ensures i h))
    ∙ mac_at_start wide_lane i key blocks

pub loop-block-preserved : goal.loop-block-preserved
loop-block-preserved c = λ i h.
    let key = bytes_of c.args.key.now in
    let blocks = c.args.blocks.now in
    let count = c.loop-block.block-index in
    let chain = block_of wide_lane i c.loop-block.chain in
    let front : length (take (length blocks - 1) blocks) ≡ length blocks - 1 = length-take-le (length blocks - 1) blocks (omega arith) in
    ap (mac_after wide_lane i key blocks (count + 1))
    (c.encrypt_under-chain.ensures i h
    ∙ ap (tdes_encrypted key) (c.xor.ensures i h ∙ ap (λ words. xor_bytes chain (block_of wide_lane i words)) (get_or-take (length blocks - 1) blocks count [] (omega arith))))
    ∙ mac_one_on wide_lane i key blocks count chain [] (omega arith)
    ∙ c.loop-block.invariant i h

pub returns : goal.returns
returns c = λ i h.
    let key = bytes_of c.args.key.now in
    let blocks = c.args.blocks.now in
    let count = c.loop-block.block-index in
    let chain = block_of wide_lane i c.loop-block.chain in
    let front : length (take (length blocks - 1) blocks) ≡ length blocks - 1 = length-take-le (length blocks - 1) blocks (omega arith) in
    let last : length blocks - 1 ≡ count = omega arith in
    let subkey : block_of wide_lane i c.spread_wide.result ≡ first_subkey key =
    block_of-bits wide_lane i c.spread_wide.result c.bytes.result (half_block c.bytes.ensures.key c.bytes.ensures.bytes) (c.spread_wide.ensures i h) ∙ c.bytes.ensures.bytes ∙ c.first_subkey.ensures in
    c.encrypt_under.ensures i h
    ∙ ap (tdes_encrypted key)
    (c.xor-2.ensures i h
    ∙ ap (xor_bytes chain)
    (c.xor-masked.ensures i h ∙ ap₂ (λ (place : ℕ) (mask : List ℕ). xor_bytes (block_of wide_lane i (get_or blocks place [])) mask) last subkey))
    ∙ mac_at_end wide_lane i key blocks count chain [] (omega arith)
    ∙ c.loop-block.invariant i h
