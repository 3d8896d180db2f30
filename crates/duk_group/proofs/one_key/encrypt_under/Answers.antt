use Rattle.std.proofs.Common.{ℕ, List, refl, ap₂, ◌∙◌, arith}
use Rattle.duk_des.specs.Des.{des_encrypted, des_decrypted}
use Rattle.duk_lanes.specs.Words.{wide_lane}
use Rattle.duk_tdes.specs.Tdes.{tdes_encrypted}
use Rattle.duk_group.proofs.JoinedHalves.{half_block}
use Rattle.duk_group.proofs.LaneBlocks.{block_of-bits}
use Rattle.duk_group.proofs.one_key.encrypt_under.Goals as goal

pub returns : goal.returns
unfolding tdes_encrypted
returns c = λ i h.
    c.des_encrypt.ensures i (omega arith)
    ∙ ap₂ (λ (key block : List ℕ). des_encrypted key block)
    (block_of-bits wide_lane i c.spread_wide-3.result c.bytes-3.result (half_block c.bytes-3.ensures.key c.bytes-3.ensures.bytes) (c.spread_wide-3.ensures i (omega arith)) ∙ c.bytes-3.ensures.bytes ∙ c.single_keys-k1.ensures.third)
    (c.des_decrypt-second.ensures i (omega arith)
    ∙ ap₂ (λ (key block : List ℕ). des_decrypted key block)
    (block_of-bits wide_lane i c.spread_wide-2.result c.bytes-2.result (half_block c.bytes-2.ensures.key c.bytes-2.ensures.bytes) (c.spread_wide-2.ensures i (omega arith)) ∙ c.bytes-2.ensures.bytes ∙ c.single_keys-k1.ensures.second)
    (c.des_encrypt-first.ensures i (omega arith)
    ∙ ap₂ (λ (key block : List ℕ). des_encrypted key block)
    (block_of-bits wide_lane i c.spread_wide.result c.bytes.result (half_block c.bytes.ensures.key c.bytes.ensures.bytes) (c.spread_wide.ensures i (omega arith)) ∙ c.bytes.ensures.bytes ∙ c.single_keys-k1.ensures.first)
    refl))
