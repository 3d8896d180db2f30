use Rattle.std.proofs.Common.{ap, ◌∙◌, lit<}
use Rattle.duk_lanes.specs.Words.{wide_lane}
use Rattle.duk_mac.specs.Chain.{zero_block}
use Rattle.duk_mac.specs.Cmac.{doubled}
use Rattle.duk_tdes.specs.KeyBytes.{bytes_of}
use Rattle.duk_tdes.specs.Tdes.{tdes_encrypted}
use Rattle.duk_group.specs.Blocks.{block_of}
use Rattle.duk_group.proofs.LaneBlocks.{block_of-bits, zeros_are_a_block}
use Rattle.duk_group.proofs.modes.first_subkey.Goals as goal

pub returns : goal.returns
unfolding block_of
returns c =
    c.new.ensures
    ∙ c.double_block.ensures
    ∙ ap doubled
    (c.scatter_wide.ensures 0 (lit< tt)
    ∙ c.encrypt_under-zeros.ensures 0 (lit< tt)
    ∙ ap (tdes_encrypted (bytes_of c.args.key.now)) (block_of-bits wide_lane 0 c.spread_wide.result zero_block zeros_are_a_block (c.spread_wide.ensures 0 (lit< tt))))
