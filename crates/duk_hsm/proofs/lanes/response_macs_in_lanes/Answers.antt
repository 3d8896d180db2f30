use Rattle.std.proofs.Common.{◌<◌, ap, ◌∙◌, arith}
use Rattle.duk_group.specs.Blocks.{block_of}
use Rattle.duk_group.specs.Numbers.{message_at}
use Rattle.duk_group.specs.declared.transposed.TheConstants.{WIDTH}
use Rattle.duk_mac.specs.Retail.{retail_of}
use Rattle.duk_tree.specs.Derivation.{response_key_of}
use Rattle.duk_hsm.proofs.lanes.response_macs_in_lanes.Goals as goal

pub returns : goal.returns
unfolding block_of
returns c = λ i here.
    let lane : i < WIDTH = omega (arith, here, c.requires.few) in
    let text = message_at c.args.texts.now i in
    c.scatter_wide.ensures i (omega (arith, lane))
    ∙ c.retail_macs.ensures i here
    ∙ ap (λ key. retail_of key text) (c.response_keys-keys.ensures i (omega (arith, lane)) ∙ ap response_key_of (c.gather_keys.ensures i (omega (arith, lane))))
