use Rattle.std.proofs.Common.{◌+◌, lit<, arith}
use Rattle.duk_tdes.specs.KeyBytes.{bytes_of}
use Rattle.duk_group.specs.Blocks.{block_of}
use Rattle.duk_group.specs.Numbers.{bytes_at}
use Rattle.duk_group.proofs.DerivationBlocks.{step_in_lane}
use Rattle.duk_group.proofs.protection.derivation_steps.Goals as goal

pub returns-clause-encryption : goal.returns-clause-encryption
unfolding block_of
returns-clause-encryption c = λ step h.
    step_in_lane step (1 + step) 0x00 c.args.size (bytes_of c.args.protection.now) (bytes_at c.scatter_wide.result step) (bytes_at c.loop-step.inputs step) c.gather_blocks.result c.cmac_under.result
    (omega arith) (lit< tt) c.requires (c.loop-step.invariant.encryption step (omega arith)) (c.gather_blocks.ensures step (omega arith)) (c.cmac_under.ensures step (omega arith)) (c.scatter_wide.ensures step (omega arith))

pub returns-clause-mac : goal.returns-clause-mac
unfolding block_of
returns-clause-mac c = λ step h.
    step_in_lane (3 + step) (1 + step) 0x01 c.args.size (bytes_of c.args.protection.now) (bytes_at c.scatter_wide.result (3 + step)) (bytes_at c.loop-step.inputs (3 + step)) c.gather_blocks.result c.cmac_under.result
    (omega arith) (lit< tt) c.requires (c.loop-step.invariant.mac step (omega arith)) (c.gather_blocks.ensures (3 + step) (omega arith)) (c.cmac_under.ensures (3 + step) (omega arith)) (c.scatter_wide.ensures (3 + step) (omega arith))
