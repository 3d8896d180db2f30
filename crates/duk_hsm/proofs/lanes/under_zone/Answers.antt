use Rattle.std.proofs.Common.{◌≡◌, Some, ap, ◌∙◌, arith}
use Rattle.duk_group.specs.Blocks.{block_of}
use Rattle.duk_lanes.specs.Words.{wide_lane}
use Rattle.duk_hsm.specs.inner.Known.{under}
use Rattle.duk_hsm.proofs.lanes.under_zone.Goals as goal

pub returns-in-Some : goal.returns-in-Some
unfolding block_of
returns-in-Some c = λ i h.
    ap Some (c.scatter_wide.ensures i (omega arith) ∙ c.encrypt_under.ensures i h)
    ∙ ap (λ zone. under zone (block_of wide_lane i c.args.blocks.now)) (let held : Some c.in-Some.zone ≡ c.args.zone.now = cc in held)
