use Rattle.std.proofs.Common.{ℕ, List, [], ◌++◌, get_or, sym, ap₂, ◌∙◌, arith}
use Rattle.duk_lanes.specs.Words.{wide_lane}
use Rattle.duk_group.specs.Blocks.{block_of}
use Rattle.duk_group.proofs.PartsOfMessages.{message_of_three, three_appended}
use Rattle.duk_group.proofs.key_blocks.scatter_payloads.Goals as goal

pub returns : goal.returns
unfolding block_of
returns c = λ i h.
    let blocks = c.args.blocks.now in
    let lane : ℕ → List ℕ = λ place. block_of wide_lane i (get_or blocks place []) in
    c.loop-i.invariant.below i (omega arith)
    ∙ ap₂ (λ (a b : List ℕ). a ++ b) (ap₂ (λ (a b : List ℕ). a ++ b) (c.scatter_wide-first.ensures i h) (c.scatter_wide-second.ensures i h)) (c.scatter_wide-third.ensures i h)
    ∙ sym (message_of_three wide_lane i blocks c.told-blocks ∙ three_appended (lane 0) (lane 1) (lane 2))
