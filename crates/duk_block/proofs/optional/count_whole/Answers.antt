use Rattle.std.proofs.Common.{◌≡◌, ◌<◌, length, arith}
use Rattle.duk_block.proofs.WholeBlocks.{at_end, follow_next, nothing_tested, onward_next, something_tested, stuck}
use Rattle.duk_block.proofs.optional.count_whole.Goals as goal

pub returns-then-is_empty : goal.returns-then-is_empty
returns-then-is_empty c =
    let none : length c.loop-count.rest.now ≡ 0 = nothing_tested (length c.loop-count.rest.now) c.is_empty.result c.is_empty.ensures c.if-is_empty.true in
    let below : c.loop-count.count < 100 = omega arith in
    (below, at_end c.args.text.now c.loop-count.rest.now c.loop-count.count none c.loop-count.invariant.onward)

pub returns-in_err-rest : goal.returns-in_err-rest
returns-in_err-rest c =
    rw c.from_residual.ensures (λ total below leaves.
    stuck c.loop-count.rest.now c.loop-count.count total (something_tested (length c.loop-count.rest.now) c.is_empty.result c.is_empty.ensures c.if-is_empty.false) c.in_err-rest.ensures (c.loop-count.invariant.back total leaves))

pub loop-count-preserved : goal.loop-count-preserved
loop-count-preserved c = record {
  onward = λ more leaves. onward_next c.args.text.now c.loop-count.rest.now c.in_ok-rest.rest.now c.loop-count.count more c.in_ok-rest.ensures c.loop-count.invariant.onward leaves;
  back = λ total leaves. follow_next c.loop-count.rest.now c.in_ok-rest.rest.now c.loop-count.count total c.in_ok-rest.ensures (c.loop-count.invariant.back total leaves);
}

pub returns : goal.returns
returns c = λ total below leaves.
    let follow = c.loop-count.invariant.back total leaves in
    absurd (omega (arith, follow.total_is, below))
