use Rattle.std.proofs.Common.{◌≡◌, arith, map, subst, take}
use Rattle.std.proofs.lemmas.List.{length-map, take_all}
use Rattle.duk_journal_host.specs.inner.Judged.{JudgesFrames}
use Rattle.duk_journal_host.proofs.judge.judge_frames.Goals as goal

pub loop-judged-preserved : goal.loop-judged-preserved
loop-judged-preserved g c = record {
  within = c.in_ok-judged.ensures.within;
  so_far = c.in_ok-judged.ensures.judged c.args.index.now c.loop-judged.invariant.so_far;
}

pub returns-clause-judged : goal.returns-clause-judged
returns-clause-judged g c = λ capacity room_is.
    let frames = map (λ frame. frame.items) c.args.frames.now in
    let group = c.loop-judged.group in
    let all : take c.loop-judged.judged frames ≡ frames = take_all c.loop-judged.judged frames (omega (arith, c.loop-judged-test.false, length-map c.args.frames.now (λ frame. frame.items))) in
    subst (λ frames. JudgesFrames c.args.hsm.now (g.I.Issuer.decides c.args.issuer.now) capacity c.args.room frames c.args.index.now c.loop-judged.index group.answers group.entries) all
    (c.loop-judged.invariant.so_far.judged capacity room_is)
