use Rattle.std.proofs.Common.{◌≤◌, ◌-◌, length, map}
use Rattle.duk_journal_host.specs.inner.Judged.{AreJudgedSoFar}
use Rattle.duk_journal_host.proofs.judge.judge_frames.Given as goal

abbrev pub invariant-loop-judged : goal.invariant-loop-judged
invariant-loop-judged g l = record {
  within : l.judged ≤ length l.frames;
  so_far : AreJudgedSoFar l.hsm (g.I.Issuer.decides l.issuer) l.kept l.room (map (λ frame. frame.items) l.frames) l.judged l.initial.index l.index l.group.answers l.group.entries;
}

abbrev pub decreases-loop-judged : goal.decreases-loop-judged
decreases-loop-judged g l = length l.frames - l.judged
