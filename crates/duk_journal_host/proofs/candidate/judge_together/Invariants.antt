use Rattle.std.proofs.Common.{◌≡◌, length, map, take}
use Rattle.duk_journal_host.specs.Candidate.{ArePaired, IsJudgedTo}
use Rattle.duk_journal_host.proofs.candidate.judge_together.Given as goal

abbrev pub invariant-loop-place : goal.invariant-loop-place
invariant-loop-place g l = record {
  counted : length l.judgements.items ≡ l.place;
  judged : ArePaired (IsJudgedTo l.hsm (g.I.Issuer.decides l.issuer)) (map (λ frame. frame.items) (take l.place l.frames)) l.judgements.items;
}
