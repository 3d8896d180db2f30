use Rattle.std.proofs.Common.{◌≡◌, length, take}
use Rattle.duk_journal_host.specs.Candidate.{ArePaired, IsAnswered}
use Rattle.duk_journal_host.proofs.answer.answer_together.Given as goal

abbrev pub invariant-loop-place : goal.invariant-loop-place
invariant-loop-place g l = record {
  counted : length l.answers.items ≡ l.place;
  are : ArePaired (IsAnswered l.hsm) (take l.place l.settled) l.answers.items;
}
