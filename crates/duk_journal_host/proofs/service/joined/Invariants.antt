use Rattle.std.proofs.Common.{◌≡◌, ◌≤◌, ◌*◌, length, map, take}
use Rattle.std.specs.List.{concat}
use Rattle.duk_journal_host.proofs.service.joined.Given as goal

abbrev pub invariant-loop-answer : goal.invariant-loop-answer
invariant-loop-answer g l = record {
  text : l.text.items ≡ concat (map (λ answer. answer.items) (take l.answer-index l.answers));
  short : length l.text.items ≤ 64 * l.answer-index;
}
