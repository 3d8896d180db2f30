use Rattle.std.proofs.Common.{◌≡◌, length, map, take}
use Rattle.duk_group.specs.declared.transposed.TheConstants.{WIDTH}
use Rattle.duk_hsm.specs.Group.{numbers_of}
use Rattle.duk_journal_host.specs.Steps.{number_in}
use Rattle.duk_journal_host.proofs.answer.asked_for.Given as goal

abbrev pub invariant-loop-place : goal.invariant-loop-place
invariant-loop-place l = record {
  size : length l.asked ≡ WIDTH;
  numbers : numbers_of (take l.place l.asked) ≡ map number_in (take l.place l.settled);
}
