use Rattle.std.proofs.Common.{◌≡◌, length, map, take}
use Rattle.duk_group.specs.declared.transposed.TheConstants.{WIDTH}
use Rattle.duk_hsm.specs.Group.{numbers_of}
use Rattle.duk_journal_host.specs.inner.Judged.{AreNumbersOf}
use Rattle.duk_journal_host.proofs.opening.asked_by_all.Given as goal

abbrev pub invariant-loop-place : goal.invariant-loop-place
invariant-loop-place l = record {
  size : length l.asked ≡ WIDTH;
  numbers : AreNumbersOf (map (λ frame. frame.items) (take l.place l.frames)) (numbers_of (take l.place l.asked));
}
