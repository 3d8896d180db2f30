use Rattle.std.proofs.Common.{◌≢◌, AllPairs, take}
use Rattle.duk_regs.proofs.past.are_different.Given as goal

abbrev pub invariant-loop-place : goal.invariant-loop-place
invariant-loop-place l = AllPairs (λ one other. one ≢ other) (take l.place l.iksns)
