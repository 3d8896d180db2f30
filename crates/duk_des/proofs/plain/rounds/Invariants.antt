use Rattle.std.proofs.Common.{◌≡◌, drop}
use Rattle.duk_des.specs.Des.{rounds}
use Rattle.duk_des.proofs.plain.rounds.Given as goal

abbrev pub invariant-loop-key : goal.invariant-loop-key
invariant-loop-key l =
    rounds (drop l.key-index l.keys) (record { left = l.left; right = l.right })
    ≡ rounds l.keys (record { left = l.fn.left; right = l.fn.right })
