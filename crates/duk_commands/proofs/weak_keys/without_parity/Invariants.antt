use Rattle.std.proofs.Common.{◌≡◌, ◌++◌, take, drop}
use Rattle.duk_commands.specs.WeakKeys.{without_parity}
use Rattle.duk_commands.proofs.weak_keys.without_parity.Given as goal

-- the bytes so far are without parity
abbrev pub invariant-loop-i : goal.invariant-loop-i
invariant-loop-i l = l.bits ≡ without_parity (take l.i l.key) ++ drop l.i l.key
