use Rattle.std.proofs.Common.{◌≡◌, ◌++◌, take, drop}
use Rattle.duk_components.specs.NewComponent.{key_with_odd_parity}
use Rattle.duk_components.proofs.new_component.bytes_with_odd_parity.Given as goal

-- the bytes so far have odd parity
abbrev pub invariant-loop-i : goal.invariant-loop-i
invariant-loop-i g l = l.bytes ≡ key_with_odd_parity (take l.i l.fn.key) ++ drop l.i l.fn.key
