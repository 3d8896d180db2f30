use Rattle.std.proofs.Common.{◌≡◌, ◌+◌, ◌++◌, take, drop}
use Rattle.duk_pin.specs.Digits.{values}
use Rattle.duk_pin.proofs.field.with_values.Given as goal

abbrev pub invariant-loop-i : goal.invariant-loop-i
invariant-loop-i l =
    l.nibbles ≡ take l.start l.initial.nibbles ++ values (take l.i l.digits) ++ drop (l.start + l.i) l.initial.nibbles
