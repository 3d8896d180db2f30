use Rattle.std.proofs.Common.{◌≡◌, ◌-◌, ◌++◌, take, replicate}
use Rattle.duk_pin.specs.declared.digits.TheConstants.{MAX_DIGITS}
use Rattle.duk_pin.specs.Digits.{ascii_of}
use Rattle.duk_pin.proofs.digits.ascii_digits.Given as goal

abbrev pub invariant-loop-i : goal.invariant-loop-i
invariant-loop-i l = l.ascii ≡ ascii_of (take l.i l.numbers) ++ replicate (MAX_DIGITS - l.i) 0
