use Rattle.std.proofs.Common.{◌≡◌, ◌-◌, ◌++◌, take, replicate, All}
use Rattle.std.specs.Char.{IsAsciiDigit}
use Rattle.duk_pin.specs.declared.digits.TheConstants.{MAX_DIGITS}
use Rattle.duk_pin.proofs.digits.Digits.parse.Given as goal

abbrev pub invariant-loop-i : goal.invariant-loop-i
invariant-loop-i l =
    record {
      copied : l.ascii ≡ take l.i l.text ++ replicate (MAX_DIGITS - l.i) 0;
      digits : All IsAsciiDigit (take l.i l.text);
    }
