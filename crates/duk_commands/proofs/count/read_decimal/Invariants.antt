use Rattle.std.proofs.Common.{◌≡◌, ◌≤◌, take, All}
use Rattle.std.specs.Char.{IsAsciiDigit}
use Rattle.duk_commands.specs.Decimal.{number_of_digits}
use Rattle.duk_commands.proofs.count.read_decimal.Given as goal

-- the digits so far write the number so far
abbrev pub invariant-loop-digit : goal.invariant-loop-digit
invariant-loop-digit l = record {
  value : number_of_digits (take l.digit-index l.text) ≡ l.number;
  digits : All IsAsciiDigit (take l.digit-index l.text);
  fits : l.number ≤ l.most;
}
