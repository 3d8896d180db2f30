use Rattle.std.proofs.Common.{◌≡◌}
use Rattle.duk_commands.proofs.WalkedText.{GoesOn}
use Rattle.duk_commands.proofs.walk.pass_numbers.Given as goal

-- the terminal has passed so many numbers, and its lines go on
abbrev pub invariant-loop-passed : goal.invariant-loop-passed
invariant-loop-passed l = record {
  same_initial : l.keys.initial ≡ l.fn.keys.initial;
  same_iksn : l.keys.iksn ≡ l.fn.keys.iksn;
  lines : GoesOn l.fn.keys l.keys l._passed;
}
