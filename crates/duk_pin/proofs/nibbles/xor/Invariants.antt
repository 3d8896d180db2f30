use Rattle.std.proofs.Common.{◌≡◌, length, take}
use Rattle.duk_pin.specs.Nibbles.{xor_nibbles}
use Rattle.duk_pin.proofs.nibbles.xor.Given as goal

abbrev pub invariant-loop-i : goal.invariant-loop-i
invariant-loop-i l =
    record {
      sixteen : length l.nibbles ≡ 16;
      written : take l.i l.nibbles ≡ xor_nibbles (take l.i l.left) (take l.i l.right);
    }
