use Rattle.std.proofs.Common.{◌≡◌, ◌*◌, ◌<◌, length, take, All}
use Rattle.duk_pin.specs.Nibbles.{nibbles}
use Rattle.duk_pin.proofs.nibbles.split.Given as goal

abbrev pub invariant-loop-i : goal.invariant-loop-i
invariant-loop-i l =
    record {
      sixteen : length l.nibbles ≡ 16;
      nibbles_fit : All (λ nibble. nibble < 16) l.nibbles;
      written : take (2 * l.i) l.nibbles ≡ nibbles (take l.i l.block);
    }
