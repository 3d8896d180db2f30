use Rattle.std.proofs.Common.{◌≡◌, ◌*◌, length, take}
use Rattle.duk_pin.specs.Nibbles.{nibbles}
use Rattle.duk_pin.proofs.field.Field.to_block.Given as goal

abbrev pub invariant-loop-i : goal.invariant-loop-i
invariant-loop-i l =
    record {
      eight : length l.block ≡ 8;
      written : nibbles (take l.i l.block) ≡ take (2 * l.i) l.self-inside.nibbles;
    }
