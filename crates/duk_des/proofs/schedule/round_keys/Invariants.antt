use Rattle.std.proofs.Common.{◌≡◌, ◌++◌, length, take, drop}
use Rattle.duk_des.specs.Des.{schedule, round_keys}
use Rattle.duk_des.specs.Tables.{rotations}
use Rattle.duk_des.proofs.schedule.round_keys.Given as goal

abbrev pub invariant-loop-i : goal.invariant-loop-i
invariant-loop-i l =
    record {
      length_is : length l.keys ≡ 16;
      left_is : length l.c ≡ 28;
      right_is : length l.d ≡ 28;
      scheduled : take l.i l.keys ++ schedule (drop l.i rotations) l.c l.d ≡ round_keys l.fn.key;
    }
