use Rattle.std.proofs.Common.{◌≡◌, All}
use Rattle.duk_tree.specs.Serial.{IsIksn}
use Rattle.duk_regs.specs.Image.{past_of}
use Rattle.duk_regs.proofs.past_image.read_places.Given as goal

abbrev pub invariant-loop-place : goal.invariant-loop-place
invariant-loop-place l = record {
  read : l.past ≡ past_of l.image l.place;
  iksns : All IsIksn l.past;
}
