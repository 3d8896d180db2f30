use Rattle.std.proofs.Common.{◌≤◌, get_or, length, refl, sym, ap, ◌∙◌, length-set, arith}
use Rattle.duk_des.specs.Des.{schedule, round_keys}
use Rattle.duk_des.specs.Tables.{rotations}
use Rattle.duk_des.proofs.SideBySide.{both}
use Rattle.duk_des.proofs.OneMoreRoundKey.{one_more, no_more, rotation_fits}
use Rattle.duk_des.proofs.schedule.round_keys.Goals as goal

pub loop-i-init : goal.loop-i-init
unfolding round_keys
loop-i-init c = record {
  length_is = refl;
  left_is = ap length c.permute-c.ensures;
  right_is = ap length c.permute-d.ensures;
  scheduled = both (schedule rotations) c.permute-c.ensures c.permute-d.ensures;
}

pub rotate_left-requires : goal.rotate_left-requires
rotate_left-requires c = let fits : get_or rotations c.loop-i.i 0 ≤ 2 = rotation_fits c.loop-i.i in omega (arith, fits, c.loop-i.invariant.left_is)

pub rotate_left-requires-in-loop-i : goal.rotate_left-requires-in-loop-i
rotate_left-requires-in-loop-i c = let fits : get_or rotations c.loop-i.i 0 ≤ 2 = rotation_fits c.loop-i.i in omega (arith, fits, c.loop-i.invariant.right_is)

pub loop-i-preserved : goal.loop-i-preserved
loop-i-preserved c = record {
  length_is = rw length-set c.loop-i.invariant.length_is;
  left_is = c.rotate_left.ensures.len ∙ c.loop-i.invariant.left_is;
  right_is = c.rotate_left-in-loop-i.ensures.len ∙ c.loop-i.invariant.right_is;
  scheduled =
      one_more rotations c.loop-i.i c.loop-i.keys c.loop-i.c c.loop-i.d (omega arith) (omega (arith, c.loop-i.invariant.length_is))
      c.rotate_left.ensures.after c.rotate_left-in-loop-i.ensures.after c.round_key.ensures
      ∙ c.loop-i.invariant.scheduled;
}

pub returns : goal.returns
returns c =
    sym (no_more rotations c.loop-i.i c.loop-i.keys c.loop-i.c c.loop-i.d (omega arith) (omega (arith, c.loop-i.invariant.length_is)))
    ∙ c.loop-i.invariant.scheduled
