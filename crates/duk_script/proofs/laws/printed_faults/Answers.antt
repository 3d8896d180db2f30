use Rattle.duk_net.specs.World.{meanings_of}
use Rattle.duk_script.proofs.CalmFirstWorld.{CallLaws, fails_once_armed, reports_no_damage}
use Rattle.duk_script.proofs.laws.printed_faults.Goals as goal
use Rattle.duk_script.proofs.laws.printed_faults.Goals.{After-what_stays}

laws_of : (g : _) → After-what_stays g → CallLaws (meanings_of g.C.Cell.meaning g.L.UsedLog.meaning g.I.Issuer.decides)
laws_of g c = record {
  reached = c.what_stays.ensures.reached;
  sound = c.calm_restarts.ensures.sound;
  calm = c.calm_restarts.ensures.calm;
  no_damage = c.calm_stores.ensures.no_damage;
  once_armed = c.calm_stores.ensures.once_armed;
}

pub returns-clause-no_damage : goal.returns-clause-no_damage
returns-clause-no_damage g c first events outcomes played = reports_no_damage _ first events outcomes (laws_of g c) played

pub returns-clause-once_armed : goal.returns-clause-once_armed
returns-clause-once_armed g c end' first events outcomes played = fails_once_armed _ first events outcomes (laws_of g c) played end'
