-- One event of a world, and what may come of it: this project's own.
use Rattle.duk_net.specs.Arm.{Arms}
use Rattle.duk_net.specs.Begin.{Begins}
use Rattle.duk_net.specs.Down.{ReachesTerminal}
use Rattle.duk_net.specs.Load.{Loads}
use Rattle.duk_net.specs.Restart.{RestartsHost, RestartsTerminal}
use Rattle.duk_net.specs.Up.{ReachesHost}
use Rattle.duk_net.specs.World.{Meanings, WorldOf}
use Rattle.duk_net.specs.declared.event.Event.{Event}
use Rattle.duk_net.specs.declared.event.Event.TheVariants as event
use Rattle.duk_net.specs.declared.outcome.Outcome.{Outcome}

-- from old, an event may have this outcome and lead to new. What is free is what the stores may do
abbrev pub Step : {C L I : Type 0} → Meanings C L I → WorldOf C L I → Event → Outcome
    → WorldOf C L I → Type 0
Step m old (event.Load t iksn) outcome new = Loads m old t iksn outcome new
Step m old (event.Begin t purchase) outcome new = Begins m old t purchase outcome new
Step m old (event.Up k) outcome new = ReachesHost m old k outcome new
Step m old (event.Down k t) outcome new = ReachesTerminal old k t outcome new
Step m old (event.RestartTerm t) outcome new = RestartsTerminal m old t outcome new
Step m old event.RestartHost outcome new = RestartsHost m old outcome new
Step m old (event.Arm which steps) outcome new = Arms m old which steps outcome new
