use Rattle.duk_net.specs.Gained.{GainedMeet}
use Rattle.duk_net.specs.Reached.{CallLeads, Reached}
use Rattle.duk_net.specs.World.{meanings_of}
use Rattle.duk_net.proofs.worlds.ReachedByMoves.{call_leads, gained_so, reached_leads}
use Rattle.duk_net.proofs.runs.run.Goals as goal

-- what the call leads from and to
leads : (g : _) (c : goal.After-run_system g)
    → GainedMeet (λ outcomes. CallLeads (meanings_of g.C.Cell.meaning g.L.UsedLog.meaning g.I.Issuer.decides) c.world.inside.system outcomes c.run_system.new.system) c.args.out.now.items c.run_system.new.out.items
leads g c = call_leads _ c.world.inside.system c.args.events.now c.args.out.now.items c.run_system.new.out.items c.run_system.new.system c.run_system.result c.run_system.ensures.run c.run_system.ensures.refused

reached : (g : _) (c : goal.After-run_system g)
    → Reached (meanings_of g.C.Cell.meaning g.L.UsedLog.meaning g.I.Issuer.decides) c.run_system.new.system
reached g c = let led = leads g c in reached_leads _ c.world.inside.system c.run_system.new.system led.outcomes c.world.invariant led.holds

pub invariant_of-world : goal.invariant_of-world
invariant_of-world g c = reached g c

pub returns-clause-used_once : goal.returns-clause-used_once
returns-clause-used_once g c = c.used_once.ensures.used_once c.run_system.new.system (reached g c)

pub returns-clause-used_are_owned : goal.returns-clause-used_are_owned
returns-clause-used_are_owned g c = c.used_once.ensures.used_are_owned c.run_system.new.system (reached g c)

pub returns-clause-owned_when_sent : goal.returns-clause-owned_when_sent
returns-clause-owned_when_sent g c =
    rw (← c.world.view_is) (gained_so _ _ c.args.out.now.items c.run_system.new.out.items (λ outcomes. c.used_once.ensures.owned_when_sent c.world.inside.system c.run_system.new.system outcomes c.world.invariant) (leads g c))

pub returns-clause-sent_by_owner : goal.returns-clause-sent_by_owner
returns-clause-sent_by_owner g c =
    gained_so _ _ c.args.out.now.items c.run_system.new.out.items (λ outcomes. c.used_once.ensures.sent_by_owner c.world.inside.system c.run_system.new.system outcomes c.world.invariant) (leads g c)

pub returns-clause-accepted_once : goal.returns-clause-accepted_once
returns-clause-accepted_once g c =
    rw (← c.world.view_is) (gained_so _ _ c.args.out.now.items c.run_system.new.out.items (λ outcomes. c.accepted_once.ensures.accepted_once c.world.inside.system c.run_system.new.system outcomes c.world.invariant) (leads g c))

pub returns-clause-accepted_is_kept : goal.returns-clause-accepted_is_kept
returns-clause-accepted_is_kept g c = c.accepted_once.ensures.accepted_is_kept c.run_system.new.system (reached g c)

pub returns-clause-own_key_of_requests : goal.returns-clause-own_key_of_requests
returns-clause-own_key_of_requests g c = c.own_key.ensures.own_key_of_requests c.run_system.new.system (reached g c)

pub returns-clause-own_key_of_replies : goal.returns-clause-own_key_of_replies
returns-clause-own_key_of_replies g c = c.own_key.ensures.own_key_of_replies c.run_system.new.system (reached g c)

pub returns-clause-refused_as_used_or_full : goal.returns-clause-refused_as_used_or_full
returns-clause-refused_as_used_or_full g c =
    gained_so _ _ c.args.out.now.items c.run_system.new.out.items (λ outcomes. c.own_key.ensures.refused_as_used_or_full c.world.inside.system c.run_system.new.system outcomes c.world.invariant) (leads g c)

pub returns-clause-completed_by_host : goal.returns-clause-completed_by_host
returns-clause-completed_by_host g c =
    rw (← c.world.view_is) (gained_so _ _ c.args.out.now.items c.run_system.new.out.items (λ outcomes. c.completed_by_host.ensures c.world.inside.system c.run_system.new.system outcomes c.world.invariant) (leads g c))

pub returns-clause-above_used : goal.returns-clause-above_used
returns-clause-above_used g c = c.no_used_key.ensures.above_used c.run_system.new.system (reached g c)

pub returns-clause-no_used_key : goal.returns-clause-no_used_key
returns-clause-no_used_key g c = c.no_used_key.ensures.no_used_key c.run_system.new.system (reached g c)

pub returns-clause-version_2 : goal.returns-clause-version_2
returns-clause-version_2 g c = c.no_used_key.ensures.version_2 c.run_system.new.system (reached g c)

pub returns-clause-owners_stay : goal.returns-clause-owners_stay
returns-clause-owners_stay g c =
    let led = leads g c in
    rw (← c.world.view_is) (c.what_stays.ensures.owners c.world.inside.system c.run_system.new.system led.outcomes c.world.invariant led.holds)

pub returns-clause-keys_stay : goal.returns-clause-keys_stay
returns-clause-keys_stay g c =
    let led = leads g c in
    rw (← c.world.view_is) (c.what_stays.ensures.keys c.world.inside.system c.run_system.new.system led.outcomes c.world.invariant led.holds)

pub returns-clause-sound : goal.returns-clause-sound
returns-clause-sound g c =
    let led = leads g c in
    rw (← c.world.view_is) (λ sound. c.calm_stores.ensures.sound c.world.inside.system c.run_system.new.system led.outcomes c.world.invariant sound led.holds)

pub returns-clause-no_damage : goal.returns-clause-no_damage
returns-clause-no_damage g c =
    rw (← c.world.view_is) (λ sound. gained_so _ _ c.args.out.now.items c.run_system.new.out.items
    (λ outcomes. c.calm_stores.ensures.no_damage c.world.inside.system c.run_system.new.system outcomes c.world.invariant sound) (leads g c))

pub returns-clause-calm : goal.returns-clause-calm
returns-clause-calm g c =
    rw (← c.world.view_is) (λ end calm. gained_so _ _ c.args.out.now.items c.run_system.new.out.items
    (λ outcomes. c.calm_stores.ensures.calm end c.world.inside.system c.run_system.new.system outcomes c.world.invariant calm) (leads g c))

pub returns-clause-once_armed : goal.returns-clause-once_armed
returns-clause-once_armed g c =
    rw (← c.world.view_is) (λ end calm. gained_so _ _ c.args.out.now.items c.run_system.new.out.items
    (λ outcomes. c.calm_stores.ensures.once_armed end c.world.inside.system c.run_system.new.system outcomes c.world.invariant calm) (leads g c))
