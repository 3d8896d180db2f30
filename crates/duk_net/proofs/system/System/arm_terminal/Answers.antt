use Rattle.std.proofs.Common.{refl, ◌∙◌}
use Rattle.duk_stations.proofs.PlacesInLists.{changes_at}
use Rattle.duk_net.proofs.system.System.arm_terminal.Goals as goal

pub returns : goal.returns
returns g c =
    let terminals = c.self.inside.terminals in
    rw (← c.self.view_is) (
      refl,
      refl,
      record {
        terminal = changes_at c.args.t c.in-Some.place c.len.result _ terminals.items c.index_mut.result.now _ c.in-Some.ensures.0 c.in-Some.ensures.1 (c.len.ensures ∙ terminals.ok.0) c.index_mut.ensures.value (record { armed = c.arm.ensures.armed; stays = c.arm.ensures.stays; state = c.arm.ensures.state });
        rest = refl;
      },
    )
