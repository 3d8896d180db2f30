use Rattle.std.proofs.Common.{refl, ◌∙◌}
use Rattle.duk_stations.proofs.PlacesInLists.{changes_at}
use Rattle.duk_books.proofs.system.System.arm_terminal.Goals as goal

pub returns : goal.returns
returns g c =
    let tills = c.self.inside.tills in
    rw (← c.self.view_is) (
      refl,
      refl,
      record {
        till = changes_at c.args.t c.in-Some.place c.len.result _ tills.items c.index_mut.result.now _ c.in-Some.ensures.0 c.in-Some.ensures.1 (c.len.ensures ∙ tills.ok.0) c.index_mut.ensures.value
            (record { armed = c.arm_terminal.ensures.armed; called = record { stays = c.arm_terminal.ensures.stays; terminal = c.arm_terminal.ensures.terminal; same_book = c.arm_terminal.ensures.same_book } });
        rest = refl;
      },
    )
