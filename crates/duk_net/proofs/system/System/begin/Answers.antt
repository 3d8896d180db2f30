use Rattle.std.proofs.Common.{◌+◌, length, refl, ap, ◌∙◌}
use Rattle.duk_stations.proofs.PlacesInLists.{changes_at}
use Rattle.duk_net.proofs.system.System.begin.Goals as goal

pub returns-in-Ok-clause-outcome : goal.returns-in-Ok-clause-outcome
returns-in-Ok-clause-outcome g c =
    let terminals = c.self.inside.terminals in
    rw (← c.self.view_is) (
      refl,
      record {
        frame = c.in-Ok.begun.frame;
        terminal = changes_at c.args.t c.in-Some.place c.len.result _ terminals.items c.index_mut.result.now _ c.in-Some.ensures.0 c.in-Some.ensures.1 (c.len.ensures ∙ terminals.ok.0) c.index_mut.ensures.value c.in-Ok.ensures.begun;
        number = ap (λ n. n + 1) (c.len-in-Ok.ensures ∙ c.reserve.new.self.ok.0 ∙ ap length c.reserve.ensures.items);
        rest = rw (c.push_within.ensures, c.reserve.ensures.items) refl;
      },
    )

pub returns-in-Err-clause-outcome : goal.returns-in-Err-clause-outcome
returns-in-Err-clause-outcome g c =
    let terminals = c.self.inside.terminals in
    rw (← c.self.view_is) (
      refl,
      record {
        terminal = changes_at c.args.t c.in-Some.place c.len.result _ terminals.items c.index_mut.result.now _ c.in-Some.ensures.0 c.in-Some.ensures.1 (c.len.ensures ∙ terminals.ok.0) c.index_mut.ensures.value c.in-Err.ensures.refused;
        rest = rw c.reserve.ensures.items refl;
      },
    )
