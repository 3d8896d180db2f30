use Rattle.std.proofs.Common.{◌+◌, length, refl, ap, ◌∙◌}
use Rattle.duk_stations.proofs.PlacesInLists.{changes_at}
use Rattle.duk_books.proofs.system.System.begin.Goals as goal

pub returns-in-Ok-clause-outcome : goal.returns-in-Ok-clause-outcome
returns-in-Ok-clause-outcome g c =
    let tills = c.self.inside.tills in
    rw (← c.self.view_is) (
      refl,
      record {
        begun = c.in-Ok.begun;
        till = changes_at c.args.t c.in-Some.place c.len.result _ tills.items c.index_mut.result.now _ c.in-Some.ensures.0 c.in-Some.ensures.1 (c.len.ensures ∙ tills.ok.0) c.index_mut.ensures.value c.in-Ok.ensures.begun;
        number_is = refl;
        counted = ap (λ n. n + 1) (c.len-in-Ok.ensures ∙ c.reserve.new.self.ok.0 ∙ ap length c.reserve.ensures.items);
        rest = rw (c.push_within.ensures, c.reserve.ensures.items) refl;
      },
    )

pub returns-in-Err-clause-outcome : goal.returns-in-Err-clause-outcome
returns-in-Err-clause-outcome g c =
    let tills = c.self.inside.tills in
    rw (← c.self.view_is) (
      refl,
      record {
        till = changes_at c.args.t c.in-Some.place c.len.result _ tills.items c.index_mut.result.now _ c.in-Some.ensures.0 c.in-Some.ensures.1 (c.len.ensures ∙ tills.ok.0) c.index_mut.ensures.value c.in-Err.ensures.refused;
        rest = rw c.reserve.ensures.items refl;
      },
    )
