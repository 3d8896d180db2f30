use Rattle.std.proofs.Common.{◌<◌, refl, inr, subst, ◌∙◌}
use Rattle.duk_stations.proofs.PlacesInLists.{stands_at}
use Rattle.duk_books.proofs.system.System.restart_till.Goals as goal

pub returns-clause-outcome : goal.returns-clause-outcome
returns-clause-outcome g c =
    let tills = c.self.inside.tills in
    rw (← c.self.view_is) (inr (record {
      till = record {
        place = c.in-Some.place;
        before = c.index_mut-till.result.now;
        after = c.restart-outcome.new.till;
        number_is = c.in-Some.ensures.0;
        was = stands_at tills.items c.in-Some.place c.index_mut-till.result.now (subst (λ n. c.in-Some.place < n) (c.len.ensures ∙ tills.ok.0) c.in-Some.ensures.1) c.index_mut-till.ensures.value;
        changed = c.restart-outcome.ensures;
        others = refl;
      };
      sales = rw (c.reserve.ensures.items, c.state-state.ensures) at c.enter_approved.ensures;
      rest = refl;
    }))
