use Rattle.std.proofs.Common.{◌<◌, refl, inr, subst, ◌∙◌}
use Rattle.duk_stations.proofs.PlacesInLists.{is_at, stands_at}
use Rattle.duk_books.proofs.system.System.down.Goals as goal

pub returns-clause-outcome : goal.returns-clause-outcome
returns-clause-outcome g c =
    let tills = c.self.inside.tills in
    let answers = c.self.inside.answers in
    rw (← c.self.view_is) (inr (inr (record {
      frame = c.index.result.now;
      sent = is_at answers.items c.args.k c.in-Some-place_of.sent c.len-2.result c.index.result.now c.in-Some-place_of.ensures.0 c.in-Some-place_of.ensures.1 (c.len-2.ensures ∙ answers.ok.0) c.index.ensures;
      till = record {
        place = c.in-Some.place;
        before = c.index_mut-till.result.now;
        after = c.take_answer-outcome.new.till;
        number_is = c.in-Some.ensures.0;
        was = stands_at tills.items c.in-Some.place c.index_mut-till.result.now (subst (λ n. c.in-Some.place < n) (c.len.ensures ∙ tills.ok.0) c.in-Some.ensures.1) c.index_mut-till.ensures.value;
        changed = c.take_answer-outcome.ensures;
        others = refl;
      };
      sales = rw (c.reserve.ensures.items, c.state-state.ensures) at c.enter_approved.ensures;
      rest = refl;
    })))
