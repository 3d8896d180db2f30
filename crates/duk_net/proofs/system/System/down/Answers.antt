use Rattle.std.proofs.Common.{refl, inr, ◌∙◌}
use Rattle.duk_stations.proofs.PlacesInLists.{changes_at, is_at}
use Rattle.duk_net.proofs.system.System.down.Goals as goal

pub returns : goal.returns
returns g c =
    let terminals = c.self.inside.terminals in
    let answers = c.self.inside.answers in
    rw (← c.self.view_is) (inr (inr (record {
      frame = c.index.result.now;
      sent = is_at answers.items c.args.k c.in-Some-place_of.sent c.len-2.result c.index.result.now c.in-Some-place_of.ensures.0 c.in-Some-place_of.ensures.1 (c.len-2.ensures ∙ answers.ok.0) c.index.ensures;
      change = record {
        terminal = changes_at c.args.t c.in-Some.place c.len.result _ terminals.items c.index_mut.result.now _ c.in-Some.ensures.0 c.in-Some.ensures.1 (c.len.ensures ∙ terminals.ok.0) c.index_mut.ensures.value c.reply.ensures;
        rest = refl;
      };
    })))
