use Rattle.std.proofs.Common.{◌+◌, length, refl, sym, ap, ◌∙◌}
use Rattle.duk_stations.proofs.PlacesInLists.{changes_at}
use Rattle.duk_books.proofs.system.System.reverse.Goals as goal

pub returns-in-Ok-clause-outcome : goal.returns-in-Ok-clause-outcome
returns-in-Ok-clause-outcome g c =
    let tills = c.self.inside.tills in
    let begun = c.in-Ok.ensures.begun in
    let is_reversal = c.reversals.ensures _ _ _ _ _ begun.terminal in
    rw (← c.self.view_is) (
      refl,
      record {
        begun = c.in-Ok.begun;
        reversal = _;
        till = changes_at c.args.t c.in-Some.place c.len.result _ tills.items c.index_mut.result.now _ c.in-Some.ensures.0 c.in-Some.ensures.1 (c.len.ensures ∙ tills.ok.0) c.index_mut.ensures.value begun;
        is_reversal = is_reversal;
        number_is = sym begun.terminal.ksn_is;
        reversed_is = sym (c.reversed_by-reversed.ensures _ is_reversal);
        counted = ap (λ n. n + 1) (c.len-in-Ok.ensures ∙ c.reserve.new.self.ok.0 ∙ ap length c.reserve.ensures.items);
        rest = rw (c.push_within.ensures, c.reserve.ensures.items) refl;
      },
    )

pub returns-in-Err-clause-outcome : goal.returns-in-Err-clause-outcome
returns-in-Err-clause-outcome g c =
    let tills = c.self.inside.tills in
    rw (← c.self.view_is) (
      refl,
      record {
        till = changes_at c.args.t c.in-Some.place c.len.result _ tills.items c.index_mut.result.now _ c.in-Some.ensures.0 c.in-Some.ensures.1 (c.len.ensures ∙ tills.ok.0) c.index_mut.ensures.value c.in-Err.ensures.refused;
        rest = rw c.reserve.ensures.items refl;
      },
    )

pub reversed_by-reversed-requires : goal.reversed_by-reversed-requires
reversed_by-reversed-requires g c = (_, c.reversals.ensures _ _ _ _ _ c.in-Ok.ensures.begun.terminal)
