use Rattle.std.proofs.Common.{◌≡◌, true, false, None, refl, inl, inr, sym, subst, replicate, ◌∙◌}
use Rattle.duk_hsm.specs.Commands.{IsIssued}
use Rattle.duk_hsm.specs.Keys.{key_set_of}
use Rattle.duk_tree.specs.Serial.{iksn_prefix_of}
use Rattle.duk_stations.specs.Owner.{IsElsewhere}
use Rattle.duk_stations.proofs.IssuedKeys.{no_key_set}
use Rattle.duk_stations.proofs.PlacesInLists.{changes_at, has_one}
use Rattle.duk_net.proofs.system.System.load.Goals as goal

not_both : false ≡ true → ⊥
not_both same = cc

pub returns-then-is_elsewhere-clause-outcome : goal.returns-then-is_elsewhere-clause-outcome
returns-then-is_elsewhere-clause-outcome g c =
    let terminals = c.self.inside.terminals in
    rw (← c.self.view_is) (inr (inl (record {
      there = has_one terminals.items c.args.t c.in-Some.place c.len.result c.in-Some.ensures.0 c.in-Some.ensures.1 (c.len.ensures ∙ terminals.ok.0);
      elsewhere = subst (λ owners. IsElsewhere owners c.args.iksn c.args.t) c.as_slice.ensures.value (c.if-is_elsewhere.ensures.0 refl);
      outcome_is = refl;
      same = refl;
    })))

pub returns-in_default-issue-clause-outcome : goal.returns-in_default-issue-clause-outcome
returns-in_default-issue-clause-outcome g c =
    let terminals = c.self.inside.terminals in
    rw (← c.self.view_is) (inr (inr (inl (record {
      may = record {
        there = has_one terminals.items c.args.t c.in-Some.place c.len.result c.in-Some.ensures.0 c.in-Some.ensures.1 (c.len.ensures ∙ terminals.ok.0);
        not_elsewhere = λ elsewhere. not_both (c.if-is_elsewhere.ensures.1 (subst (λ owners. IsElsewhere owners c.args.iksn c.args.t) (sym c.as_slice.ensures.value) elsewhere));
      };
      no_key_set = subst (λ keys. key_set_of keys (iksn_prefix_of c.args.iksn) ≡ None) c.hsm.ensures (no_key_set c.hsm.result.now c.args.iksn c.in_default-issue.field-0 c.in_default-issue.ensures.refused);
      outcome_is = refl;
      same = rw c.reserve.ensures.items refl;
    }))))

pub returns-clause-outcome : goal.returns-clause-outcome
returns-clause-outcome g c =
    let terminals = c.self.inside.terminals in
    let issued = subst (λ keys. IsIssued keys c.args.iksn c.self.inside.loading (replicate 6 0) c.as_slice-2.result.now) c.hsm.ensures
    (subst (λ text. IsIssued c.hsm.result.now c.args.iksn c.self.inside.loading (replicate 6 0) text) (sym c.as_slice-2.ensures.value) c.in-Ok.ensures.issued) in
    rw (← c.self.view_is) (inr (inr (inr (record {
      asked = _;
      may = record {
        there = has_one terminals.items c.args.t c.in-Some.place c.len.result c.in-Some.ensures.0 c.in-Some.ensures.1 (c.len.ensures ∙ terminals.ok.0);
        not_elsewhere = λ elsewhere. not_both (c.if-is_elsewhere.ensures.1 (subst (λ owners. IsElsewhere owners c.args.iksn c.args.t) (sym c.as_slice.ensures.value) elsewhere));
      };
      issued = record {
        block = c.as_slice-2.result.now;
        loading_is = c.tdes_key.ensures.key;
        issued = issued;
        asked_is = refl;
      };
      terminal = changes_at c.args.t c.in-Some.place c.len.result _ terminals.items c.index_mut-terminal.result.now _ c.in-Some.ensures.0 c.in-Some.ensures.1 (c.len.ensures ∙ terminals.ok.0) c.index_mut-terminal.ensures.value c.load-outcome.ensures;
      owners = rw c.reserve.ensures.items at c.record_owner.ensures;
      rest = refl;
    }))))
