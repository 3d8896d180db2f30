use Rattle.std.proofs.Common.{inl, inr, sym, rules, ◌∙◌}
use Rattle.std.proofs.lemmas.Bool.{cases_Bool, false≢true}
use Rattle.duk_calls.proofs.many_requests.told_of_mac.Goals as goal

pub returns : goal.returns
returns c =
    elim (cases_Bool c.same_mac.result) [
      | inl same ↦ inl (c.same_mac.ensures.0 same, search rules)
      | inr other ↦ inr ((λ equal. false≢true (sym other ∙ c.same_mac.ensures.1 equal)), search rules)
    ]
