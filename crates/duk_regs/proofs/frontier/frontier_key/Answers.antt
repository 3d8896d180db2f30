use Rattle.std.proofs.Common.{◌≡◌, ◌∙◌, sym, ap, subst}
use Rattle.duk_tree.specs.Derivation.{transaction_key_of}
use Rattle.duk_tree.specs.Frontier.{IsInFrontier}
use Rattle.duk_regs.proofs.frontier.frontier_key.Goals as goal

pub returns-in-Some-clause-holds : goal.returns-in-Some-clause-holds
returns-in-Some-clause-holds c node held same =
    let found = c.in-Some.ensures.found in
    let held_here = subst (λ counter. IsInFrontier counter node) (sym c.counter.ensures.value) held in
    let is_node : c.in-Some.node ≡ node = c.frontier.ensures.places c.counter.result c.in-Some.node node found.0 held_here (found.1 ∙ sym same) in
    c.transaction_key.ensures
    ∙ ap (λ number. transaction_key_of c.args.initial.now number.iksn number.counter) c.with_counter.ensures.value
    ∙ ap (transaction_key_of c.args.initial.now c.args.ksn.iksn) is_node
