use Rattle.std.proofs.Common.{get_or, ap, ◌∙◌}
use Rattle.duk_tree.specs.Derivation.{initial_key_of}
use Rattle.duk_group.proofs.initial.initial_group.Goals as goal

pub returns : goal.returns
returns c = λ i h.
    let iksn = get_or c.args.iksns.now i 0 in
    c.scatter_keys.ensures i h
    ∙ c.initial_keys.ensures i iksn h (c.first_blocks.ensures i h)
    ∙ ap (λ key. initial_key_of key iksn) (c.spread_key.ensures i h)
