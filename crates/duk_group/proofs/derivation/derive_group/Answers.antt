use Rattle.std.proofs.Common.{[], ap, ◌∙◌, arith}
use Rattle.duk_tree.specs.Derivation.{derived_key_of}
use Rattle.duk_group.specs.Numbers.{number_at}
use Rattle.duk_group.proofs.WrittenPlaces.{map_of_places}
use Rattle.duk_group.proofs.derivation.derive_group.Goals as goal

pub returns-clause-keys : goal.returns-clause-keys
returns-clause-keys c =
    let numbers = c.args.numbers.now in
    c.first_of.ensures.first
    ∙ map_of_places (derived_key_of c.args.bdk.now) numbers c.scatter_keys-keys.result (record { iksn = 0; counter = 0 }) [] (omega arith)
    (λ i h.
    c.scatter_keys-keys.ensures i (omega arith)
    ∙ c.derived_keys.ensures i h
    ∙ ap (λ key. derived_key_of key (number_at numbers i)) (c.spread_key.ensures i (omega arith)))
