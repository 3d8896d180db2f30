-- The values of an array, beside the list that holds them.
use Rattle.std.proofs.Common.{◌≡◌, List, [], ◌∷◌, map, refl, ap}
use Rattle.toml.specs.View.{items_view, view}
use Rattle.toml.specs.declared.value.Value.{Value}
use Rattle.duk_config.specs.Entries.{values_of}

pub values_of_items : (values : List Value) → values_of (items_view values) ≡ map view values
values_of_items [] = refl
values_of_items (value ∷ values) = ap (λ rest. view value ∷ rest) (values_of_items values)
