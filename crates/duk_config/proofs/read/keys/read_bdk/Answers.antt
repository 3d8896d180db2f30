use Rattle.std.proofs.Common.{◌≡◌, Some, map, refl, sym}
use Rattle.toml.specs.View.{table_view, view}
use Rattle.duk_config.specs.ConfigTable.{bdk_values}
use Rattle.duk_config.specs.declared.fault.ConfigKey.TheVariants.{Bdk, Card}
use Rattle.duk_config.proofs.KeysInOrder.{next_right, on_ok}
use Rattle.duk_config.proofs.read.keys.read_bdk.Goals as goal

pub returns-clause-right : goal.returns-clause-right
returns-clause-right c =
    let values : bdk_values (table_view c.args.table.now) ≡ Some (map view c.in_ok-values.values.now) = sym c.in_ok-values.ensures.values in
    on_ok c.read_entries.result _ _ c.read_entries.ensures.read
    (λ bdks are. next_right _ Bdk Card refl c.requires (bdks.items, record { values = _; values_are = values; entries = are }))
