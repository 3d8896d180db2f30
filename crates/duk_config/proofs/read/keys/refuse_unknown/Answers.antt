use Rattle.std.proofs.Common.{◌≡◌, true, rules}
use Rattle.toml.specs.View.{table_view}
use Rattle.duk_config.specs.ConfigKeys.{is_config_key}
use Rattle.duk_config.specs.Names.{has_only}
use Rattle.duk_config.proofs.KeysInOrder.{first_right}
use Rattle.duk_config.proofs.read.keys.refuse_unknown.Goals as goal

pub returns-in_default-clause-right : goal.returns-in_default-clause-right
returns-in_default-clause-right c =
    let known : has_only is_config_key (table_view c.args.table.now) ≡ true = search rules in
    first_right _ known
