use Rattle.std.proofs.Common.{sym}
use Rattle.duk_config.proofs.NamesOfTables.{first_unknown, none_unknown}
use Rattle.duk_config.proofs.read.names.unknown_key.Goals as goal

pub returns-in-Some : goal.returns-in-Some
returns-in-Some c =
    rw c.as_str.ensures.value (first_unknown _ c.args.table.now c.in-Some.name.now c.unknown_string.ensures.order (sym c.in-Some.ensures.found))

pub returns-in-None : goal.returns-in-None
returns-in-None c = none_unknown _ c.args.table.now (sym c.in-None.ensures.found)
