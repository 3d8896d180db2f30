use Rattle.std.proofs.Common.{◌/◌, rules}
use Rattle.std.proofs.lemmas.List.Edits.{map_over_more}
use Rattle.std.proofs.lemmas.List.{take_all, drop_all}
use Rattle.duk_commands.proofs.weak_keys.without_parity.Goals as goal

pub loop-i-preserved : goal.loop-i-preserved
loop-i-preserved c = search (rules, map_over_more (λ byte. byte / 2))

pub returns : goal.returns
returns c = search (rules, take_all, drop_all)
