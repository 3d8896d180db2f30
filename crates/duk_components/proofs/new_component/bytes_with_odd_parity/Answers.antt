use Rattle.std.proofs.Common.{rules}
use Rattle.std.proofs.lemmas.List.Edits.{map_over_more}
use Rattle.std.proofs.lemmas.List.{take_all, drop_all}
use Rattle.duk_components.specs.NewComponent.{with_odd_parity}
use Rattle.duk_components.proofs.new_component.bytes_with_odd_parity.Goals as goal

pub loop-i-preserved : goal.loop-i-preserved
loop-i-preserved g c = search (rules, map_over_more with_odd_parity)

pub returns : goal.returns
returns g c = search (rules, take_all, drop_all)
