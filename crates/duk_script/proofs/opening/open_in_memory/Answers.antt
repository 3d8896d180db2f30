use Rattle.std.proofs.Common.{ap}
use Rattle.duk_net.specs.InMemory.{new_terminal}
use Rattle.duk_store.specs.MemoryCell.{memory_cell_meaning}
use Rattle.duk_store.specs.MemoryLog.{memory_log_meaning, new_log}
use Rattle.duk_script.proofs.CalmFirstWorld.{calm_for, count_made, made_calm}
use Rattle.duk_script.proofs.opening.open_in_memory.Goals as goal

pub bring_up-requires : goal.bring_up-requires
bring_up-requires g c =
    let loading = ap (λ config. config.loading) c.config.view_is in
    let starts = made_calm memory_cell_meaning memory_log_meaning c.args.config.now c.in_ok-log.log c.in_ok-terminals.terminals.items c.in_ok-log.ensures.new c.in_ok-terminals.ensures.new
    c.in_ok-host.host c.config.inside.loading c.new-world.result c.in_ok-host.ensures loading c.new-world.ensures.first in
    let count = count_made c.in_ok-host.host c.config.inside.loading c.in_ok-terminals.terminals.items c.new-world.result c.config.inside.terminals new_terminal c.in_ok-terminals.ensures.made c.new-world.ensures.first in
    (search, (starts, count))

pub returns-clause-starts : goal.returns-clause-starts
returns-clause-starts g c = calm_for memory_cell_meaning memory_log_meaning c.args.config.now c.in_ok-log.log c.in_ok-terminals.terminals.items c.in_ok-log.ensures.new c.in_ok-terminals.ensures.new
    _ c.config.view_is new_log new_terminal c.in_ok-log.ensures.made c.in_ok-terminals.ensures.made
