use Rattle.std.proofs.Common.{rules, ap}
use Rattle.duk_script.specs.OnDisk.{disk_cell_meaning, log_on_disk_meaning, new_disk_terminal, new_log_on_disk}
use Rattle.duk_script.proofs.CalmFirstWorld.{calm_for, count_made, made_calm, new_host, new_terminals}
use Rattle.duk_script.proofs.opening.open_on_disk.Goals as goal

pub new-world-requires : goal.new-world-requires
new-world-requires g c =
    let host = new_host disk_cell_meaning log_on_disk_meaning c.args.config.now c.in_ok-log.log c.in_ok-terminals.terminals.items c.in_ok-log.ensures.new c.in_ok-terminals.ensures.new in
    let terminals = new_terminals disk_cell_meaning log_on_disk_meaning c.in_ok-terminals.terminals.items c.in_ok-terminals.ensures.new in
    (search rules, (search rules, (rw c.in_ok-host.ensures host, terminals)))

pub bring_up-requires : goal.bring_up-requires
bring_up-requires g c =
    let loading = ap (λ config. config.loading) c.config.view_is in
    let starts = made_calm disk_cell_meaning log_on_disk_meaning c.args.config.now c.in_ok-log.log c.in_ok-terminals.terminals.items c.in_ok-log.ensures.new c.in_ok-terminals.ensures.new
    c.in_ok-host.host c.config.inside.loading c.new-world.result c.in_ok-host.ensures loading c.new-world.ensures.first in
    let count = count_made c.in_ok-host.host c.config.inside.loading c.in_ok-terminals.terminals.items c.new-world.result c.config.inside.terminals new_disk_terminal c.in_ok-terminals.ensures.made c.new-world.ensures.first in
    (search, (starts, count))

pub returns-clause-starts : goal.returns-clause-starts
returns-clause-starts g c = calm_for disk_cell_meaning log_on_disk_meaning c.args.config.now c.in_ok-log.log c.in_ok-terminals.terminals.items c.in_ok-log.ensures.new c.in_ok-terminals.ensures.new
    _ c.config.view_is new_log_on_disk new_disk_terminal c.in_ok-log.ensures.made c.in_ok-terminals.ensures.made
