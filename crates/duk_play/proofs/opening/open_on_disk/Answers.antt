use Rattle.std.proofs.Common.{rules, ap}
use Rattle.duk_script.specs.OnDisk.{disk_cell_meaning}
use Rattle.duk_play.specs.Opening.{journal_meaning, new_disk_till, new_journal}
use Rattle.duk_play.proofs.NewEnds.{calm_for, count_made, host_is_new, made_calm, tills_are_new}
use Rattle.duk_play.proofs.opening.open_on_disk.Goals as goal

pub new-books-requires : goal.new-books-requires
new-books-requires g c =
    let host = host_is_new disk_cell_meaning disk_cell_meaning journal_meaning c.args.config.now c.in_ok-journal.journal c.in_ok-tills.tills.items c.in_ok-journal.ensures.new c.in_ok-tills.ensures.new in
    let tills = tills_are_new disk_cell_meaning disk_cell_meaning journal_meaning c.args.config.now c.in_ok-journal.journal c.in_ok-tills.tills.items c.in_ok-journal.ensures.new c.in_ok-tills.ensures.new in
    (search rules, (search rules, (rw c.in_ok-host.ensures host, tills)))

pub bring_up-requires : goal.bring_up-requires
bring_up-requires g c =
    let loading = ap (λ config. config.loading) c.config.view_is in
    let starts = made_calm disk_cell_meaning disk_cell_meaning journal_meaning c.args.config.now c.in_ok-journal.journal c.in_ok-tills.tills.items c.in_ok-journal.ensures.new c.in_ok-tills.ensures.new
    c.in_ok-host.host c.config.inside.loading c.new-books.result c.in_ok-host.ensures loading c.new-books.ensures.first in
    let count = count_made c.in_ok-host.host c.config.inside.loading c.in_ok-tills.tills.items c.new-books.result c.config.inside.terminals new_disk_till c.in_ok-tills.ensures.made c.new-books.ensures.first in
    (search, (starts, count))

pub returns-clause-starts : goal.returns-clause-starts
returns-clause-starts g c = calm_for disk_cell_meaning disk_cell_meaning journal_meaning c.args.config.now c.in_ok-journal.journal c.in_ok-tills.tills.items c.in_ok-journal.ensures.new c.in_ok-tills.ensures.new
    _ c.config.view_is new_journal new_disk_till c.in_ok-journal.ensures.made c.in_ok-tills.ensures.made
