use Rattle.std.proofs.Common.{refl}
use Rattle.duk_ledger.specs.Ledger.{ledger_meaning}
use Rattle.duk_commands.proofs.OrderIsRead.{ledger_read}
use Rattle.duk_commands.proofs.issue.ledger.read_ledger.Goals as goal

pub returns-in-Ok-clause-read : goal.returns-in-Ok-clause-read
returns-in-Ok-clause-read g c =
    let order = c.args.order.now in
    ledger_read (ledger_meaning g.D.Disk.meaning) c.args.ledger.now c.restart.new.self (record { first = order.first; marks = c.in_ok-marks.marks; largest = 0 }) c.restart.new.visitor
    c.in-Ok.field-0 order.first order.count c.in-Ok.ensures.found refl (c.in_ok-marks.ensures.items_if_clones_equal (λ y is. is)) refl c.in-Ok.ensures.counted c.restart.ensures.capacity
