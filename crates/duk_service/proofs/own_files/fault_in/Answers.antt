use Rattle.duk_service.proofs.SeenDisks.{journal_fault, ledger_fault}
use Rattle.duk_service.proofs.own_files.fault_in.Goals as goal

pub returns-in-Journal-clause-own : goal.returns-in-Journal-clause-own
returns-in-Journal-clause-own g c =
    rw (c.in-Journal.is, c.version_fault.ensures) (journal_fault (g.D.Disk.meaning.state_of c.args.disk.now) (g.D.Disk.meaning.state_of c.version_of.new.disk) c.version_of.result
    c.version_of.ensures.version c.version_of.ensures.failed)

pub returns-in-Ledger-clause-own : goal.returns-in-Ledger-clause-own
returns-in-Ledger-clause-own g c =
    rw (c.in-Ledger.is, c.version_fault-in-Ledger.ensures) (ledger_fault (g.D.Disk.meaning.state_of c.args.disk.now) (g.D.Disk.meaning.state_of c.ledger_version_of.new.disk) c.ledger_version_of.result
    c.ledger_version_of.ensures.version c.ledger_version_of.ensures.failed)
