use Rattle.duk_journal.specs.Header.{header_of}
use Rattle.duk_ledger.specs.IssuedFormat.{ledger_kind}
use Rattle.duk_ledger.proofs.SaidIssues.{header_is}
use Rattle.duk_ledger.proofs.laws.new_disk_ledger.Goals as goal

pub returns : goal.returns
returns c = λ identity records fits some.
    c.new_headed_records.ensures (header_of ledger_kind identity) records (header_is identity fits (c.headers.ensures.length ledger_kind identity)) some
