use Rattle.duk_journal.specs.Header.{header_of, journal_kind}
use Rattle.duk_journal.proofs.CheckedContents.{journal_header_is}
use Rattle.duk_journal.proofs.laws.new_disk_journal.Goals as goal

pub returns : goal.returns
returns c = λ identity records fits some. c.new_headed_records.ensures (header_of journal_kind identity) records (journal_header_is identity fits) some
