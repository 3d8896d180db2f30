use Rattle.duk_journal_host.specs.Host.{host_meaning_of}
use Rattle.duk_journal_host.proofs.AnswersOfService.{WritesInTurn, failed_service, read_up}
use Rattle.duk_journal_host.proofs.laws.each_service.Goals as goal

pub returns-clause-ended : goal.returns-clause-ended
returns-clause-ended g c made old new input left rest found restarted read =
    let laws : WritesInTurn = record { next = c.writes.ensures.then; cut = c.writes.ensures.cut_later } in
    read_up (host_meaning_of g.J.Journal.meaning g.I.Issuer.decides) laws made old found restarted new input left rest read

pub returns-clause-failed : goal.returns-clause-failed
returns-clause-failed g c made old new input left found why restarted failed =
    let laws : WritesInTurn = record { next = c.writes.ensures.then; cut = c.writes.ensures.cut_later } in
    failed_service (host_meaning_of g.J.Journal.meaning g.I.Issuer.decides) laws made old found restarted new input left why failed
