use Rattle.duk_host.specs.Host.{host_meaning_of}
use Rattle.duk_host.proofs.FailedAtFrame.{failed_after}
use Rattle.duk_host.proofs.JudgedInTurn.{wrote_all, wrote_first}
use Rattle.duk_host.proofs.laws.served_streams.Goals as goal

pub returns-clause-all : goal.returns-clause-all
returns-clause-all g c = wrote_all (host_meaning_of g.L.UsedLog.meaning g.I.Issuer.decides)

pub returns-clause-first : goal.returns-clause-first
returns-clause-first g c = wrote_first (host_meaning_of g.L.UsedLog.meaning g.I.Issuer.decides) c.one_reading.ensures.request c.one_pin.ensures c.streams.ensures.first

pub returns-clause-failed : goal.returns-clause-failed
returns-clause-failed g c = failed_after (host_meaning_of g.L.UsedLog.meaning g.I.Issuer.decides)
