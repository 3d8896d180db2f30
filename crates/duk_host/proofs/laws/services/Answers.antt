use Rattle.duk_host.specs.Host.{host_meaning_of}
use Rattle.duk_host.proofs.JudgedInTurn.{judged, restarted_judges}
use Rattle.duk_host.proofs.laws.services.Goals as goal

pub returns-clause-judged : goal.returns-clause-judged
returns-clause-judged g c = judged (host_meaning_of g.L.UsedLog.meaning g.I.Issuer.decides)

pub returns-clause-restarted : goal.returns-clause-restarted
returns-clause-restarted g c = restarted_judges (host_meaning_of g.L.UsedLog.meaning g.I.Issuer.decides)
