use Rattle.duk_net.proofs.completed_by_host.CompletedByHost.{completed_by_call}
use Rattle.duk_net.proofs.laws.completed_by_host.Goals as goal

pub returns : goal.returns
returns g c = completed_by_call _ c.one_reading.ensures.answer (record { given = c.exchanges.ensures.given; others = c.exchanges.ensures.others }) c.requests.ensures.request c.used_once.ensures.used_once c.used_once.ensures.sent_by_owner
