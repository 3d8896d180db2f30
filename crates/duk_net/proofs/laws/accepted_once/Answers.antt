use Rattle.duk_net.proofs.accepted_once.AcceptedOnce.{leads_once, reached_safe}
use Rattle.duk_net.proofs.laws.accepted_once.Goals as goal

pub returns-clause-accepted_is_kept : goal.returns-clause-accepted_is_kept
returns-clause-accepted_is_kept g c world reached = (reached_safe _ (record { reading = c.one_reading.ensures.answer; replies = c.replies.ensures; exchanges = record { given = c.exchanges.ensures.given; others = c.exchanges.ensures.others } }) world reached).keeps

pub returns-clause-accepted_once : goal.returns-clause-accepted_once
returns-clause-accepted_once g c = leads_once _ (record { reading = c.one_reading.ensures.answer; replies = c.replies.ensures; exchanges = record { given = c.exchanges.ensures.given; others = c.exchanges.ensures.others } })
