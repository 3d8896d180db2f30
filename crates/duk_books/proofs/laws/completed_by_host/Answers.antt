use Rattle.duk_books.proofs.accepted.EndsOnce.{completed_by_call}
use Rattle.duk_books.proofs.accepted.KnownFromHost.{know_from_host}
use Rattle.duk_books.proofs.laws.completed_by_host.Goals as goal

pub returns-clause-completed_by_host : goal.returns-clause-completed_by_host
returns-clause-completed_by_host g c = completed_by_call _ c.known.ensures (let frames = c.known.ensures.frames in record { one_answer = frames.one_answer; one_reply = frames.one_reply; apart = frames.apart_answers })

pub returns-clause-known_from_host : goal.returns-clause-known_from_host
returns-clause-known_from_host g c books reached = know_from_host _ c.known.ensures books reached
