use Rattle.duk_host.proofs.JudgedInTurn.{first_answers, one_service}
use Rattle.duk_host.proofs.laws.one_service.Goals as goal

pub returns-clause-all : goal.returns-clause-all
returns-clause-all c = one_service c.one_reading.ensures.request c.one_pin.ensures c.streams.ensures.one_way

pub returns-clause-first : goal.returns-clause-first
returns-clause-first c = first_answers c.one_reading.ensures.request c.one_pin.ensures
