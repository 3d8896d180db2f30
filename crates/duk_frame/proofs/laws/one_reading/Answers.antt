use Rattle.duk_frame.proofs.OneReading.{SerialLaws, one_request, one_answer, apart}
use Rattle.duk_frame.proofs.laws.one_reading.Goals as goal
use Rattle.duk_frame.proofs.laws.one_reading.Goals.{After-serials}

laws_of : After-serials → SerialLaws
laws_of c = record { ten = c.serials.ensures.ten; found = c.serials.ensures.found }

pub returns-clause-request : goal.returns-clause-request
returns-clause-request c = one_request (laws_of (goal.at.returns-clause-request c).After-serials)

pub returns-clause-answer : goal.returns-clause-answer
returns-clause-answer c = one_answer (laws_of (goal.at.returns-clause-answer c).After-serials)

pub returns-clause-apart : goal.returns-clause-apart
returns-clause-apart c = apart (laws_of (goal.at.returns-clause-apart c).After-serials)
