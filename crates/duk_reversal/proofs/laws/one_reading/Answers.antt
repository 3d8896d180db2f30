use Rattle.duk_reversal.proofs.OneReading.{apart, one_reply, one_reversal}
use Rattle.duk_reversal.proofs.PlacesOfNumbers.{SerialLaws}
use Rattle.duk_reversal.proofs.laws.one_reading.Goals as goal
use Rattle.duk_reversal.proofs.laws.one_reading.Goals.{After-serials}

laws_of : After-serials → SerialLaws
laws_of c = record { ten = c.serials.ensures.ten; found = c.serials.ensures.found }

pub returns-clause-reversal : goal.returns-clause-reversal
returns-clause-reversal c = one_reversal (laws_of (goal.at.returns-clause-reversal c).After-serials)

pub returns-clause-reply : goal.returns-clause-reply
returns-clause-reply c = one_reply (laws_of (goal.at.returns-clause-reply c).After-serials)

pub returns-clause-apart : goal.returns-clause-apart
returns-clause-apart c = apart
