use Rattle.duk_reversal.proofs.OneReading.{apart_from_answer, apart_from_request}
use Rattle.duk_reversal.proofs.laws.apart_from_payments.Goals as goal

pub returns-clause-requests : goal.returns-clause-requests
returns-clause-requests c = apart_from_request

pub returns-clause-answers : goal.returns-clause-answers
returns-clause-answers c = apart_from_answer
