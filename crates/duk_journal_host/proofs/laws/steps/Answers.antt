use Rattle.std.proofs.Common.{inl, refl}
use Rattle.duk_journal_host.proofs.Steps.{judged_by_steps, of_candidate}
use Rattle.duk_journal_host.proofs.laws.steps.Goals as goal

pub returns-clause-dismissed : goal.returns-clause-dismissed
returns-clause-dismissed c = λ keys entries capacity room decides bytes frame dismissed.
    inl (dismissed entries capacity room decides, refl)

pub returns-clause-settled : goal.returns-clause-settled
returns-clause-settled c = λ keys entries capacity room decides bytes frame settled.
    judged_by_steps keys entries capacity room decides bytes frame c.one_reading.ensures.request settled

pub returns-clause-candidate : goal.returns-clause-candidate
returns-clause-candidate c = λ keys entries capacity room decides bytes candidate settled.
    of_candidate keys entries capacity room decides bytes candidate settled
