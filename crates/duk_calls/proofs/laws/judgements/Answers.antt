use Rattle.duk_calls.proofs.FramesInPlaces.{TextLaws}
use Rattle.duk_calls.proofs.HostSteps.{judged_candidate, judged_refused}
use Rattle.duk_calls.proofs.NeverBoth.{Steps, never_both}
use Rattle.duk_calls.proofs.laws.judgements.Goals as goal

pub returns-clause-dismissed : goal.returns-clause-dismissed
returns-clause-dismissed c =
    let laws : TextLaws = record { ten = c.serials.ensures.ten; mac = λ key message. (c.retail_is_a_block.ensures key message).eight } in
    judged_refused laws

pub returns-clause-candidate : goal.returns-clause-candidate
returns-clause-candidate c =
    let laws : TextLaws = record { ten = c.serials.ensures.ten; mac = λ key message. (c.retail_is_a_block.ensures key message).eight } in
    judged_candidate laws

pub returns-clause-apart : goal.returns-clause-apart
returns-clause-apart c =
    let laws : TextLaws = record { ten = c.serials.ensures.ten; mac = λ key message. (c.retail_is_a_block.ensures key message).eight } in
    let steps : Steps = record { settled = c.steps.ensures.settled; dismissed = c.steps.ensures.dismissed; one = c.one_judgement.ensures.frame } in
    never_both laws steps
