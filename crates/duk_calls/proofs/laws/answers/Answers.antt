use Rattle.duk_calls.proofs.FramesInPlaces.{TextLaws}
use Rattle.duk_calls.proofs.AskedAgain.{answered_again}
use Rattle.duk_calls.proofs.HostSteps.{candidate_answered}
use Rattle.duk_calls.proofs.Marked.{SerialLaws}
use Rattle.duk_calls.proofs.laws.answers.Goals as goal

pub returns-clause-answered : goal.returns-clause-answered
returns-clause-answered c = λ keys decides frame answer candidate settled.
    let serials : SerialLaws = record { ten = c.serials.ensures.ten; found = c.serials.ensures.found } in
    let laws : TextLaws = record { ten = c.serials.ensures.ten; mac = λ key message. (c.retail_is_a_block.ensures key message).eight } in
    candidate_answered serials laws keys decides frame candidate settled answer

pub returns-clause-known_again : goal.returns-clause-known_again
returns-clause-known_again c =
    let serials : SerialLaws = record { ten = c.serials.ensures.ten; found = c.serials.ensures.found } in
    let laws : TextLaws = record { ten = c.serials.ensures.ten; mac = λ key message. (c.retail_is_a_block.ensures key message).eight } in
    answered_again serials laws
