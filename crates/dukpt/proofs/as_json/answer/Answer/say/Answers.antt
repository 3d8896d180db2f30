use Rattle.std.proofs.Common.{◌∙◌, ap}
use Rattle.dukpt.proofs.Said.{said_at_place}
use Rattle.dukpt.specs.inner.Answer.{with_text}
use Rattle.dukpt.specs.inner.Members.{member_of}
use Rattle.dukpt.proofs.as_json.answer.Answer.say.Goals as goal

pub returns-in_ok-say_more-in-Some : goal.returns-in_ok-say_more-in-Some
returns-in_ok-say_more-in-Some c =
    said_at_place c.args.self.now.members.items c.in-Some.place c.index_mut.result.now c.say_more.new.member c.args.name.now c.args.text.now c.in-Some.ensures.inside c.index_mut.ensures.value
    (c.in_ok-say_more-in-Some.ensures ∙ ap (with_text (member_of c.index_mut.result.now)) c.in_ok-text.ensures.ok) c.in-Some.ensures.value
