use Rattle.duk_frame.specs.declared.answer.AnswerFrame.TheVariants as answer
use Rattle.duk_calls.proofs.replies.reply_in.Goals as goal

pub returns-in_default : goal.returns-in_default
returns-in_default c ksn code mac reply =
    let found = c.in_default.ensures.every (answer.Reply ksn code mac) reply in cc
