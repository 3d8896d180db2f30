use Rattle.duk_commands.proofs.OneFrame.{one_told}
use Rattle.duk_commands.proofs.frames.one_reading.Goals as goal

pub returns-clause-told : goal.returns-clause-told
returns-clause-told c =
    one_told c.one_reading.ensures.answer c.one_reading-2.ensures.reply c.apart_from_payments.ensures.answers
