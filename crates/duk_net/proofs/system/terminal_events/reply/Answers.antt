use Rattle.std.proofs.Common.{refl}
use Rattle.duk_term.specs.Reply.{ReportsAnswer}
use Rattle.duk_term.specs.declared.answer.Answer.TheVariants.{Done, Refused}
use Rattle.duk_net.proofs.system.terminal_events.reply.Goals as goal

pub returns-in-Ok-Done : goal.returns-in-Ok-Done
returns-in-Ok-Done g c =
    let reported : ReportsAnswer c.args.terminal.now.state c.args.frame.now.items (Done c.in-Ok-Done.code) =
    rw (c.as_slice.ensures.value, c.in-Ok-Done.field-0-is) at c.in-Ok-Done.ensures.reported in (
      refl,
      record {
        pending = reported.0;
        was_pending = reported.1;
        ksn_is = c.ksn_of_answer.ensures _ reported.2.reply;
        reported = reported;
        after_is = rw c.in-Ok-Done.field-0-is at c.in-Ok-Done.ensures.answered;
      },
    )

pub returns-in-Ok-Refused : goal.returns-in-Ok-Refused
returns-in-Ok-Refused g c =
    let reported : ReportsAnswer c.args.terminal.now.state c.args.frame.now.items (Refused c.in-Ok-Refused.reason) =
    rw (c.as_slice.ensures.value, c.in-Ok-Refused.field-0-is) at c.in-Ok-Refused.ensures.reported in (
      refl,
      record {
        pending = reported.0;
        was_pending = reported.1;
        ksn_is = c.ksn_of_answer-in-Ok-Refused.ensures _ reported.2;
        reported = reported;
        after_is = rw c.in-Ok-Refused.field-0-is at c.in-Ok-Refused.ensures.answered;
      },
    )
