use Rattle.std.proofs.Common.{refl, sym, subst}
use Rattle.duk_frame.specs.Answer.{IsRefusal}
use Rattle.duk_term.specs.declared.answer.ReversalAnswer.TheVariants.{Refused}
use Rattle.duk_till.specs.Reversal.{TellsReversal}
use Rattle.duk_books.proofs.answers.take_reversal_reply.Goals as goal

pub returns-in-Ok-Refused : goal.returns-in-Ok-Refused
returns-in-Ok-Refused g c =
    let told : TellsReversal g.B.Cell.meaning c.args.frame.now.items c.args.till.now c.reversal_reply.new.self (Refused c.in-Ok-Refused.reason) =
    rw (c.as_slice.ensures.value, c.in-Ok-Refused.field-0-is) at c.in-Ok-Refused.ensures.told in (
      refl,
      subst (λ ksn. IsRefusal c.args.frame.now.items ksn c.in-Ok-Refused.reason) (sym (c.ksn_of_answer.ensures _ told.refusal.2)) told.refusal.2,
      told,
    )
