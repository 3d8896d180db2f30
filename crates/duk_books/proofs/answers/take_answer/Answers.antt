use Rattle.std.proofs.Common.{◌≡◌, true, false, inl, inr, refl, rules, sym, subst}
use Rattle.duk_frame.specs.Answer.{IsRefusal, IsReply}
use Rattle.duk_term.specs.declared.answer.Answer.TheVariants.{Done, Refused}
use Rattle.duk_term.specs.declared.fault.TermFault.TheVariants.{NotPending}
use Rattle.duk_till.specs.Reply.{TellsOutcome, TillReplyRefused}
use Rattle.duk_till.specs.declared.fault.TillFault.TheVariants.{Terminal}
use Rattle.duk_books.specs.Down.{TakesReversalReply}
use Rattle.duk_books.proofs.answers.take_answer.Goals as goal

not_both : false ≡ true → ⊥
not_both same = cc

pub returns-in-Ok-Done : goal.returns-in-Ok-Done
returns-in-Ok-Done g c =
    let told : TellsOutcome g.B.Cell.meaning c.args.frame.now.items c.args.till.now c.reply.new.self (Done c.in-Ok-Done.code) =
    rw (c.as_slice.ensures.value, c.in-Ok-Done.field-0-is) at c.in-Ok-Done.ensures.told in
    let reply = told.reply.from_host.reply in
    inl (record {
      no_reversal = λ is. not_both (c.if-is_reversal_reply.ensures.1 is);
      takes = (
        refl,
        (told.reply.from_host.mac, subst (λ ksn. IsReply c.args.frame.now.items ksn c.in-Ok-Done.code told.reply.from_host.mac) (sym (c.ksn_of_answer.ensures _ reply)) reply),
        told,
      );
      waits = λ same. absurd (cc);
    })

pub returns-in-Ok-Refused : goal.returns-in-Ok-Refused
returns-in-Ok-Refused g c =
    let told : TellsOutcome g.B.Cell.meaning c.args.frame.now.items c.args.till.now c.reply.new.self (Refused c.in-Ok-Refused.reason) =
    rw (c.as_slice.ensures.value, c.in-Ok-Refused.field-0-is) at c.in-Ok-Refused.ensures.told in
    inl (record {
      no_reversal = λ is. not_both (c.if-is_reversal_reply.ensures.1 is);
      takes = (
        refl,
        subst (λ ksn. IsRefusal c.args.frame.now.items ksn c.in-Ok-Refused.reason) (sym (c.ksn_of_answer-in-Ok-Refused.ensures _ told.refusal)) told.refusal,
        told,
      );
      waits = λ same. absurd (cc);
    })

pub returns-then-is_refusal : goal.returns-then-is_refusal
returns-then-is_refusal g c =
    let fault_is : c.in-Err.fault ≡ Terminal NotPending = search rules in
    let refused : TillReplyRefused g.B.Cell.meaning c.args.frame.now.items c.args.till.now c.reply.new.self (Terminal NotPending) =
    rw (c.as_slice.ensures.value, fault_is) at c.in-Err.ensures.refused in
    inr (
      inr (record { refusal = c.if-is_refusal.ensures.0 refl; not_pending = (refused.0, refl) }),
      subst (λ till. TakesReversalReply g.C.Cell.meaning g.B.Cell.meaning c.args.t c.args.frame.now c.take_reversal_reply-then-is_refusal.result till c.take_reversal_reply-then-is_refusal.new.till) refused.1 c.take_reversal_reply-then-is_refusal.ensures,
    )
