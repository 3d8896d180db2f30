use Rattle.std.proofs.Common.{◌≡◌, None, Some, true, false, subst, sym}
use Rattle.duk_frame.specs.Answer.{IsAnswer}
use Rattle.duk_frame.specs.declared.answer.AnswerFrame.{AnswerFrame}
use Rattle.duk_frame.specs.declared.answer.AnswerFrame.TheVariants.{Refusal}
use Rattle.duk_books.proofs.frames.is_refusal.Goals as goal

not_both : false ≡ true → ⊥
not_both same = cc

nothing_found : (answer : AnswerFrame) → None ≡ Some answer → ⊥
nothing_found answer same = cc

pub returns-in-None : goal.returns-in-None
returns-in-None c = (
  λ is_true. absurd (not_both is_true),
  λ refusal. absurd (nothing_found (Refusal refusal.0 refusal.1) (c.in-None.ensures.every (Refusal refusal.0 refusal.1) (subst (λ bytes. IsAnswer bytes (Refusal refusal.0 refusal.1)) (sym c.as_slice.ensures.value) refusal.2))),
)
