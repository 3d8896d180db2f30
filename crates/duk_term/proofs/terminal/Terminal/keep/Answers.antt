use Rattle.std.proofs.Common.{Some, inl, refl}
use Rattle.duk_term.proofs.terminal.Terminal.keep.Goals as goal

pub invariant_of-self-2 : goal.invariant_of-self-2
invariant_of-self-2 g c =
    let settles = c.in_default.ensures.kept.settles in
    record {
      runs = settles.runs;
      finds = λ honest. (Some c.body_of.result, settles.finds (settles.nature.honest.1 honest), (c.body_of.result, refl, inl c.body_of.ensures.body));
    }
