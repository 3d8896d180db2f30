use Rattle.std.proofs.Common.{ap, ◌∙◌}
use Rattle.duk_program.specs.Asked.{texts_of}
use Rattle.duk_program.proofs.Marked.{texts_without}
use Rattle.duk_program.specs.Options.{option_place, without}
use Rattle.duk_program.proofs.options.take_option.Goals as goal

pub returns-in-Some-clause-others : goal.returns-in-Some-clause-others
returns-in-Some-clause-others c =
    ap texts_of c.remove.ensures.items
    ∙ texts_without c.args.arguments.now.items c.in-Some.place
    ∙ ap (without (texts_of c.args.arguments.now.items)) (c.in-Some.ensures ∙ ap (λ words. option_place c.args.option.now (texts_of words)) c.as_slice.ensures.value)
