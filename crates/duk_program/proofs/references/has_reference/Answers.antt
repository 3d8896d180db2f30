use Rattle.std.proofs.Common.{is_some}
use Rattle.duk_program.specs.Secrets.{reference_in}
use Rattle.duk_program.proofs.Entries.{none_of_all}
use Rattle.duk_program.proofs.references.has_reference.Goals as goal

pub returns : goal.returns
returns c none =
    none_of_all (λ text. is_some (reference_in text)) c.entries.result.now c.args.request.now c.entries.ensures
    (c.has_reference_among.ensures none)
