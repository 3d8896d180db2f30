use Rattle.std.proofs.Common.{◌∙◌, subst, sym}
use Rattle.std.proofs.lemmas.List.{length-map}
use Rattle.duk_program.specs.References.{references_in}
use Rattle.duk_program.specs.Secrets.{EachMeans, secrets_in}
use Rattle.duk_program.proofs.meant.meant_by.Goals as goal

pub with_references-requires : goal.with_references-requires
with_references-requires c = c.requires ∙ length-map (references_in c.args.request.now) _

pub returns-in-Ok-clause-meaning : goal.returns-in-Ok-clause-meaning
returns-in-Ok-clause-meaning c held each = record {
  command = c.in-Ok.ensures.command;
  rest = c.in-Ok.ensures.rest;
  texts = subst (EachMeans held (secrets_in c.args.request.now)) (sym c.in-Ok.ensures.texts) each;
}
