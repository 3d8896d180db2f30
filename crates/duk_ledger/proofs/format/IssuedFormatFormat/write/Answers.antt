use Rattle.std.proofs.Common.{◌∙◌, arith}
use Rattle.duk_ledger.proofs.format.IssuedFormatFormat.write.Goals as goal

pub returns-clause-written : goal.returns-clause-written
returns-clause-written c = record {
  alone = omega (arith, c.requires.fits);
  fields = c.contents_of.ensures.fields;
  written = c.copy_from_slice.ensures.after ∙ c.as_slice.ensures.value ∙ c.contents_of.ensures.bytes;
}
