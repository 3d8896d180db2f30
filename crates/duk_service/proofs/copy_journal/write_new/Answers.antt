use Rattle.std.proofs.Common.{◌∙◌}
use Rattle.duk_service.proofs.copy_journal.write_new.Goals as goal

pub write_copy-requires-clause-zeros : goal.write_copy-requires-clause-zeros
write_copy-requires-clause-zeros g c = c.as_slice.ensures.value ∙ c.requires.zeros
