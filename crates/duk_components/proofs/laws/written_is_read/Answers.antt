use Rattle.duk_components.proofs.LinesOfComponents.{is_read}
use Rattle.duk_components.proofs.laws.written_is_read.Goals as goal

pub returns : goal.returns
returns c = is_read c.blocks-2.ensures.encrypted
