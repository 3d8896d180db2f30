use Rattle.std.proofs.Common.{arith}
use Rattle.duk_journal.proofs.record_format.Contents.bytes.Goals as goal

pub returns-clause-fields : goal.returns-clause-fields
returns-clause-fields c = record { serial = c.bytes.ensures.serial; figure_fits = c.figure.ensures.fits; mac_length = omega arith }
