use Rattle.std.proofs.Common.{arith}
use Rattle.duk_journal.proofs.CheckedContents.{said_length}
use Rattle.duk_journal.proofs.checked_format.without_check.Goals as goal

pub slice_bounds-copy_from_slice-end-2 : goal.slice_bounds-copy_from_slice-end-2
slice_bounds-copy_from_slice-end-2 c = omega (arith, c.requires, said_length c.args.contents.now c.requires)
