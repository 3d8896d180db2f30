use Rattle.std.proofs.Common.{ap, arith, length}
use Rattle.duk_journal.specs.CheckedFormat.{said_of}
use Rattle.duk_journal.proofs.CheckedContents.{check_length, said_length}
use Rattle.duk_journal.proofs.checked_format.with_check.Goals as goal

pub slice_bounds-said-end : goal.slice_bounds-said-end
slice_bounds-said-end c = omega (arith, said_length c.args.contents.now c.requires)

pub append-requires : goal.append-requires
append-requires c = (omega arith, omega (arith, said_length c.args.contents.now c.requires, ap length c.new-bytes.ensures))

pub append-requires-2 : goal.append-requires-2
append-requires-2 c = (
  omega arith,
  omega (
    arith,
    said_length c.args.contents.now c.requires,
    ap length c.new-bytes.ensures,
    c.append.ensures.len,
    ap length c.check_behind.ensures,
    check_length c.args.identity c.args.place (said_of c.args.contents.now),
  ),
)

pub returns-clause-length : goal.returns-clause-length
returns-clause-length c =
    omega (
      arith,
      said_length c.args.contents.now c.requires,
      ap length c.new-bytes.ensures,
      c.append.ensures.len,
      c.append-2.ensures.len,
      ap length c.check_behind.ensures,
      check_length c.args.identity c.args.place (said_of c.args.contents.now),
    )
