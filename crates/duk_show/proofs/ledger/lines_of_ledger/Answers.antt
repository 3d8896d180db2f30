use Rattle.std.proofs.Common.{◌+◌, ◌≤◌, arith, length}
use Rattle.duk_show.proofs.LedgerRecords.{kept_fields, kept_inside}
use Rattle.duk_show.proofs.ledger.lines_of_ledger.Goals as goal

pub push_issues-requires : goal.push_issues-requires
push_issues-requires c = kept_fields c.args.issues.now 1 c.args.bytes.now c.requires.ledger.keeps.listed

pub overflow_sub-bytes-2 : goal.overflow_sub-bytes-2
overflow_sub-bytes-2 c =
    let size = c.requires.ledger.size in
    let inside : 1 + length c.args.issues.now ≤ size.0 = kept_inside c.args.issues.now 1 size.0 c.args.bytes.now size.2 size.1 c.requires.ledger.keeps.listed in
    omega (arith, inside, size.2)
