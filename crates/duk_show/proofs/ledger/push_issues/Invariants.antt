use Rattle.std.proofs.Common.{◌≡◌, ◌++◌, drop, flat_map}
use Rattle.duk_show.specs.Ledger.{issued_line}
use Rattle.duk_show.proofs.ledger.push_issues.Given as goal

-- the lines so far, and those of what is left, are all lines
abbrev pub invariant-loop-issued : goal.invariant-loop-issued
invariant-loop-issued l =
    l.text.items ++ flat_map issued_line (drop l.issued-index l.issues) ≡ l.fn.text.items ++ flat_map issued_line l.issues
