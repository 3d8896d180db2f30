use Rattle.std.proofs.Common.{◌≡◌, ◌≤◌, take}
use Rattle.std.specs.List.{count_by}
use Rattle.duk_journal.specs.Standing.{is_payment}
use Rattle.duk_show.proofs.journal.count_payments.Given as goal

-- the payments of the entries so far
abbrev pub invariant-loop-entry : goal.invariant-loop-entry
invariant-loop-entry l = (l.count ≡ count_by is_payment (take l.entry-index l.entries)) × (l.count ≤ l.entry-index)
