use Rattle.std.proofs.Common.{◌≡◌, ◌++◌, drop, flat_map}
use Rattle.duk_show.specs.inner.JournalTallies.{payer_line}
use Rattle.duk_show.proofs.journal.push_payers.Given as goal

-- the lines so far, and those of what is left, are all lines
abbrev pub invariant-loop-payer : goal.invariant-loop-payer
invariant-loop-payer l =
    l.text.items ++ flat_map payer_line (drop l.payer-index l.payers) ≡ l.fn.text.items ++ flat_map payer_line l.payers
