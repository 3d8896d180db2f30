use Rattle.duk_journal.proofs.StandingPayments.{adds_only, reversed_decides, stands_adds}
use Rattle.duk_journal.proofs.laws.totals.Goals as goal

pub returns : goal.returns
returns c = record { reversed = reversed_decides; stands = stands_adds; nothing_else = adds_only }
