use Rattle.std.proofs.Common.{arith}
use Rattle.duk_show.proofs.JournalTallies.{in_turn, whole}
use Rattle.duk_show.proofs.journal_tallies.payers_of.Goals as goal

pub loop-entry-preserved : goal.loop-entry-preserved
loop-entry-preserved c =
    let now = c.in_ok-count_entry.ensures in
    in_turn c.args.entries.now c.loop-entry.entry-index c.entry-item.result c.share_of-share.result c.loop-entry.payers.entries c.count_entry.new.payers.entries
    c.loop-entry-test.true c.entry-item.is c.loop-entry.invariant (c.share_of-share.ensures.share c.args.entries.now c.requires) c.share_of-share.ensures.small now.entries now.updates.0 now.unique

pub returns-clause-lines : goal.returns-clause-lines
returns-clause-lines c =
    whole c.args.entries.now c.loop-entry.entry-index c.loop-entry.payers.entries (omega (arith, c.loop-entry-test.false)) c.loop-entry.invariant
