use Rattle.duk_journal_host.proofs.Gathering.{none_gathered}
use Rattle.duk_journal_host.proofs.gathered.Gathered.new.Goals as goal

pub invariant_of-result : goal.invariant_of-result
invariant_of-result c =
    none_gathered c.new.result.used c.new-3.result c.new-2.result.items c.new.ensures.used c.new-3.ensures.empty c.new-3.ensures.unique c.new-2.ensures.items
