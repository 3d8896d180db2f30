use Rattle.std.proofs.lemmas.Result.{on_ok_weaker}
use Rattle.duk_journal.proofs.MemoryJournalMeaning.{appended_in_memory}
use Rattle.duk_journal.proofs.memory_journal.MemJournalJournal.append.Goals as goal

pub returns-clause-appended : goal.returns-clause-appended
returns-clause-appended c = on_ok_weaker c.push.result (appended_in_memory _ _ c.args.group.now) c.push.ensures.done
