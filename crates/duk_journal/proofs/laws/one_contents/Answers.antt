use Rattle.duk_journal.specs.RecordFormat.{after_gate}
use Rattle.duk_journal.proofs.SaidEntries.{same_contents_said}
use Rattle.duk_journal.proofs.laws.one_contents.Goals as goal

pub returns : goal.returns
returns c = λ followers others one two r first second.
    same_contents_said c.serials.ensures.ten c.serials.ensures.found followers others one two (after_gate r) first second
