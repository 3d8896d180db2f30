-- A host that runs judges by the entries of its index.
use Rattle.std.proofs.Common.{◌≡◌, Some}
use Rattle.duk_journal.specs.Groups.{Entries}
use Rattle.duk_journal_host.specs.Host.{HostMeaning, HostOf, IndexOf, JudgesBy}
use Rattle.duk_journal_host.specs.inner.Host.{AgreesWithJournal}
use Rattle.duk_journal_host.proofs.Answering.{held}

pub judges_by : {J I : Type 0} (meaning : HostMeaning J I) (host : HostOf J I) → AgreesWithJournal meaning.journal host.keys host.journal host.state
    → (index : IndexOf) → host.state ≡ Some index → (entries : Entries) × JudgesBy meaning host entries
judges_by meaning host agrees index runs =
    let holds = held meaning.journal host.keys host.journal host.state index agrees runs in
    (holds.entries, record { index = index; runs = runs; index_is = holds.index_is; kept = holds.kept })
