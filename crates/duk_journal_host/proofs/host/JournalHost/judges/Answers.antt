use Rattle.std.proofs.Common.{◌≡◌, Some, subst}
use Rattle.duk_journal.specs.Groups.{Entries}
use Rattle.duk_journal_host.specs.Host.{HostOf, IndexOf, JudgesBy, host_meaning_of}
use Rattle.duk_journal_host.proofs.Answering.{host_with}
use Rattle.duk_journal_host.proofs.HostJudges.{judges_by}
use Rattle.duk_journal_host.proofs.host.JournalHost.judges.Goals as goal

pub returns : goal.returns
returns g c =
    let meaning = host_meaning_of g.J.Journal.meaning g.I.Issuer.decides in
    let inside = c.self.inside in
    subst (λ (host : HostOf g.row.J.Denot g.row.I.Denot). (index : IndexOf) → host.state ≡ Some index → (entries : Entries) × JudgesBy meaning host entries) c.self.view_is
    (judges_by meaning (host_with inside.hsm inside.issuer inside.journal inside.state) c.self.invariant)
