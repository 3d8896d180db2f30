use Rattle.std.proofs.Common.{◌≡◌, Some, Contains, subst}
use Rattle.duk_journal.specs.declared.entry.Decided.{Decided}
use Rattle.duk_journal_host.specs.Host.{IndexOf}
use Rattle.duk_journal_host.specs.inner.Latest.{entry_under}
use Rattle.duk_journal_host.proofs.index.Index.decided.Goals as goal

pub returns-clause-every : goal.returns-clause-every
returns-clause-every c =
    subst (λ (index : IndexOf). (decided : Decided) → Contains index.latest (entry_under c.args.ksn c.args.mac decided) → c.decided.result ≡ Some decided) c.self.view_is c.decided.ensures.every
