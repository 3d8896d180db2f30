use Rattle.std.proofs.Common.{◌≡◌, ℕ, Some, subst, sym}
use Rattle.std.specs.Prelude.{IfSome}
use Rattle.duk_journal.specs.declared.entry.Entry.{Entry}
use Rattle.duk_journal_copy.specs.Version.{format_of}
use Rattle.duk_journal_copy.specs.declared.version.Version.{Version}
use Rattle.duk_journal_copy.proofs.version.VersionFormat.read.Goals as goal

pub returns-in-Two-clause-found : goal.returns-in-Two-clause-found
returns-in-Two-clause-found c =
    subst (λ (v : Version). IfSome c.read-in-Two.result (λ found. (format_of v).says c.args.identity c.args.place found.0 found.1 c.args.contents.now))
    (sym c.in-Two.is) c.read-in-Two.ensures.found

pub returns-in-Two-clause-every : goal.returns-in-Two-clause-every
returns-in-Two-clause-every c =
    subst (λ (v : Version). (followers : ℕ) (item : Entry) → (format_of v).says c.args.identity c.args.place followers item c.args.contents.now → c.read-in-Two.result ≡ Some (followers, item))
    (sym c.in-Two.is) c.read-in-Two.ensures.every
