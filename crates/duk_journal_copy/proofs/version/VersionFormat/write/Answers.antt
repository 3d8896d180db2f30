use Rattle.std.proofs.Common.{subst, sym}
use Rattle.duk_journal_copy.specs.Version.{format_of}
use Rattle.duk_journal_copy.specs.declared.version.Version.{Version}
use Rattle.duk_journal_copy.proofs.version.VersionFormat.write.Goals as goal

pub write-requires-clause-stands : goal.write-requires-clause-stands
write-requires-clause-stands c = subst (λ (v : Version). (format_of v).may_stand c.args.item.now) c.in-One.is c.requires.stands

pub write-requires-in-Two-clause-stands : goal.write-requires-in-Two-clause-stands
write-requires-in-Two-clause-stands c = subst (λ (v : Version). (format_of v).may_stand c.args.item.now) c.in-Two.is c.requires.stands

pub returns-in-Two-clause-written : goal.returns-in-Two-clause-written
returns-in-Two-clause-written c =
    subst (λ (v : Version). (format_of v).says c.args.identity c.args.place c.args.followers c.args.item.now c.write-in-Two.new.contents) (sym c.in-Two.is)
    c.write-in-Two.ensures.written
