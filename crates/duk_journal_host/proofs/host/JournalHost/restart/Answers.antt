use Rattle.std.proofs.Common.{refl, sym, subst}
use Rattle.duk_journal_host.specs.Host.{host_meaning_of}
use Rattle.duk_journal_host.specs.inner.Host.{HoldsIndex}
use Rattle.duk_journal_host.specs.inner.Reading.{TakesEntry}
use Rattle.duk_journal_host.proofs.FirstRead.{of_none}
use Rattle.duk_journal_host.proofs.Restarting.{holds_up, is_restarted, restart_refused}
use Rattle.duk_journal_host.proofs.host.JournalHost.restart.Goals as goal

pub invariant_of-self : goal.invariant_of-self
invariant_of-self g c =
    let empty = of_none c.new-gathered.result c.new-gathered.ensures.used c.new-gathered.ensures.others c.new-gathered.ensures.reversed c.new-gathered.ensures.latest in
    record {
      zone = c.self.invariant.zone;
      holds = subst (λ index. HoldsIndex g.J.Journal.meaning c.restart.new.self index) (sym c.into_index.ensures)
          (holds_up g.J.Journal.meaning TakesEntry (λ index. index) (λ before entry after taken. taken) c.self.inside.journal c.restart.new.self c.new-gathered.result empty c.restart.new.visitor c.in-Ok.kept c.in-Ok.ensures.found c.in-Ok.ensures.counted);
    }

pub returns-in-Ok-clause-restarted : goal.returns-in-Ok-clause-restarted
returns-in-Ok-clause-restarted g c =
    let empty = of_none c.new-gathered.result c.new-gathered.ensures.used c.new-gathered.ensures.others c.new-gathered.ensures.reversed c.new-gathered.ensures.latest in
    rw (← c.self.view_is, c.into_index.ensures) (is_restarted (host_meaning_of g.J.Journal.meaning g.I.Issuer.decides) _ _ c.new-gathered.result empty (record { keys = refl; issuer = refl }) c.restart.new.visitor c.in-Ok.kept c.in-Ok.ensures.found refl c.in-Ok.ensures.counted)

pub returns-in-Err-clause-refused : goal.returns-in-Err-clause-refused
returns-in-Err-clause-refused g c =
    let empty = of_none c.new-gathered.result c.new-gathered.ensures.used c.new-gathered.ensures.others c.new-gathered.ensures.reversed c.new-gathered.ensures.latest in
    rw (c.fault_of.ensures, ← c.self.view_is) (restart_refused (host_meaning_of g.J.Journal.meaning g.I.Issuer.decides) _ _ c.new-gathered.result empty (record { keys = refl; issuer = refl }) refl c.in-Err.fault c.in-Err.ensures.failed)
