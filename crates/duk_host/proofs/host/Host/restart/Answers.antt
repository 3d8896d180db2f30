use Rattle.std.proofs.Common.{refl}
use Rattle.std.proofs.lemmas.Result.{err_from_is_err_and}
use Rattle.duk_host.proofs.RestartReadsAll.{holds_read, is_restarted, restart_refused, restart_without_memory}
use Rattle.duk_host.proofs.host.Host.restart.Goals as goal

pub returns-in_err-used-clause-refused : goal.returns-in_err-used-clause-refused
returns-in_err-used-clause-refused g c =
    let meaning = g.L.UsedLog.meaning in
    let p = err_from_is_err_and c.from_residual.result c.from_residual.ensures.1 in
    rw (p.1, p.2, ← c.self.view_is) (restart_refused meaning _ _ c.restart.new.self c.in-Ok.kept _ c.in-Ok.ensures.found (record { keys = refl; issuer = refl }) c.stop.ensures c.in_err-used.ensures.refused)

pub invariant_of-self-2 : goal.invariant_of-self-2
invariant_of-self-2 g c =
    let meaning = g.L.UsedLog.meaning in
    record {
      zone = c.self.invariant.zone;
      holds = holds_read meaning c.self.inside.log c.restart.new.self c.numbers_in.new.log c.in-Ok.kept c.in_ok-used.used c.in-Ok.ensures.found c.in_ok-used.ensures.read;
    }

pub returns-clause-restarted : goal.returns-clause-restarted
returns-clause-restarted g c =
    let meaning = g.L.UsedLog.meaning in
    rw (← c.self.view_is) (is_restarted meaning _ _ c.restart.new.self c.in-Ok.kept (record { used = c.in_ok-used.used; recent = c.in_ok-recent.recent }) c.in-Ok.ensures.found c.in_ok-used.ensures.read (record { keys = refl; issuer = refl }) refl c.in_ok-recent.ensures)

pub returns-in_err-recent-clause-refused : goal.returns-in_err-recent-clause-refused
returns-in_err-recent-clause-refused g c =
    let meaning = g.L.UsedLog.meaning in
    let p = err_from_is_err_and c.from_residual-in_err-recent.result c.from_residual-in_err-recent.ensures.1 in
    rw (p.1, p.2, ← c.self.view_is) (restart_without_memory meaning _ _ c.restart.new.self c.in-Ok.kept c.in_ok-used.used c.in-Ok.ensures.found c.in_ok-used.ensures.read (record { keys = refl; issuer = refl }) c.stop.ensures)
