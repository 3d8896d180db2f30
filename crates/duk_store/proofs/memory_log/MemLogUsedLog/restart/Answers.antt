use Rattle.std.proofs.Common.{length, subst, take}
use Rattle.std.proofs.lemmas.List.{length-take-le}
use Rattle.duk_store.specs.Log.{LogRestarted}
use Rattle.duk_store.specs.MemoryLog.{MemoryLog, memory_log_meaning}
use Rattle.duk_store.proofs.MemoryLogMeaning.{restarted_in_memory}
use Rattle.duk_store.proofs.memory_log.MemLogUsedLog.restart.Goals as goal

pub returns-clause-found : goal.returns-clause-found
returns-clause-found c =
    let inside = c.self.inside in
    let log : MemoryLog = record {
      numbers = take inside.len inside.places.items;
      capacity = length inside.places.items;
      device = inside.device;
    } in
    rw (← c.self.view_is, c.start.ensures)
    (subst (LogRestarted memory_log_meaning _ _) (length-take-le inside.len inside.places.items c.self.invariant) (restarted_in_memory log))
