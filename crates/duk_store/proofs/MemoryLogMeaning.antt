-- What the calls of a log in memory do to its meaning.
use Rattle.std.proofs.Common.{◌≡◌, ◌++◌, [], ◌∷◌, length, refl, sym, ap, ◌∙◌, subst, rules}
use Rattle.duk_tree.specs.Serial.{Serial}
use Rattle.duk_store.specs.Device.{after_two}
use Rattle.duk_store.specs.Log.{IsAppended, LogRestarted}
use Rattle.duk_store.specs.MemoryLog.{MemoryLog, IsMemoryAppended, memory_log_meaning, restarted_log}

-- a restart finds what is kept
pub restarted_in_memory : (log : MemoryLog) → LogRestarted memory_log_meaning log (restarted_log log) (length log.numbers)
restarted_in_memory log = record { numbers = log.numbers; restarted = search rules; counted = λ honest. refl }

-- an append that is done appends
pub appended_in_memory : (old new : MemoryLog) (number : Serial) → IsMemoryAppended old new number → IsAppended memory_log_meaning old new number
appended_in_memory old new number done = record {
  was_running = done.passed.runs;
  nature = record {
    honest = (λ honest. honest, λ honest. honest);
    sound = λ honest sound. sound;
    calm = λ is_calm. subst (λ passes. after_two passes new.device.passes) is_calm done.passed.passes_are;
  };
  no_failure = ap (λ device. device.failures) done.passed.device_is;
  runs = ap (λ device. device.running) done.passed.device_is ∙ done.passed.runs;
  finds = λ honest numbers only other.
      let same : old.numbers ≡ numbers = (only old.numbers).0 refl in
      let list : new.numbers ≡ numbers ++ number ∷ [] = done.kept ∙ ap (λ earlier. earlier ++ number ∷ []) same in
      (λ is_new. is_new ∙ list, λ is_list. is_list ∙ sym list);
}
