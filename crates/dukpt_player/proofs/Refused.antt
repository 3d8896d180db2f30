-- How a run ends that is refused: from why it is, and from what is told of that.
use Rattle.std.proofs.Common.{Bool, List, ℕ, inl, inr, refl}
use Rattle.duk_calls.specs.Answer.{Buffer}
use Rattle.duk_config.specs.ConfigFile.{IsConfigFault}
use Rattle.duk_config.specs.FaultText.{script_fault_text}
use Rattle.duk_config.specs.declared.fault.ScriptFault.{ScriptFault}
use Rattle.duk_config.specs.declared.fault.ScriptFault.TheVariants as fault
use Rattle.dukpt_player.specs.Run.{IsBadScript, IsCause, RunAnswers}
use Rattle.dukpt_player.specs.inner.Run.{IsOfConfig, IsOutOfMemory, IsRefused, Tells}
use Rattle.dukpt_player.specs.declared.ending.Ending.{Ending}
use Rattle.dukpt_player.specs.declared.ending.Ending.TheVariants as ending

-- the cause of a fault that is not want of memory
pub cause_of : (journal : Bool) (bytes script : List ℕ) (why : ScriptFault) → ¬ IsOutOfMemory why
    → IsRefused journal bytes script why → IsCause journal bytes script why
cause_of journal bytes script why not_memory (inl memory) = absurd (not_memory memory)
cause_of journal bytes script why not_memory (inr cause) = cause

-- the cause of a fault of a configuration
pub config_cause : (journal : Bool) (bytes script : List ℕ) (why : ScriptFault) → IsOfConfig why
    → IsRefused journal bytes script why → IsConfigFault bytes why
config_cause journal bytes script (fault.NotAnEvent line) of_config refused = absurd of_config
config_cause journal bytes script fault.NoMemory of_config refused = absurd of_config
config_cause journal bytes script fault.WriteFailed of_config refused = absurd of_config
config_cause journal bytes script why of_config (inl memory) = absurd memory
config_cause journal bytes script why of_config (inr cause) = cause

-- the cause of the fault that a line of the script is no event
pub line_cause : (journal : Bool) (bytes script : List ℕ) (line : ℕ)
    → IsRefused journal bytes script (fault.NotAnEvent line) → IsBadScript journal bytes script line
line_cause journal bytes script line (inl memory) = absurd memory
line_cause journal bytes script line (inr cause) = cause

-- what a run answers that is refused and told of
pub refused_answers : (journal : Bool) (bytes script : List ℕ) (why : ScriptFault) (old new : Buffer) (how : Ending) → IsRefused journal bytes script why
    → Tells why old new how → RunAnswers journal bytes script old new how
refused_answers journal bytes script why old new ending.Played refused told = absurd told
refused_answers journal bytes script why old new ending.BadConfig refused told = record {
  why = why;
  cause = config_cause journal bytes script why told.0 refused;
  not_memory = λ same. rw same at told.0;
  written = told.1;
}
refused_answers journal bytes script why old new (ending.NotAnEvent line) refused told = record {
  cause = line_cause journal bytes script line (rw told.0 at refused);
  written = rw told.0 at told.1;
}
refused_answers journal bytes script why old new ending.NoMemory refused told = told
refused_answers journal bytes script why old new ending.NoRoom refused told = record {
  text = script_fault_text why;
  text_is = inr (why, cause_of journal bytes script why told.0 refused, refl);
  short = told.1;
  unwritten = told.2;
}
