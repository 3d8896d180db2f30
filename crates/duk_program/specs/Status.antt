-- What is left to do when the arguments are dealt with (this project's own).
use Rattle.std.specs.Prelude.{◌≡◌, ◌⊎◌, ℕ, Bool, List, None, Some, codes}
use Rattle.duk_program.specs.Asked.{Asks}
use Rattle.duk_arguments.specs.Request.{Written, flag_in, text_in, value_in}
use Rattle.duk_arguments.specs.declared.name.CommandName.TheVariants as name
use Rattle.duk_commands.specs.Answer.{Streams}
use Rattle.duk_io.specs.Sink.{IsTried, IsUntouched}
use Rattle.duk_program.specs.Commands.{IsCommandDone, IsCommandNotDone}
use Rattle.duk_program.specs.Fault.{fault_text}
use Rattle.duk_program.specs.Items.{IsAtOnce}
use Rattle.duk_program.specs.Program.{HasShown, IsNotShown}
use Rattle.duk_program.specs.declared.dispatch.Kept.{Kept}
use Rattle.duk_program.specs.declared.dispatch.Kept.TheVariants.{InJournal, InLog, InMemory}
use Rattle.duk_program.specs.declared.dispatch.Todo.{Todo}
use Rattle.duk_program.specs.declared.dispatch.Todo.TheVariants.{Do, Exit, Run, Serve}
use Rattle.duk_program.specs.declared.fault.Fault.{Fault}

-- 0 where all is done, 1 after the line of a fault, 2 where the arguments were refused
abbrev pub IsStatus : ℕ → Type 0
IsStatus status = (status ≡ 0) ⊎ (status ≡ 1) ⊎ (status ≡ 2)

-- nothing is left but to end with a status, or else a request is left to do
abbrev pub IsLeftToDo : Todo → Type 0
IsLeftToDo (Exit status) = IsStatus status
IsLeftToDo left = Unit {0}

-- nothing is left but to end with this status
abbrev pub EndsWith : Todo → ℕ → Type 0
EndsWith (Exit status) wanted = status ≡ wanted
EndsWith left wanted = ⊥

-- a request is left to do
abbrev pub IsToRun : Todo → Type 0
IsToRun (Exit status) = ⊥
IsToRun left = Unit {0}

-- a request keeps the used numbers so
abbrev pub IsKept : Written → Kept → Type 0
IsKept asked InMemory = (value_in (codes "log") asked ≡ None)
    × (value_in (codes "journal") asked ≡ None)
IsKept asked (InLog path) = value_in (codes "log") asked ≡ Some path.now
IsKept asked (InJournal path) = (value_in (codes "log") asked ≡ None)
    × (value_in (codes "journal") asked ≡ Some path.now)

-- a run of a script is what a request asks for
pub record IsRun (asked : Written) (config script : List ℕ) (journal : Bool) : Type 0 where
  pub command : asked.command ≡ name.Run
  pub config_is : config ≡ text_in (codes "CONFIG") asked
  pub script_is : script ≡ text_in (codes "SCRIPT") asked
  pub journal_is : journal ≡ flag_in (codes "journal") asked

-- a service is
pub record IsService (asked : Written) (config : List ℕ) (kept : Kept) : Type 0 where
  pub command : asked.command ≡ name.Serve
  pub config_is : config ≡ text_in (codes "CONFIG") asked
  pub kept_is : IsKept asked kept

-- what is left to do, if anything is, is what a request asks for
abbrev pub RunsRequest : Written → Todo → Type 0
RunsRequest asked (Exit status) = Unit {0}
RunsRequest asked (Run config script journal) = IsRun asked config.now script.now journal
RunsRequest asked (Serve config kept) = IsService asked config.now kept
RunsRequest asked (Do left) = left ≡ asked

-- only what the arguments ask for is left to do
abbrev pub RunsAsked : List (List ℕ) → Todo → Type 0
RunsAsked arguments (Exit status) = Unit {0}
RunsAsked arguments left = (asked : Written) × Asks arguments asked × RunsRequest asked left

-- the arguments ask for a request that needs neither files nor the input, and its command is done
pub record HasDoneAtOnce (arguments : List (List ℕ)) (s : Streams) : Type 0 where
  pub request : Written
  pub asked : Asks arguments request
  pub at_once : IsAtOnce request
  pub done : IsCommandDone request s.output_before s.output_after
  pub no_fault : IsUntouched s.fault_before s.fault_after

-- status 0
abbrev pub HasEnded : List (List ℕ) → Streams → Type 0
HasEnded arguments s = HasDoneAtOnce arguments s ⊎ HasShown arguments s

-- or is not, and the line of its fault is written
pub record HasFailedAtOnce (arguments : List (List ℕ)) (s : Streams) : Type 0 where
  pub request : Written
  pub asked : Asks arguments request
  pub at_once : IsAtOnce request
  pub why : Fault
  pub not_done : IsCommandNotDone request s.output_before why s.output_after
  pub line : IsTried s.fault_before s.fault_after (fault_text why)

-- status 1
abbrev pub HasNotEnded : List (List ℕ) → Streams → Type 0
HasNotEnded arguments s = HasFailedAtOnce arguments s ⊎ IsNotShown arguments s
