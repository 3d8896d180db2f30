-- How a command answers (this project's own).
use Rattle.std.specs.Prelude.{◌≡◌, ◌⊎◌, ℕ, List}
use Rattle.duk_io.specs.Known.{Known}
use Rattle.duk_io.specs.Sink.{IsCut, IsTried, IsUntouched, IsWritten}
use Rattle.duk_commands.specs.Fault.{report_line}
use Rattle.duk_commands.specs.declared.fault.Fault.{Fault}
use Rattle.duk_commands.specs.declared.fault.Fault.TheVariants.{WriteFailed}

-- what a command makes of its arguments: the texts that they ask it to write, the texts that it may
-- have begun to write where a write failed, and the faults for which they are refused
pub record Command : Type 1 where
  pub writes : List ℕ → Type 0
  pub begins : List ℕ → Type 0
  pub refuses : Fault → Type 0

-- a command whose text is known before any of it is written
abbrev pub command_of : (List ℕ → Type 0) → (Fault → Type 0) → Command
command_of writes refuses = record { writes = writes; begins = writes; refuses = refuses }

-- what the two writers of a command make known before it and after it
pub record Streams : Type 0 where
  pub output_before : Known
  pub output_after : Known
  pub fault_before : Known
  pub fault_after : Known

abbrev pub streams : Known → Known → Known → Known → Streams
streams output_before output_after fault_before fault_after = record {
  output_before = output_before;
  output_after = output_after;
  fault_before = fault_before;
  fault_after = fault_after;
}

-- a text that the arguments ask for was written
pub record IsDone (command : Command) (old new : Known) : Type 0 where
  pub text : List ℕ
  pub asked : command.writes text
  pub written : IsWritten old new text

-- the arguments are refused for this reason, and nothing was written
pub record IsRefused (command : Command) (why : Fault) (old new : Known) : Type 0 where
  pub cause : command.refuses why
  pub no_output : IsUntouched old new

-- such a text was begun, and a write failed
pub record IsCutShort (command : Command) (old new : Known) : Type 0 where
  pub text : List ℕ
  pub asked : command.begins text
  pub cut : IsCut old new text

-- why a command is not done: its arguments are refused, or a write failed
abbrev pub IsNotDone : Command → Fault → Known → Known → Type 0
IsNotDone command why old new =
    IsRefused command why old new ⊎ ((why ≡ WriteFailed) × IsCutShort command old new)

-- a command is not done, and the line of its fault was written
pub record HasReported (command : Command) (s : Streams) : Type 0 where
  pub why : Fault
  pub not_done : IsNotDone command why s.output_before s.output_after
  pub line : IsTried s.fault_before s.fault_after (report_line why)
