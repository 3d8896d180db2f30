-- What only private functions and proofs say beside `Status.antt`: this project's own.
use Rattle.std.specs.Prelude.{◌≡◌, ◌⊎◌, ℕ}
use Rattle.duk_arguments.specs.Request.{Written}
use Rattle.duk_commands.specs.Answer.{Streams}
use Rattle.duk_io.specs.Sink.{IsTried}
use Rattle.duk_program.specs.Commands.{IsCommandNotDone}
use Rattle.duk_program.specs.Fault.{fault_text}
use Rattle.duk_program.specs.declared.fault.Fault.{Fault}

-- the command of a request is not done, and the line of its fault is written
pub record HasToldCommand (asked : Written) (s : Streams) : Type 0 where
  pub why : Fault
  pub not_done : IsCommandNotDone asked s.output_before why s.output_after
  pub line : IsTried s.fault_before s.fault_after (fault_text why)

-- the status of a request
abbrev pub IsRequestStatus : ℕ → Type 0
IsRequestStatus status = (status ≡ 0) ⊎ (status ≡ 1) ⊎ (status ≡ 3)
