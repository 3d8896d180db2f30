-- What is told before a request is answered (this project's own): where faults are explained, a line of
-- a configuration in which two prefixes have one key.
use Rattle.std.specs.Prelude.{◌≡◌, Bool, List, true, ℕ}
use Rattle.duk_arguments.specs.Request.{Written}
use Rattle.duk_arguments.specs.declared.name.CommandName.{CommandName}
use Rattle.duk_arguments.specs.declared.name.CommandName.TheVariants as name
use Rattle.duk_io.specs.Known.{Known}
use Rattle.duk_io.specs.Sink.{IsTried}
use Rattle.duk_program.specs.Scene.{Scene, scene}

-- a text was written, which may be empty
abbrev pub IsNoteTried : Known → Known → Type 0
IsNoteTried old new = (text : List ℕ) × IsTried old new text

-- what a command that reads a configuration tells of it, and any other does not
abbrev pub IsNoteOf : CommandName → Bool → Known → Known → Type 0
IsNoteOf name.Run true old new = IsNoteTried old new
IsNoteOf name.Serve true old new = IsNoteTried old new
IsNoteOf command explained old new = new ≡ old

-- the scene from the time on when the writer of faults made this known
abbrev pub telling_on : {D : Type 0} → Scene D → Known → Scene D
telling_on s noted = scene s.held s.disks s.making s.streams noted s.fault_after

-- a request is answered so behind its note
pub record IsBehindNote {D : Type 0} (explained : Bool) (s : Scene D) (asked : Written)
    (Answered : Scene D → Written → Type 0) : Type 0 where
  pub noted : Known
  pub note : IsNoteOf asked.command explained s.fault_before noted
  pub answered : Answered (telling_on s noted) asked
