-- What a run of the program does (this project's own, over what it does for a request).
use Rattle.std.specs.Prelude.{◌≡◌, ◌⊎◌, ℕ, Bool, List}
use Rattle.duk_program.specs.Asked.{AskForHelp, Asks}
use Rattle.duk_arguments.specs.Request.{Written}
use Rattle.duk_commands.specs.Fault.{report_line}
use Rattle.duk_commands.specs.HandedOn.{HasHandedOn, HasLost}
use Rattle.duk_commands.specs.declared.fault.Fault.TheVariants.{OutOfMemory, WriteFailed}
use Rattle.duk_io.specs.Known.{Known}
use Rattle.duk_io.specs.Sink.{IsCut, IsTried, IsUntouched, IsWritten}
use Rattle.duk_program.specs.Fault.{IsTold}
use Rattle.duk_program.specs.Meant.{HasLeftInput, IsRequestDone, IsRequestNotDone}
use Rattle.duk_program.specs.Scene.{Scene, scene, writers_of}
use Rattle.duk_program.specs.declared.fault.Fault.{Fault}
use Rattle.duk_commands.specs.Answer.{Streams}
use Rattle.duk_store.specs.Disk.{DiskMeaning}

-- the scene until the writer of faults made this known
abbrev pub until : {D : Type 0} → Scene D → Known → Scene D
until s between = scene s.held s.disks s.making s.streams s.fault_before between

-- a request is not done, and then its fault is told
pub record IsToldAfter {D : Type 0} (explained : Bool)
    (NotDone : Scene D → Written → Fault → Type 0) (s : Scene D) (asked : Written) : Type 0 where
  pub why : Fault
  pub between : Known
  pub not_done : NotDone (until s between) asked why
  pub told : IsTold explained why between s.fault_after

-- the arguments ask for help, or for the version, and a text is written and handed on
pub record HasShown (arguments : List (List ℕ)) (s : Streams) : Type 0 where
  pub asked : AskForHelp arguments
  pub text : List ℕ
  pub shown : HasHandedOn (λ written. IsWritten s.output_before written text) s.output_after
  pub no_fault : IsUntouched s.fault_before s.fault_after

-- nothing was asked for, since memory was refused
pub record HasNoMemory (s : Streams) : Type 0 where
  pub no_output : IsUntouched s.output_before s.output_after
  pub line : IsTried s.fault_before s.fault_after (report_line OutOfMemory)

-- a text was written or begun
abbrev pub IsBegun : List ℕ → Known → Known → Type 0
IsBegun text old new = IsWritten old new text ⊎ IsCut old new text

-- the arguments ask for help, or for the version, and the text is not written whole or could not be
-- handed on
pub record HasShownInPart (arguments : List (List ℕ)) (s : Streams) : Type 0 where
  pub asked : AskForHelp arguments
  pub text : List ℕ
  pub cut : HasHandedOn (λ written. IsCut s.output_before written text) s.output_after
      ⊎ HasLost (IsBegun text s.output_before) s.output_after
  pub line : IsTried s.fault_before s.fault_after (report_line WriteFailed)

-- neither is a request made of the arguments nor a text shown
abbrev pub IsNotShown : List (List ℕ) → Streams → Type 0
IsNotShown arguments s = HasNoMemory s ⊎ HasShownInPart arguments s

-- the arguments ask for a request that is done
pub record HasDone {D : Type 0} (status : ℕ) (explained : Bool) (meaning : DiskMeaning D)
    (arguments : List (List ℕ)) (s : Scene D) : Type 0 where
  pub request : Written
  pub asked : Asks arguments request
  pub done : IsRequestDone status explained meaning s request

-- status 0, or 3 of a refusal
abbrev pub IsProgramDone : {D : Type 0} → ℕ → Bool → DiskMeaning D → List (List ℕ) → Scene D
    → Type 0
IsProgramDone status explained meaning arguments s =
    HasDone status explained meaning arguments s
    ⊎ ((status ≡ 0) × HasLeftInput s.streams (HasShown arguments (writers_of s)))

-- the arguments ask for a request that is not done, and that is told
pub record HasNotDone {D : Type 0} (explained : Bool) (meaning : DiskMeaning D)
    (arguments : List (List ℕ)) (s : Scene D) : Type 0 where
  pub request : Written
  pub asked : Asks arguments request
  pub not_done : IsToldAfter explained (IsRequestNotDone explained meaning) s request

-- status 1
abbrev pub IsProgramNotDone : {D : Type 0} → Bool → DiskMeaning D → List (List ℕ) → Scene D → Type 0
IsProgramNotDone explained meaning arguments s =
    HasNotDone explained meaning arguments s
    ⊎ HasLeftInput s.streams (IsNotShown arguments (writers_of s))
