-- What a run of the program stands on: files, disks and streams (this project's own).
use Rattle.std.specs.Prelude.{ℕ, List}
use Rattle.duk_commands.specs.Answer.{Streams, streams}
use Rattle.duk_commands.specs.Batch.{Input, input_of}
use Rattle.duk_host.specs.Serve.{Supply}
use Rattle.duk_io.specs.Known.{Known}
use Rattle.duk_service.specs.Files.{FileKnown}
use Rattle.duk_service.specs.LogFiles.{DiskKnown, MakingKnown}
use Rattle.duk_service.specs.Serve.{Serving, serving}

-- what files make known of each path, and what the streams make known before and after
pub record Scene (D : Type 0) : Type 0 where
  pub held : List ℕ → FileKnown
  pub disks : List ℕ → DiskKnown D
  pub making : List ℕ → MakingKnown D
  pub streams : Serving
  pub fault_before : Known
  pub fault_after : Known

abbrev pub scene : {D : Type 0} → (List ℕ → FileKnown) → (List ℕ → DiskKnown D)
    → (List ℕ → MakingKnown D) → Serving → Known → Known → Scene D
scene held disks making streams fault_before fault_after = record {
  held = held;
  disks = disks;
  making = making;
  streams = streams;
  fault_before = fault_before;
  fault_after = fault_after;
}

-- the writers of answers and of faults
abbrev pub writers_in : Serving → Known → Known → Streams
writers_in s fault_before fault_after =
    streams s.output_before s.output_after fault_before fault_after

-- those of a scene
abbrev pub writers_of : {D : Type 0} → Scene D → Streams
writers_of s = writers_in s.streams s.fault_before s.fault_after

-- the input
abbrev pub input_in : Serving → Input
input_in s = input_of s.input_before.known s.input_after.known s.input_before.reads
    s.input_after.reads

-- the scene from the time on when the input makes this known
abbrev pub reading_on : {D : Type 0} → Scene D → Supply → Scene D
reading_on s input = scene s.held s.disks s.making
    (serving input s.streams.input_after s.streams.output_before s.streams.output_after)
    s.fault_before s.fault_after
