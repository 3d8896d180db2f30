-- What only private functions and proofs say beside `Serve.antt`: this project's own.
use Rattle.std.specs.Prelude.{◌<◌, ◌≤◌, ◌++◌, ℕ, List, Option, Some, None, length, take}
use Rattle.duk_frame.specs.Feeder.{Feeding}
use Rattle.duk_frame.specs.Stream.{IsPart}
use Rattle.duk_io.specs.Sink.{IsWritten}
use Rattle.duk_host.specs.Handle.{Answers}
use Rattle.duk_host.specs.Host.{HostMeaning}
use Rattle.duk_host.specs.Serve.{Service, IsServed}

-- a frame is answered, and the answer is written whole
pub record IsAnswerWritten
    {L I : Type 0} (meaning : HostMeaning L I) (old new : Service L I)
    (frame : List ℕ) : Type 0 where
  pub answer : List ℕ
  pub answers : Answers meaning frame old.host new.host answer
  pub written : IsWritten old.writer new.writer answer

-- the first frame that ends in a piece is served, by so many bytes of it: what a private function
-- does
pub record IsFrameServed
    {L I : Type 0} (meaning : HostMeaning L I) (old new : Service L I) (before after : Feeding)
    (piece : List ℕ) (taken : ℕ) : Type 0 where
  pub least : 0 < taken
  pub within : taken ≤ length piece
  pub served : IsServed meaning old new (before.rest ++ take taken piece) after.rest 1

-- no frame ends in a piece
pub record IsPieceHeld
    {L I : Type 0} (meaning : HostMeaning L I) (old new : Service L I) (before after : Feeding)
    (piece : List ℕ) : Type 0 where
  pub served : IsServed meaning old new (before.rest ++ piece) after.rest 0
  pub is_part : IsPart after.rest

-- one of these, by how many bytes a frame took
abbrev pub IsPieceTried : {L I : Type 0} → HostMeaning L I → Service L I → Service L I → Feeding
    → Feeding → List ℕ → Option ℕ → Type 0
IsPieceTried meaning old new before after piece (Some taken) =
    IsFrameServed meaning old new before after piece taken
IsPieceTried meaning old new before after piece None =
    IsPieceHeld meaning old new before after piece
