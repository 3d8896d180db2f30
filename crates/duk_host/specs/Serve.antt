-- A host that serves a stream of frames: this project's own.
use Rattle.std.specs.Prelude.{◌≡◌, ◌+◌, ◌<◌, ◌≤◌, ◌⊎◌, ◌++◌, ℕ, List, [], ◌∷◌, Option, length}
use Rattle.std.specs.List.{concat}
use Rattle.std.specs.Io.KnownBytes.{IsAtEnd}
use Rattle.duk_frame.specs.Stream.{BeginsTooLong, BeginsWith, IsFrame, IsPart}
use Rattle.duk_io.specs.Known.{Known}
use Rattle.duk_io.specs.Sink.{IsCut, IsWritten}
use Rattle.duk_io.specs.Source.{AreBytesRead, AreReadsMade, IsBroken}
use Rattle.duk_host.specs.Handle.{Answers, HandleRefused}
use Rattle.duk_host.specs.Host.{HostMeaning, HostOf}
use Rattle.duk_host.specs.declared.fault.HostFault.{HostFault}
use Rattle.duk_host.specs.declared.fault.HostFault.TheVariants as fault

-- what a host does with frames in turn, and what it answers to each
abbrev pub Serves : {L I : Type 0} → HostMeaning L I → HostOf L I → List (List ℕ) → List (List ℕ)
    → HostOf L I → Type 0
Serves meaning old [] [] new = new ≡ old
Serves meaning old (frame ∷ frames) (answer ∷ answers) new =
    (mid : HostOf _ _) × Answers meaning frame old mid answer
    × Serves meaning mid frames answers new
Serves meaning old _ _ new = ⊥

-- a host, and what is known of the writer that takes its answers
pub record Service (L I : Type 0) : Type 0 where
  pub host : HostOf L I
  pub writer : Known

-- the two together
abbrev pub service : {L I : Type 0} → HostOf L I → Known → Service L I
service host writer = record { host = host; writer = writer }

-- what is known of a reader: its bytes and failures, and how often it was read
pub record Supply : Type 0 where
  pub known : Known
  pub reads : Option ℕ

-- the two together
abbrev pub supply : Known → Option ℕ → Supply
supply known reads = record { known = known; reads = reads }

-- a frame is answered, and the answer is not written whole
pub record IsAnswerCut
    {L I : Type 0} (meaning : HostMeaning L I) (old new : Service L I)
    (frame : List ℕ) : Type 0 where
  pub answer : List ℕ
  pub answers : Answers meaning frame old.host new.host answer
  pub cut : IsCut old.writer new.writer answer

-- the host has no answer to a frame, and nothing is written
pub record HasNoAnswer
    {L I : Type 0} (meaning : HostMeaning L I) (old new : Service L I) (frame : List ℕ)
    (why : HostFault) : Type 0 where
  pub refused : HandleRefused meaning frame old.host new.host why
  pub unwritten : new.writer ≡ old.writer

-- why a frame is not answered
abbrev pub AnswerFailed : {L I : Type 0} → HostMeaning L I → Service L I → Service L I → List ℕ
    → HostFault → Type 0
AnswerFailed meaning old new frame fault.Write = IsAnswerCut meaning old new frame
AnswerFailed meaning old new frame why = HasNoAnswer meaning old new frame why

-- the bytes begin with so many frames, and this follows; each frame was answered, in turn, and all
-- the answers are written
pub record IsServed
    {L I : Type 0} (meaning : HostMeaning L I) (old new : Service L I) (bytes rest : List ℕ)
    (count : ℕ) : Type 0 where
  pub frames : List (List ℕ)
  pub answers : List (List ℕ)
  pub begins : BeginsWith bytes frames rest
  pub counted : length frames ≡ count
  pub serves : Serves meaning old.host frames answers new.host
  pub written : IsWritten old.writer new.writer (concat answers)

-- the frames before one were served, and that one is not answered
pub record FailsAtFrame
    {L I : Type 0} (meaning : HostMeaning L I) (old new : Service L I) (bytes : List ℕ)
    (why : HostFault) : Type 0 where
  pub mid : Service L I
  pub frame : List ℕ
  pub rest : List ℕ
  pub count : ℕ
  pub served : IsServed meaning old mid bytes (frame ++ rest) count
  pub is_frame : IsFrame frame
  pub failed : AnswerFailed meaning mid new frame why

-- the frames before a length above 62 were served
pub record FailsAtLength
    {L I : Type 0} (meaning : HostMeaning L I) (old new : Service L I)
    (bytes : List ℕ) : Type 0 where
  pub rest : List ℕ
  pub count : ℕ
  pub served : IsServed meaning old new bytes rest count
  pub too_long : BeginsTooLong rest

-- why bytes are not served
abbrev pub BytesFailed : {L I : Type 0} → HostMeaning L I → Service L I → Service L I → List ℕ
    → HostFault → Type 0
BytesFailed meaning old new bytes fault.TooLong = FailsAtLength meaning old new bytes
BytesFailed meaning old new bytes why = FailsAtFrame meaning old new bytes why

-- the reads that one run makes at most
abbrev pub most_reads : ℕ
most_reads = 1000000

-- the last of the reads gave no byte of these, and no more were made before it than there are
-- bytes. They are at most as many as one run makes
pub record IsLastRead (input left : Supply) (bytes : List ℕ) : Type 0 where
  pub before : ℕ
  pub no_more : before ≤ length bytes
  pub within : before < most_reads
  pub made : AreReadsMade input.reads left.reads (before + 1)

-- the input is read to its end, and its frames are served, but for a part of one after them
pub record IsReadToEnd
    {L I : Type 0} (meaning : HostMeaning L I) (old new : Service L I) (input left : Supply)
    (rest : List ℕ) (count : ℕ) : Type 0 where
  pub bytes : List ℕ
  pub read : AreBytesRead input.known left.known bytes
  pub end : IsAtEnd left.known.contents
  pub last : IsLastRead input left bytes
  pub served : IsServed meaning old new bytes rest count
  pub is_part : IsPart rest

-- the input ends inside a frame
pub record IsTruncated
    {L I : Type 0} (meaning : HostMeaning L I) (old new : Service L I)
    (input left : Supply) : Type 0 where
  pub rest : List ℕ
  pub count : ℕ
  pub read_up : IsReadToEnd meaning old new input left rest count
  pub inside : 0 < length rest

-- these bytes were read, by as many reads as one run makes, and these are no more than the bytes:
-- the last of them gave some too
pub record AreAllReads (input left : Supply) (bytes : List ℕ) : Type 0 where
  pub read : AreBytesRead input.known left.known bytes
  pub made : AreReadsMade input.reads left.reads most_reads
  pub no_more : most_reads ≤ length bytes

-- these bytes were read, and the last of the reads failed
pub record IsReadBroken (input left : Supply) (bytes : List ℕ) : Type 0 where
  pub broken : IsBroken input.known left.known bytes
  pub last : IsLastRead input left bytes

-- the frames of what was read are served, and no more is read: a read failed, or as many were made
-- as one run makes, the last of which was not the end
pub record IsServiceUnread
    {L I : Type 0} (meaning : HostMeaning L I) (old new : Service L I)
    (input left : Supply) : Type 0 where
  pub bytes : List ℕ
  pub rest : List ℕ
  pub count : ℕ
  pub served : IsServed meaning old new bytes rest count
  pub is_part : IsPart rest
  pub cause : IsReadBroken input left bytes ⊎ AreAllReads input left bytes

-- what was read is not served
pub record IsUnserved
    {L I : Type 0} (meaning : HostMeaning L I) (old new : Service L I) (input left : Supply)
    (why : HostFault) : Type 0 where
  pub bytes : List ℕ
  pub read : AreBytesRead input.known left.known bytes
  pub failed : BytesFailed meaning old new bytes why

-- why a service ends before its input does, and what that leaves
abbrev pub ServiceFailed : {L I : Type 0} → HostMeaning L I → Service L I → Service L I → Supply
    → Supply → HostFault → Type 0
ServiceFailed meaning old new input left fault.Read = IsServiceUnread meaning old new input left
ServiceFailed meaning old new input left fault.Truncated = IsTruncated meaning old new input left
ServiceFailed meaning old new input left why = IsUnserved meaning old new input left why
