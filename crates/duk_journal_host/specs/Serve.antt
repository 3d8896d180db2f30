-- A host over a journal that serves a stream of frames: this project's own. How the frames were
-- grouped does not show.
use Rattle.std.specs.Prelude.{◌<◌, ◌≤◌, ◌⊎◌, ◌+◌, ◌++◌, [], ℕ, List, All, length}
use Rattle.std.specs.List.{concat}
use Rattle.std.specs.Io.KnownBytes.{IsAtEnd}
use Rattle.duk_frame.specs.Stream.{BeginsTooLong, BeginsWith, IsFrame, IsPart}
use Rattle.duk_host.specs.Serve.{Supply}
use Rattle.duk_host.specs.declared.fault.HostFault.{HostFault}
use Rattle.duk_host.specs.declared.fault.HostFault.TheVariants as fault
use Rattle.duk_io.specs.Known.{Known}
use Rattle.duk_io.specs.Sink.{IsCut, IsWritten}
use Rattle.duk_io.specs.Source.{AreBytesRead, AreReadsMade, IsBroken}
use Rattle.duk_journal_host.specs.Group.{AnswersFirst, AnswersFrames, GroupOf, GroupRefused}
use Rattle.duk_journal_host.specs.Host.{HostMeaning, HostOf}

-- a host, and what is known of the writer that takes its answers
pub record Service (J I : Type 0) : Type 0 where
  pub host : HostOf J I
  pub writer : Known

-- the two together
abbrev pub service : {J I : Type 0} → HostOf J I → Known → Service J I
service host writer = record { host = host; writer = writer }

-- the bytes begin with frames, and this follows; the frames are answered in turn, and all the
-- answers are written
pub record IsServed
    {J I : Type 0} (meaning : HostMeaning J I) (old new : Service J I)
    (bytes rest : List ℕ) : Type 0 where
  pub frames : List (List ℕ)
  pub answers : List (List ℕ)
  pub begins : BeginsWith bytes frames rest
  pub answered : AnswersFrames meaning frames old.host new.host answers
  pub written : IsWritten old.writer new.writer (concat answers)

-- frames are answered, and the answers are not all written
pub record AreAnswersCut
    {J I : Type 0} (meaning : HostMeaning J I) (old new : Service J I)
    (frames : List (List ℕ)) : Type 0 where
  pub answers : List (List ℕ)
  pub answered : AnswersFrames meaning frames old.host new.host answers
      ⊎ AnswersFirst meaning frames old.host new.host answers
  pub cut : IsCut old.writer new.writer (concat answers)

-- frames are not all answered, and what answers there are is written
pub record AreUnanswered
    {J I : Type 0} (meaning : HostMeaning J I) (old new : Service J I) (frames : List (List ℕ))
    (why : HostFault) : Type 0 where
  pub answers : List (List ℕ)
  pub refused : GroupRefused meaning frames old.host new.host answers why
  pub written : IsWritten old.writer new.writer (concat answers)

-- why a group of frames has not all its answers written
abbrev pub GroupFailed : {J I : Type 0} → HostMeaning J I → Service J I → Service J I
    → List (List ℕ) → HostFault → Type 0
GroupFailed meaning old new frames fault.Write = AreAnswersCut meaning old new frames
GroupFailed meaning old new frames why = AreUnanswered meaning old new frames why

-- the frames before a group were served, and that group failed
pub record FailsAtGroup
    {J I : Type 0} (meaning : HostMeaning J I) (old new : Service J I) (bytes : List ℕ)
    (why : HostFault) : Type 0 where
  pub mid : Service J I
  pub group : List (List ℕ)
  pub rest : List ℕ
  pub served : IsServed meaning old mid bytes (concat group ++ rest)
  pub are_frames : All IsFrame group
  pub failed : GroupFailed meaning mid new group why

-- the frames before a length above 62 were served
pub record FailsAtLength
    {J I : Type 0} (meaning : HostMeaning J I) (old new : Service J I)
    (bytes : List ℕ) : Type 0 where
  pub rest : List ℕ
  pub served : IsServed meaning old new bytes rest
  pub too_long : BeginsTooLong rest

-- why bytes are not served
abbrev pub BytesFailed : {J I : Type 0} → HostMeaning J I → Service J I → Service J I → List ℕ
    → HostFault → Type 0
BytesFailed meaning old new bytes fault.TooLong = FailsAtLength meaning old new bytes
BytesFailed meaning old new bytes why = FailsAtGroup meaning old new bytes why

-- the reads that one run makes at most: more than a reader can be read
abbrev pub most_reads : ℕ
most_reads = 18446744073709551615

-- so many reads were made: no more than there are bytes, and one that gave no byte
pub record IsLastRead (input left : Supply) (bytes : List ℕ) : Type 0 where
  pub before : ℕ
  pub no_more : before ≤ length bytes
  pub made : AreReadsMade input.reads left.reads (before + 1)

-- the input is read to its end, and its frames are served, but for a part of one after them
pub record IsReadToEnd
    {J I : Type 0} (meaning : HostMeaning J I) (old new : Service J I) (input left : Supply)
    (rest : List ℕ) : Type 0 where
  pub bytes : List ℕ
  pub read : AreBytesRead input.known left.known bytes
  pub end : IsAtEnd left.known.contents
  pub last : IsLastRead input left bytes
  pub served : IsServed meaning old new bytes rest
  pub is_part : IsPart rest

-- the input ends inside a frame
pub record IsTruncated
    {J I : Type 0} (meaning : HostMeaning J I) (old new : Service J I)
    (input left : Supply) : Type 0 where
  pub rest : List ℕ
  pub read_up : IsReadToEnd meaning old new input left rest
  pub inside : 0 < length rest

-- these bytes were read, and the last of the reads failed
pub record IsReadBroken (input left : Supply) (bytes : List ℕ) : Type 0 where
  pub broken : IsBroken input.known left.known bytes
  pub last : IsLastRead input left bytes

-- these bytes were read, by as many reads as one run makes, each of which gave some
pub record AreAllReads (input left : Supply) (bytes : List ℕ) : Type 0 where
  pub read : AreBytesRead input.known left.known bytes
  pub made : AreReadsMade input.reads left.reads most_reads
  pub no_more : most_reads ≤ length bytes

-- the frames of what was read are served, and no more is read: a read failed, or as many were made
-- as one run makes
pub record IsServiceUnread
    {J I : Type 0} (meaning : HostMeaning J I) (old new : Service J I)
    (input left : Supply) : Type 0 where
  pub bytes : List ℕ
  pub rest : List ℕ
  pub served : IsServed meaning old new bytes rest
  pub is_part : IsPart rest
  pub cause : IsReadBroken input left bytes ⊎ AreAllReads input left bytes

-- what was read is not served
pub record IsUnserved
    {J I : Type 0} (meaning : HostMeaning J I) (old new : Service J I) (input left : Supply)
    (why : HostFault) : Type 0 where
  pub bytes : List ℕ
  pub read : AreBytesRead input.known left.known bytes
  pub failed : BytesFailed meaning old new bytes why

-- why a service ends before its input does, and what that leaves
abbrev pub ServiceFailed : {J I : Type 0} → HostMeaning J I → Service J I → Service J I → Supply
    → Supply → HostFault → Type 0
ServiceFailed meaning old new input left fault.Read = IsServiceUnread meaning old new input left
ServiceFailed meaning old new input left fault.Truncated = IsTruncated meaning old new input left
ServiceFailed meaning old new input left why = IsUnserved meaning old new input left why

-- the memory of a service: the frames of a group that are taken, and its answers
pub record WorkspaceOf : Type 0 where
  pub frames : List (List ℕ)
  pub group : GroupOf

-- no frame is in it, no answer and no entry
abbrev pub empty_workspace : WorkspaceOf
empty_workspace = record { frames = []; group = record { answers = []; entries = [] } }
