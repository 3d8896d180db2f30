-- What a host over a journal does with a group of frames: this project's own.
use Rattle.std.specs.Prelude.{◌≡◌, ◌≢◌, ◌<◌, ◌++◌, ℕ, List, [], None, get_or, length, take}
use Rattle.duk_host.specs.declared.fault.HostFault.{HostFault}
use Rattle.duk_host.specs.declared.fault.HostFault.TheVariants as fault
use Rattle.duk_journal.specs.Groups.{Entries}
use Rattle.duk_store.specs.Listed.{GroupAppendFailed}
use Rattle.duk_store.specs.StoreState.{PreservesNature}
use Rattle.duk_store.specs.declared.fault.StoreFault.{StoreFault}
use Rattle.duk_journal_host.specs.Host.{HostMeaning, HostOf, JudgesBy, basis_of}
use Rattle.duk_journal_host.specs.Judged.{AreJudged}
use Rattle.duk_journal_host.specs.Judgement.{MayBeTaken}
use Rattle.duk_journal_host.specs.Restart.{PreservesEnds}

-- the most frames of a group
abbrev pub most_frames : ℕ
most_frames = 1024

-- a group of frames as it is answered: the answers, in the order of the frames, and the entries
-- that go into the journal before any of them goes out
pub record GroupOf : Type 0 where
  pub answers : List (List ℕ)
  pub entries : Entries

-- there are no frames and no answers, and the host is as it was
pub record AnswersNone
    {J I : Type 0} (frames : List (List ℕ)) (old new : HostOf J I) (answers : List (List ℕ))
    : Type 0 where
  pub no_frames : frames ≡ []
  pub no_answers : answers ≡ []
  pub same : new ≡ old

-- frames are answered: whatever entries the host judged by, these are the answers, and it now
-- judges by those entries and the ones that the frames add. A stopped host answers none
pub record AnswersFrames
    {J I : Type 0} (meaning : HostMeaning J I) (frames : List (List ℕ)) (old new : HostOf J I)
    (answers : List (List ℕ)) : Type 0 where
  pub ends : PreservesEnds old new
  pub nature : PreservesNature
      (meaning.journal.state_of old.journal) (meaning.journal.state_of new.journal)
  pub capacity : meaning.journal.capacity new.journal ≡ meaning.journal.capacity old.journal
  pub answered : (entries : Entries) → JudgesBy meaning old entries → (added : Entries)
      × AreJudged (basis_of meaning old entries) frames answers added
      × JudgesBy meaning new (entries ++ added)
  pub stopped : old.state ≡ None → AnswersNone frames old new answers

-- the bytes may be accepted by what a host judges by: they are a request or a reversal against which
-- there is no reason
abbrev pub WouldAccept : {J I : Type 0} → HostMeaning J I → HostOf J I → List ℕ → Type 0
WouldAccept meaning host bytes = (entries : Entries) → JudgesBy meaning host entries
    → MayBeTaken (basis_of meaning host entries) bytes

-- memory was refused at a frame: the frames before it are answered, it would be accepted after them,
-- and the host is stopped
pub record AnswersFirst
    {J I : Type 0} (meaning : HostMeaning J I) (frames : List (List ℕ)) (old new : HostOf J I)
    (answers : List (List ℕ)) : Type 0 where
  pub was_running : old.state ≢ None
  pub fewer : length answers < length frames
  pub before : HostOf J I
  pub answers_are : AnswersFrames meaning (take (length answers) frames) old before answers
  pub would_accept : WouldAccept meaning before (get_or frames (length answers) [])
  pub stopped : new ≡ record before { state = None }

-- entries of a group are not kept: the host is stopped, and there are no answers. A restart finds
-- the entries that it judged by, or these and all that the first frames of the group add
pub record IsGroupNotKept
    {J I : Type 0} (meaning : HostMeaning J I) (frames : List (List ℕ)) (old new : HostOf J I)
    (why : StoreFault) : Type 0 where
  pub ends : PreservesEnds old new
  pub was_running : old.state ≢ None
  pub stopped : new.state ≡ None
  pub not_kept : (entries : Entries) → JudgesBy meaning old entries
      → (count : ℕ) × (answers : List (List ℕ)) × (added : Entries)
      × AreJudged (basis_of meaning old entries) (take count frames) answers added
      × GroupAppendFailed meaning.journal old.journal new.journal added why

-- why a group is not answered whole, what that leaves, and the answers that there are
abbrev pub GroupRefused : {J I : Type 0} → HostMeaning J I → List (List ℕ) → HostOf J I
    → HostOf J I → List (List ℕ) → HostFault → Type 0
GroupRefused meaning frames old new answers fault.NoMemory =
    AnswersFirst meaning frames old new answers
GroupRefused meaning frames old new answers (fault.Store why) =
    IsGroupNotKept meaning frames old new why × (answers ≡ [])
GroupRefused meaning frames old new answers fault.Stopped =
    (old.state ≡ None) × (new ≡ old) × (answers ≡ [])
GroupRefused meaning frames old new answers _ = ⊥
