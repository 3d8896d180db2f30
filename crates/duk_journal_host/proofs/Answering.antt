-- What a host does with a group, from what its parts do.
use Rattle.std.proofs.Common.{◌≡◌, ◌≢◌, ◌-◌, ◌++◌, ℕ, List, [], Option, Some, None, IsSome, Result, Ok, Err, OnOk, OnErr, if◌then◌else◌, get_or, length, take, refl, sym, ap, subst, ◌∙◌, ◌∷◌, arith}
use Rattle.duk_host.specs.Judgement.{Decision}
use Rattle.duk_hsm.specs.Keys.{HsmKeys}
use Rattle.duk_journal.specs.Groups.{Entries}
use Rattle.duk_journal.specs.Journal.{JournalMeaning}
use Rattle.duk_store.specs.Listed.{length_of, room_of}
use Rattle.duk_store.specs.declared.fault.StoreFault.{StoreFault}
use Rattle.duk_journal_host.specs.Group.{AnswersFirst, AnswersFrames, IsGroupNotKept, WouldAccept}
use Rattle.duk_journal_host.specs.Host.{HostMeaning, HostOf, IndexOf, IsIndexOf, JudgesBy}
use Rattle.duk_journal_host.specs.inner.Host.{AgreesWithJournal, HoldsIndex, JournalAgrees}
use Rattle.duk_journal_host.specs.Judgement.{MayBeTaken, line_basis}
use Rattle.duk_journal_host.specs.inner.Judged.{JudgesFirst, JudgesFrames, MayBeAccepted}
use Rattle.duk_journal_host.specs.inner.Keep.{AreKept, KeepFailed}
use Rattle.duk_journal_host.proofs.InTurn.{as_many}

-- the index of a running host is that of entries which its journal keeps
pub held : {J : Type 0} (meaning : JournalMeaning J) (keys : HsmKeys) (journal : J) (state : Option IndexOf) (index : IndexOf) → AgreesWithJournal meaning keys journal state → state ≡ Some index → HoldsIndex meaning journal index
held meaning keys journal state index agrees is = subst (λ state. JournalAgrees meaning journal state) is agrees.holds

-- the room that a running journal reports
pub room_left :
    {J : Type 0} (meaning : JournalMeaning J) (journal : J) (index : IndexOf) (kept room : ℕ) → HoldsIndex meaning journal index → kept ≡ length_of meaning journal → room ≡ room_of meaning journal
    → room ≡ meaning.capacity journal - kept
room_left meaning journal index kept room holds kept_is room_is =
    let counted : kept ≡ meaning.count journal = kept_is ∙ ap (λ running. if running then meaning.count journal else 0) holds.kept.runs in
    let left : room ≡ meaning.capacity journal - meaning.count journal = room_is ∙ ap (λ running. if running then meaning.capacity journal - meaning.count journal else 0) holds.kept.runs in
    left ∙ ap (λ count. meaning.capacity journal - count) (sym counted)

pub room_is : {J : Type 0} (meaning : JournalMeaning J) (journal : J) (index : IndexOf) (room : ℕ) → HoldsIndex meaning journal index → room ≡ room_of meaning journal → room ≡ meaning.capacity journal - meaning.count journal
room_is meaning journal index room holds is = is ∙ ap (λ running. if running then meaning.capacity journal - meaning.count journal else 0) holds.kept.runs

-- the index then is of what the journal keeps then
pub holds_after : {J : Type 0} (meaning : JournalMeaning J) (keys : HsmKeys) (decides : Decision) (capacity room : ℕ) (frames : List (List ℕ)) (old new : J) (before after : IndexOf) (answers : List (List ℕ)) (added : Entries)
    → IsSome keys.zone → HoldsIndex meaning old before → JudgesFrames keys decides capacity room frames before after answers added → AreKept meaning old new added → AgreesWithJournal meaning keys new (Some after)
holds_after meaning keys decides capacity room frames old new before after answers added zone holds judged kept = record {
  zone = zone;
  holds = record {
    entries = holds.entries ++ added;
    index_is = (judged holds.entries holds.index_is).1;
    kept = kept.kept holds.entries holds.kept;
  };
}

one_index : (state : Option IndexOf) (one other : IndexOf) → state ≡ Some one → state ≡ Some other → one ≡ other
one_index state one other is same = cc

-- a running host is not stopped
pub not_stopped : (state : Option IndexOf) (index : IndexOf) → state ≡ Some index → state ≢ None
not_stopped state index is none = absurd (some_is_none index (sym is ∙ none))
  where
    some_is_none : (index : IndexOf) → Some index ≡ None → ⊥
    some_is_none index is = absurd (cc)

pub take_all : {A : Type 0} (things : List A) (count : ℕ) → count ≡ length things → take count things ≡ things
take_all things count is = ap (λ count. take count things) is ∙ whole things
  where
    whole : {A : Type 0} (things : List A) → take (length things) things ≡ things
    whole [] = refl
    whole (first ∷ things) = ap (λ things. first ∷ things) (whole things)

abbrev pub host_with : {J I : Type 0} → HsmKeys → I → J → Option IndexOf → HostOf J I
host_with keys issuer journal state = record { keys = keys; issuer = issuer; journal = journal; state = state }

-- what a group is judged by, and what that comes to
module _ {J I : Type 0} (meaning : HostMeaning J I) (keys : HsmKeys) (issuer : I) (old new : J) (state : Option IndexOf) (before after : IndexOf) (room : ℕ) (frames answers : List (List ℕ)) (added : Entries)
    (runs : state ≡ Some before) (left : room ≡ meaning.journal.capacity old - meaning.journal.count old) where
  abbrev pub Judges : List (List ℕ) → IndexOf → Type 0
  Judges frames after = JudgesFrames keys (meaning.decides issuer) (meaning.journal.capacity old) room frames before after answers added

  abbrev pub First : Type 0
  First = JudgesFirst keys (meaning.decides issuer) (meaning.journal.capacity old) room frames before answers added

  judged_by : (entries : Entries) → JudgesBy meaning (host_with keys issuer old state) entries → IsIndexOf entries before
  judged_by entries judges = subst (λ index. IsIndexOf entries index) (one_index state judges.index before judges.runs runs) judges.index_is

  answered : (some : List (List ℕ)) (after : IndexOf) → Judges some after → AreKept meaning.journal old new added → meaning.journal.capacity new ≡ meaning.journal.capacity old
      → AnswersFrames meaning some (host_with keys issuer old state) (host_with keys issuer new (Some after)) answers
  answered some after judged kept capacity =
      let by_room = subst (λ room. JudgesFrames keys (meaning.decides issuer) (meaning.journal.capacity old) room some before after answers added) left judged in
      record {
        ends = record { keys = refl; issuer = refl };
        nature = kept.nature;
        capacity = capacity;
        answered = λ entries judges.
            let both = by_room entries (judged_by entries judges) in
            (added, both.0, record { index = after; runs = refl; index_is = both.1; kept = kept.kept entries judges.kept });
        stopped = λ none. absurd (not_stopped state before runs none);
      }

  pub answers_all : Judges frames after → AreKept meaning.journal old new added → meaning.journal.capacity new ≡ meaning.journal.capacity old
      → AnswersFrames meaning frames (host_with keys issuer old state) (host_with keys issuer new (Some after)) answers
  answers_all judged kept capacity = answered frames after judged kept capacity

  would_accept : (before : IndexOf) (bytes : List ℕ) → AreKept meaning.journal old new added → meaning.journal.capacity new ≡ meaning.journal.capacity old
      → MayBeAccepted keys before (meaning.journal.capacity old) (room - length added) bytes → WouldAccept meaning (host_with keys issuer new (Some before)) bytes
  would_accept before bytes kept capacity may entries judges =
      let is_index = subst (λ index. IsIndexOf entries index) (one_index (Some before) judges.index before judges.runs refl) judges.index_is in
      let room_then : room - length added ≡ meaning.journal.capacity new - meaning.journal.count new = omega (arith, left, capacity, kept.counted) in
      subst (λ (capacity : ℕ). MayBeTaken (line_basis keys entries capacity (meaning.journal.capacity new - meaning.journal.count new) (meaning.decides issuer)) bytes) (sym capacity)
      (subst (λ (room : ℕ). MayBeTaken (line_basis keys entries (meaning.journal.capacity old) room (meaning.decides issuer)) bytes) room_then
      (may entries (meaning.decides issuer) is_index))

  pub answers_first : First → AreKept meaning.journal old new added → meaning.journal.capacity new ≡ meaning.journal.capacity old
      → AnswersFirst meaning frames (host_with keys issuer old state) (host_with keys issuer new None) answers
  answers_first first kept capacity = record {
    was_running = not_stopped state before runs;
    fewer = first.fewer;
    before = host_with keys issuer new (Some first.before);
    answers_are = answered (take (length answers) frames) first.before first.judged kept capacity;
    would_accept = would_accept first.before (get_or frames (length answers) []) kept capacity first.may_be_accepted;
    stopped = refl;
  }

  -- frames are judged, whatever the capacity that leaves this room
  abbrev pub ByCapacity : ℕ → Type 0
  ByCapacity kept = (capacity : ℕ) → room ≡ capacity - kept → JudgesFrames keys (meaning.decides issuer) capacity room frames before after answers added

  abbrev pub FirstByCapacity : ℕ → Type 0
  FirstByCapacity kept = (capacity : ℕ) → room ≡ capacity - kept → JudgesFirst keys (meaning.decides issuer) capacity room frames before answers added

  -- the first frames are judged, perhaps all
  some_judged :
      {T E : Type 0} (result : Result T E) (kept : ℕ) (entries : Entries) → room ≡ meaning.journal.capacity old - kept → IsIndexOf entries before → OnOk result (ByCapacity kept) → OnErr result (FirstByCapacity kept)
      → (last : IndexOf) × Judges (take (length answers) frames) last
  some_judged (Ok done) kept entries left is all first =
      let judged = all (meaning.journal.capacity old) left in
      let many = as_many (line_basis keys entries (meaning.journal.capacity old) room (meaning.decides issuer)) frames answers added (judged entries is).0 in
      (after, subst (λ frames. Judges frames after) (sym (take_all frames (length answers) many)) judged)
  some_judged (Err why) kept entries left is all first =
      let some = first (meaning.journal.capacity old) left in (some.before, some.judged)

  pub not_kept :
      {T E : Type 0} (result : Result T E) (kept : ℕ) (why : StoreFault) → room ≡ meaning.journal.capacity old - kept → OnOk result (ByCapacity kept) → OnErr result (FirstByCapacity kept)
      → KeepFailed meaning.journal old new added why → IsGroupNotKept meaning frames (host_with keys issuer old state) (host_with keys issuer new None) why
  not_kept result kept why by_kept all first failed = record {
    ends = record { keys = refl; issuer = refl };
    was_running = not_stopped state before runs;
    stopped = refl;
    not_kept = λ entries judges.
        let is = judged_by entries judges in
        let some = some_judged result kept entries by_kept is all first in
        let by_room = subst (λ room. JudgesFrames keys (meaning.decides issuer) (meaning.journal.capacity old) room (take (length answers) frames) before some.0 answers added) left some.1 in
        (length answers, answers, added, (by_room entries is).0, failed.failed);
  }
