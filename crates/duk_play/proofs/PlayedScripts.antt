-- What a script does, from what its parts do.
use Rattle.std.proofs.Common.{◌≡◌, ◌⊎◌, ◌++◌, [], ℕ, Bool, List, Result, Ok, Err, OnOk, OnErr, IfErr, take, inl, inr, refl, sym, ap, subst, ◌∙◌}
use Rattle.duk_config.specs.Settings.{Settings}
use Rattle.duk_config.specs.declared.fault.ScriptFault.{ScriptFault}
use Rattle.duk_config.specs.declared.fault.ScriptFault.TheVariants as fault
use Rattle.duk_io.specs.Known.{Known}
use Rattle.duk_io.specs.Sink.{IsCut, IsUntouched}
use Rattle.duk_books.specs.Run.{IsRun, IsRunUpTo, Run, RunRefused}
use Rattle.duk_books.specs.Books.{BooksOf, Meanings}
use Rattle.duk_books.specs.declared.event.Event.{Event}
use Rattle.duk_books.specs.declared.outcome.Outcome.{Outcome}
use Rattle.duk_books.specs.declared.runs.RunFault.{RunFault}
use Rattle.duk_books.specs.declared.runs.RunFault.TheVariants as run_fault
use Rattle.duk_play.specs.Opening.{AreEndsBroughtUp, StartsCalm}
use Rattle.duk_play.specs.OutcomeText.{lines_of}
use Rattle.duk_play.specs.Play.{ArePlayed, ArePlayedIn, ArePlayedInPart, ArePlayedOn, IsPlayed, PlayRefused, Playing}
use Rattle.duk_play.specs.inner.Play.{EventsRefused, HaveOutcomes, HaveOutcomesInPart}
use Rattle.duk_play.specs.Script.{IsNoScript, IsScript}
use Rattle.duk_play.specs.Session.{IsScriptRefused}

pub on_ok : {A E : Type 0} (P Q : Type 0) → (P → Q) → (result : Result A E) → OnOk result P → OnOk result Q
on_ok P Q follows (Ok x) holds = follows holds
on_ok P Q follows (Err e) holds = holds

-- what holds in any case holds where a write failed
pub as_err : {T E : Type 0} (result : Result T E) (P : Type 0) → P → OnErr result P
as_err (Ok x) P holds = tt
as_err (Err e) P holds = holds

-- what follows where a write failed
pub on_err : {T E : Type 0} (P Q : Type 0) → (P → Q) → (result : Result T E) → OnErr result P → OnErr result Q
on_err P Q follows (Ok x) holds = holds
on_err P Q follows (Err e) holds = follows holds

pub if_err : {A E : Type 0} (P Q : E → Type 0) → ((e : E) → P e → Q e) → (result : Result A E) → IfErr result P → IfErr result Q
if_err P Q follows (Ok x) holds = holds
if_err P Q follows (Err e) holds = follows e holds

-- what a call put at the end of no outcomes is what there is then
gained_none : (before after outcomes : List Outcome) → before ≡ [] → after ≡ before ++ outcomes → outcomes ≡ after
gained_none before after outcomes none gained = sym (gained ∙ ap (λ list. list ++ outcomes) none)

-- a run of events
pub run_done : {C B J I : Type 0} (m : Meanings C B J I) (start last : BooksOf C B J I) (events : List Event) (before after : List Outcome) → before ≡ []
    → IsRun m start events before after last → HaveOutcomes m start last events after
run_done m start last events before after none run =
    subst (λ outcomes. Run m start events outcomes last) (gained_none before after run.outcomes none run.gained) run.run

-- a run that was refused memory did the first events
pub run_up_to : {C B J I : Type 0} (m : Meanings C B J I) (start last : BooksOf C B J I) (events : List Event) (before after : List Outcome) (why : RunFault) → before ≡ []
    → RunRefused m start events before after last why → HaveOutcomesInPart m start last events after
run_up_to m start last events before after (run_fault.NoMemory done) none part =
    (done, subst (λ before. IsRunUpTo m start events before after done last) none part)

-- the writing of outcomes is cut off
pub cut_off : {C B J I : Type 0} (m : Meanings C B J I) (start last : BooksOf C B J I) (events : List Event) (old new : Known) (outcomes : List Outcome) (why : ScriptFault)
    → (HaveOutcomes m start last events outcomes ⊎ HaveOutcomesInPart m start last events outcomes)
    → (why ≡ fault.WriteFailed) × IsCut old new (lines_of outcomes) → EventsRefused m start last events old new why
cut_off m start last events old new outcomes why have cut =
    subst (λ why. EventsRefused m start last events old new why) (sym cut.0) (record { outcomes = outcomes; have = have; cut = cut.1 })

-- what is done where events may have some outcomes is done where they may have those and more
pub played_too : (fewer more : Playing) → ((events : List Event) (outcomes : List Outcome) → fewer events outcomes → more events outcomes)
    → (events : List Event) (old new : Known) → IsPlayed fewer events old new → IsPlayed more events old new
played_too fewer more follows events old new (outcomes, have, written) = (outcomes, follows events outcomes have, written)

-- events that are done where the ends were brought up are played
module _ {C B J I : Type 0} (m : Meanings C B J I) (first start : BooksOf C B J I) (starts : StartsCalm m first) (opened : AreEndsBroughtUp m first start) where
  pub played_from : (last : BooksOf C B J I) (events : List Event) (outcomes : List Outcome) → HaveOutcomes m start last events outcomes → ArePlayedIn m first events outcomes
  played_from last events outcomes run = (last, record { start = start; starts = starts; opened = opened; run = run })

  part_from : (last : BooksOf C B J I) (events : List Event) (outcomes : List Outcome) → HaveOutcomesInPart m start last events outcomes → ArePlayedInPart (ArePlayedIn m first) events outcomes
  part_from last events outcomes (done, part) = record {
    done = done;
    refused = part.refused;
    next = part.next;
    played = played_from part.mid (take done events) outcomes (run_done m start part.mid (take done events) [] outcomes refl part.done_part);
  }

  all_or_part_from : (last : BooksOf C B J I) (events : List Event) (outcomes : List Outcome) → HaveOutcomes m start last events outcomes ⊎ HaveOutcomesInPart m start last events outcomes
      → ArePlayedIn m first events outcomes ⊎ ArePlayedInPart (ArePlayedIn m first) events outcomes
  all_or_part_from last events outcomes (inl all) = inl (played_from last events outcomes all)
  all_or_part_from last events outcomes (inr part) = inr (part_from last events outcomes part)

  pub refused_from : (last : BooksOf C B J I) (events : List Event) (old new : Known) (why : ScriptFault) → EventsRefused m start last events old new why
      → PlayRefused (ArePlayedIn m first) events old new why
  refused_from last events old new fault.ConfigTooLong cause = absurd cause
  refused_from last events old new fault.NotToml cause = absurd cause
  refused_from last events old new (fault.UnknownKey name) cause = absurd cause
  refused_from last events old new (fault.BadKey key) cause = absurd cause
  refused_from last events old new (fault.BadEntry key place) cause = absurd cause
  refused_from last events old new fault.CannotRead cause = absurd cause
  refused_from last events old new fault.TooLong cause = absurd cause
  refused_from last events old new (fault.NotAnEvent line) cause = absurd cause
  refused_from last events old new fault.WriteFailed cause =
      record { outcomes = cause.outcomes; played = all_or_part_from last events cause.outcomes cause.have; cut = cause.cut }
  refused_from last events old new fault.NoMemory cause =
      inr (record { outcomes = cause.outcomes; played = part_from last events cause.outcomes cause.have; written = cause.written })

-- what may come over the stores that a configuration names is what may come under it
pub named_stores : (config : Settings) (disk : Bool) → config.disk ≡ disk
    → (events : List Event) (outcomes : List Outcome) → ArePlayedOn disk config events outcomes → ArePlayed config events outcomes
named_stores config disk named events outcomes have = subst (λ disk. ArePlayedOn disk config events outcomes) (sym named) have

-- a line is no event
pub not_a_script : (config : Settings) (text : List ℕ) (old new : Known) (why : ScriptFault)
    → (why ≡ fault.NoMemory) ⊎ ((line : ℕ) × (why ≡ fault.NotAnEvent line) × IsNoScript text line)
    → IsUntouched old new → IsScriptRefused config text old new why
not_a_script config text old new why (inl same) quiet = subst (λ why. IsScriptRefused config text old new why) (sym same) (inl quiet)
not_a_script config text old new why (inr bad) quiet = subst (λ why. IsScriptRefused config text old new why) (sym bad.1)
    (record { cause = bad.2; quiet = quiet })

-- what stops the playing stops the script
pub stopped : (config : Settings) (text : List ℕ) (old new : Known) (events : List Event) (why : ScriptFault) → IsScript text events
    → PlayRefused (ArePlayed config) events old new why → IsScriptRefused config text old new why
stopped config text old new events fault.ConfigTooLong script cause = absurd cause
stopped config text old new events fault.NotToml script cause = absurd cause
stopped config text old new events (fault.UnknownKey name) script cause = absurd cause
stopped config text old new events (fault.BadKey key) script cause = absurd cause
stopped config text old new events (fault.BadEntry key place) script cause = absurd cause
stopped config text old new events fault.CannotRead script cause = absurd cause
stopped config text old new events fault.TooLong script cause = absurd cause
stopped config text old new events (fault.NotAnEvent line) script cause = absurd cause
stopped config text old new events fault.WriteFailed script cause = record { events = events; script = script; cause = cause }
stopped config text old new events fault.NoMemory script cause = inr (record { events = events; script = script; cause = cause })
