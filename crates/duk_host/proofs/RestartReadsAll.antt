-- A host's restart, from what its log's restart and the reading do.
use Rattle.std.proofs.Common.{◌≡◌, ℕ, [], Some, None, inl, inr, refl, sym, ◌∙◌, subst}
use Rattle.duk_store.specs.Log.{LogMeaning, Numbers, LogRestarted, ReadStopped}
use Rattle.duk_store.specs.StoreState.{StoreState, Stays}
use Rattle.duk_store.specs.Restart.{Restarted, RestartFailed}
use Rattle.duk_store.specs.declared.fault.StoreFault.TheVariants.{Device}
use Rattle.duk_host.specs.Host.{HostOf}
use Rattle.duk_host.specs.inner.Host.{LogHolds}
use Rattle.duk_host.specs.inner.Reading.{AreRead, ReadAllRefused}
use Rattle.duk_host.specs.Restart.{IsHostRestarted, PreservesEnds, HostRestartNoMemory, HostRestartRefused}
use Rattle.duk_host.specs.Used.{Lists}
use Rattle.duk_host.specs.declared.fault.HostFault.{HostFault}
use Rattle.duk_host.specs.declared.fault.HostFault.TheVariants as fault
use Rattle.duk_host.specs.declared.running.Running.{Running}
use Rattle.duk_host.proofs.NumbersAreRead.{all_are_seen, nature_on, not_all_usable}

-- what a restart found stays found while the log is read
restarted_on : (old mid new : StoreState Numbers) (numbers : Numbers) → Restarted old mid numbers → Stays mid new → Restarted old new numbers
restarted_on old mid new numbers restarted stays = record {
  settles = record {
    nature = nature_on old mid new restarted.settles.nature stays.nature;
    no_failure = stays.no_failure ∙ restarted.settles.no_failure;
    runs = stays.running ∙ restarted.settles.runs;
    finds = λ honest other.
        let as_before = stays.found (restarted.settles.nature.honest.0 honest) other in
        let only = restarted.settles.finds honest other in
        (λ found. only.0 (as_before.0 found), λ same. as_before.1 (only.1 same));
  };
  was_found = restarted.was_found;
}

-- a reading that failed after a restart is a restart that failed
failed_on :
    {L : Type 0} (meaning : LogMeaning L) (old mid new : L) (numbers : Numbers)
    → Restarted (meaning.state_of old) (meaning.state_of mid) numbers → ReadStopped meaning mid new → RestartFailed (meaning.state_of old) (meaning.state_of new) Device
failed_on meaning old mid new numbers restarted stopped =
    let nature = restarted.settles.nature in
    record {
      stops = record {
        nature = nature_on (meaning.state_of old) (meaning.state_of mid) (meaning.state_of new) nature stopped.nature;
        quiet = λ calm. absurd (stopped.not_calm (nature.calm calm));
        stopped = stopped.stopped;
        within = λ honest other found.
            let same = (restarted.settles.finds honest other).0 ((stopped.found (nature.honest.0 honest) other).0 found) in
            subst (meaning.state_of old).found (sym same) (restarted.was_found honest);
        some = λ honest sound. (numbers, (stopped.found (nature.honest.0 honest) numbers).1 ((restarted.settles.finds honest numbers).1 refl));
      };
      fault_is = λ same. stopped.failure (same ∙ sym restarted.settles.no_failure);
    }

-- the numbers read are those that the restart found
lists_found :
    {L : Type 0} (meaning : LogMeaning L) (old mid new : L) (kept : ℕ) (used : Numbers) (restarted : LogRestarted meaning old mid kept)
    → AreRead meaning mid new kept used → (meaning.state_of old).honest → Lists restarted.numbers used
lists_found meaning old mid new kept used restarted read honest =
    let is_found = (restarted.restarted.settles.finds honest restarted.numbers).1 refl in
    let first = read.read.first (restarted.restarted.settles.nature.honest.0 honest) restarted.numbers is_found in
    let same = all_are_seen restarted.numbers read.seen first (restarted.counted honest ∙ sym read.counted) in
    subst (λ numbers. Lists numbers used) (sym same) read.lists

-- the log of the host that is brought up holds its used numbers
pub holds_read :
    {L : Type 0} (meaning : LogMeaning L) (old mid new : L) (kept : ℕ) (used : Numbers)
    → LogRestarted meaning old mid kept → AreRead meaning mid new kept used → LogHolds (meaning.state_of new) used
holds_read meaning old mid new kept used restarted read =
    let on = restarted_on (meaning.state_of old) (meaning.state_of mid) (meaning.state_of new) restarted.numbers restarted.restarted read.read.stays in
    record {
      runs = on.settles.runs;
      lists = λ honest.
          let was_honest = on.settles.nature.honest.1 honest in
          (restarted.numbers, on.settles.finds was_honest, lists_found meaning old mid new kept used restarted read was_honest);
    }

-- the host is brought up
pub is_restarted :
    {L I : Type 0} (meaning : LogMeaning L) (old new : HostOf L I) (mid : L) (kept : ℕ) (running : Running)
    → LogRestarted meaning old.log mid kept → AreRead meaning mid new.log kept running.used → PreservesEnds old new → new.state ≡ Some running → running.recent ≡ [] → IsHostRestarted meaning old new kept
is_restarted meaning old new mid kept running restarted read ends runs forgets = record {
  numbers = restarted.numbers;
  running = running;
  ends = ends;
  log = restarted_on (meaning.state_of old.log) (meaning.state_of mid) (meaning.state_of new.log) restarted.numbers restarted.restarted read.read.stays;
  counted = restarted.counted;
  runs = runs;
  lists = lists_found meaning old.log mid new.log kept running.used restarted read;
  forgets = forgets;
}

-- the numbers are read, but there is no memory for the exchanges
pub restart_without_memory :
    {L I : Type 0} (meaning : LogMeaning L) (old new : HostOf L I) (mid : L) (kept : ℕ) (used : Numbers)
    → LogRestarted meaning old.log mid kept → AreRead meaning mid new.log kept used → PreservesEnds old new → new.state ≡ None → HostRestartNoMemory meaning old new
restart_without_memory meaning old new mid kept used restarted read ends stopped = record {
  numbers = restarted.numbers;
  ends = ends;
  stopped = stopped;
  log = restarted_on (meaning.state_of old.log) (meaning.state_of mid) (meaning.state_of new.log) restarted.numbers restarted.restarted read.read.stays;
}

-- the numbers are not read, and the host is stopped
pub restart_refused :
    {L I : Type 0} (meaning : LogMeaning L) (old new : HostOf L I) (mid : L) (kept : ℕ) (why : HostFault)
    → LogRestarted meaning old.log mid kept → PreservesEnds old new → new.state ≡ None → ReadAllRefused meaning mid new.log kept why → HostRestartRefused meaning old new why
restart_refused meaning old new mid kept fault.NoMemory restarted ends stopped stays = record {
  numbers = restarted.numbers;
  ends = ends;
  stopped = stopped;
  log = restarted_on (meaning.state_of old.log) (meaning.state_of mid) (meaning.state_of new.log) restarted.numbers restarted.restarted stays;
}
restart_refused meaning old new mid kept (fault.Store why) restarted ends stopped refused = record {
  ends = ends;
  stopped = stopped;
  cause =
      elim refused [
        | inl failed ↦ inl (subst (λ why. RestartFailed (meaning.state_of old.log) (meaning.state_of new.log) why) (sym failed.0) (failed_on meaning old.log mid new.log restarted.numbers restarted.restarted failed.1))
        | inr damaged ↦
            let bad = damaged.1 in
            inr (
              damaged.0,
              record {
                numbers = restarted.numbers;
                log = restarted_on (meaning.state_of old.log) (meaning.state_of mid) (meaning.state_of new.log) restarted.numbers restarted.restarted bad.read.stays;
                not_usable = λ honest.
                    let is_found = (restarted.restarted.settles.finds honest restarted.numbers).1 refl in
                    let first = bad.read.first (restarted.restarted.settles.nature.honest.0 honest) restarted.numbers is_found in
                    not_all_usable restarted.numbers bad.seen first bad.not_usable;
              },
            )
      ];
}
restart_refused meaning old new mid kept fault.Stopped restarted ends stopped refused = absurd refused
restart_refused meaning old new mid kept fault.Read restarted ends stopped refused = absurd refused
restart_refused meaning old new mid kept fault.Write restarted ends stopped refused = absurd refused
restart_refused meaning old new mid kept fault.Truncated restarted ends stopped refused = absurd refused
restart_refused meaning old new mid kept fault.TooLong restarted ends stopped refused = absurd refused
