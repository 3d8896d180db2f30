-- Reading the used numbers from a log, one after the other.
use Rattle.std.proofs.Common.{◌≡◌, ◌≢◌, ℕ, zero, suc, ◌+◌, ◌<◌, [], ◌∷◌, ◌++◌, Contains, AllPairs, Some, length, take, drop, get_or, inl, inr, refl, sym, ap, ◌∙◌, subst, arith, length-append}
use Rattle.std.specs.List.{slice_get}
use Rattle.std.proofs.lemmas.List.Elements.{All-nil}
use Rattle.duk_store.specs.Log.{LogMeaning, Numbers, IsReadAt, ReadStopped}
use Rattle.duk_store.specs.StoreState.{StoreState, FindsAsBefore, PreservesNature, Stays}
use Rattle.duk_tree.specs.Path.{IsUsable}
use Rattle.duk_tree.specs.Serial.{Serial}
use Rattle.duk_host.specs.inner.Reading.{AreBad, IsBadNumber, IsBadPlace, IsReadOne, AreFirstNumbers, ReadOneRefused, ReadAllRefused}
use Rattle.duk_host.specs.Used.{AreUsable, Lists}
use Rattle.duk_host.specs.declared.fault.HostFault.{HostFault}
use Rattle.duk_host.specs.declared.fault.HostFault.TheVariants as fault
use Rattle.duk_host.proofs.OneNumberMore.{lists_more}

-- so many numbers are read, and they are the used ones
pub record IsReading {L : Type 0} (meaning : LogMeaning L) (start now : L) (place : ℕ) (used : Numbers) : Type 0 where
  pub seen : Numbers
  pub read : AreFirstNumbers meaning start now seen
  pub counted : length seen ≡ place
  pub lists : Lists seen used

nature_same : (log : StoreState Numbers) → PreservesNature log log
nature_same log = record { honest = (λ h. h, λ h. h); sound = λ honest sound. sound; calm = λ calm. calm }

pub nature_on : (a b c : StoreState Numbers) → PreservesNature a b → PreservesNature b c → PreservesNature a c
nature_on a b c first second = record {
  honest = (λ h. second.honest.0 (first.honest.0 h), λ h. first.honest.1 (second.honest.1 h));
  sound = λ honest sound. second.sound (first.honest.0 honest) (first.sound honest sound);
  calm = λ calm. second.calm (first.calm calm);
}

stays_same : (log : StoreState Numbers) → Stays log log
stays_same log = record {
  nature = nature_same log;
  no_failure = refl;
  running = refl;
  found = λ honest numbers. (λ found. found, λ found. found);
}

-- what may be found stays over two steps
found_on : (a b c : StoreState Numbers) → PreservesNature a b → FindsAsBefore a b → FindsAsBefore b c → FindsAsBefore a c
found_on a b c nature first second honest numbers =
    let earlier = first honest numbers in
    let later = second (nature.honest.0 honest) numbers in
    (λ found. earlier.0 (later.0 found), λ found. later.1 (earlier.1 found))

pub stays_on : (a b c : StoreState Numbers) → Stays a b → Stays b c → Stays a c
stays_on a b c first second = record {
  nature = nature_on a b c first.nature second.nature;
  no_failure = second.no_failure ∙ first.no_failure;
  running = second.running ∙ first.running;
  found = found_on a b c first.nature first.found second.found;
}

stopped_on : {L : Type 0} (meaning : LogMeaning L) (a b c : L) → Stays (meaning.state_of a) (meaning.state_of b) → ReadStopped meaning b c → ReadStopped meaning a c
stopped_on meaning a b c first second = record {
  was_running = sym first.running ∙ second.was_running;
  nature = nature_on (meaning.state_of a) (meaning.state_of b) (meaning.state_of c) first.nature second.nature;
  not_calm = λ calm. second.not_calm (first.nature.calm calm);
  stopped = second.stopped;
  found = found_on (meaning.state_of a) (meaning.state_of b) (meaning.state_of c) first.nature first.found second.found;
  failure = λ same. second.failure (same ∙ sym first.no_failure);
}

take_next : (numbers : Numbers) (place : ℕ) (number : Serial) → slice_get numbers place ≡ Some number → take (place + 1) numbers ≡ take place numbers ++ number ∷ []
take_next [] zero number is = grind (arith, is)
take_next [] (suc place) number is = grind (arith, is)
take_next (first ∷ numbers) zero number is = grind (arith, is)
take_next (first ∷ numbers) (suc place) number is = grind (arith, is, take_next numbers place number)

-- one number more is read
read_up : {L : Type 0} (meaning : LogMeaning L) (start mid now : L) (seen : Numbers) (number : Serial) → AreFirstNumbers meaning start mid seen → IsReadAt meaning mid now (length seen) number → AreFirstNumbers meaning start now (seen ++ number ∷ [])
read_up meaning start mid now seen number up read = record {
  stays = stays_on (meaning.state_of start) (meaning.state_of mid) (meaning.state_of now) up.stays read.stays;
  first = λ honest numbers found.
      let at_place = read.number_is (up.stays.nature.honest.0 honest) numbers ((up.stays.found honest numbers).1 found) in
      let longer : length (seen ++ number ∷ []) ≡ length seen + 1 = length-append seen (number ∷ []) in
      ap (λ count. take count numbers) longer ∙ take_next numbers (length seen) number at_place ∙ ap (λ list. list ++ number ∷ []) (up.first honest numbers found);
}

-- before the first number
pub start_reading : {L : Type 0} (meaning : LogMeaning L) (start : L) → IsReading meaning start start 0 []
start_reading meaning start = record {
  seen = [];
  read = record { stays = stays_same (meaning.state_of start); first = λ honest numbers found. refl };
  counted = refl;
  lists = record {
    usable = record { usable = All-nil (λ ksn. IsUsable ksn.counter); once = λ i j d before within. absurd (omega (arith, within)) };
    members = λ ksn. (λ contains. contains, λ is_used. is_used);
  };
}

-- a number is read, and taken in
pub next_reading : {L : Type 0} (meaning : LogMeaning L) (start mid now : L) (place : ℕ) (used more : Numbers) → IsReading meaning start mid place used → IsReadOne meaning mid now place used more → IsReading meaning start now (place + 1) more
next_reading meaning start mid now place used more reading one = record {
  seen = reading.seen ++ one.number ∷ [];
  read = read_up meaning start mid now reading.seen one.number reading.read (subst (λ count. IsReadAt meaning mid now count one.number) (sym reading.counted) one.read);
  counted = length-append reading.seen (one.number ∷ []) ∙ ap (λ count. count + 1) reading.counted;
  lists = lists_more reading.seen used one.number more reading.lists one.taken;
}

at_left : (first rest : Numbers) (k : ℕ) (d : Serial) → k < length first → get_or (first ++ rest) k d ≡ get_or first k d
at_left [] rest k d within = absurd (omega (arith, within))
at_left (number ∷ first) rest zero d within = refl
at_left (number ∷ first) rest (suc k) d within = at_left first rest k d (omega (arith, within))

at_end : (first : Numbers) (last : Serial) → get_or (first ++ last ∷ []) (length first) last ≡ last
at_end [] last = refl
at_end (number ∷ first) last = at_end first last

-- numbers that occur once do not occur again after themselves
occurs_twice : (seen : Numbers) (number : Serial) → Contains seen number → AllPairs (λ earlier later. earlier ≢ later) (seen ++ number ∷ []) → ⊥
occurs_twice seen number (k, within, is) once =
    once k (length seen) number within (omega (arith, length-append seen (number ∷ [])))
    (at_left seen (number ∷ []) k number within ∙ is ∙ sym (at_end seen number))

not_usable_with : (seen : Numbers) (used : Numbers) (number : Serial) → Lists seen used → IsBadNumber used number → ¬ AreUsable (seen ++ number ∷ [])
not_usable_with seen used number lists bad are = elim bad [
  | inl unusable ↦ unusable (subst (λ ksn. IsUsable ksn.counter) (at_end seen number) (are.usable (length seen) number (omega (arith, length-append seen (number ∷ [])))))
  | inr is_used ↦ occurs_twice seen number ((lists.members number).1 is_used) are.once
]

take_all : (numbers : Numbers) → take (length numbers) numbers ≡ numbers
take_all [] = refl
take_all (number ∷ numbers) = ap (λ rest. number ∷ rest) (take_all numbers)

take_and_drop : (count : ℕ) (numbers : Numbers) → take count numbers ++ drop count numbers ≡ numbers
take_and_drop zero numbers = refl
take_and_drop (suc count) [] = refl
take_and_drop (suc count) (number ∷ numbers) = ap (λ rest. number ∷ rest) (take_and_drop count numbers)

first_usable : (first rest : Numbers) → AreUsable (first ++ rest) → AreUsable first
first_usable first rest are = record {
  usable = λ k d within. subst (λ ksn. IsUsable ksn.counter) (at_left first rest k d within) (are.usable k d (omega (arith, length-append first rest, within)));
  once = λ i j d before within same.
      are.once i j d before (omega (arith, length-append first rest, within))
      (at_left first rest i d (omega (arith, before, within)) ∙ same ∙ sym (at_left first rest j d within));
}

-- where the first numbers may not be used, nor may all
pub not_all_usable : (numbers seen : Numbers) → take (length seen) numbers ≡ seen → ¬ AreUsable seen → ¬ AreUsable numbers
not_all_usable numbers seen first bad are =
    bad (first_usable seen (drop (length seen) numbers)
    (subst AreUsable (sym (take_and_drop (length seen) numbers) ∙ ap (λ list. list ++ drop (length seen) numbers) first) are))

-- where as many are read as there are, they are all
pub all_are_seen : (numbers seen : Numbers) → take (length seen) numbers ≡ seen → length numbers ≡ length seen → numbers ≡ seen
all_are_seen numbers seen first counted = sym (take_all numbers) ∙ ap (λ count. take count numbers) counted ∙ first

-- a number is read that is not to be used
bad_reading : {L : Type 0} (meaning : LogMeaning L) (start mid now : L) (place count : ℕ) (used : Numbers) → place < count → IsReading meaning start mid place used → IsBadPlace meaning mid now place used → AreBad meaning start now count
bad_reading meaning start mid now place count used within reading bad = record {
  seen = reading.seen ++ bad.number ∷ [];
  read = read_up meaning start mid now reading.seen bad.number reading.read (subst (λ place. IsReadAt meaning mid now place bad.number) (sym reading.counted) bad.read);
  counted = omega (arith, length-append reading.seen (bad.number ∷ []), reading.counted, within);
  not_usable = not_usable_with reading.seen used bad.number reading.lists bad.bad;
}

-- a number is not read, or not taken in
pub refused_reading : {L : Type 0} (meaning : LogMeaning L) (start mid now : L) (place count : ℕ) (used : Numbers) (why : HostFault) → place < count → IsReading meaning start mid place used → ReadOneRefused meaning mid now place used why → ReadAllRefused meaning start now count why
refused_reading meaning start mid now place count used fault.NoMemory within reading stays = stays_on (meaning.state_of start) (meaning.state_of mid) (meaning.state_of now) reading.read.stays stays
refused_reading meaning start mid now place count used (fault.Store why) within reading refused = elim refused [
  | inl failed ↦ inl (failed.0, stopped_on meaning start mid now reading.read.stays failed.1)
  | inr bad ↦ inr (bad.0, bad_reading meaning start mid now place count used within reading bad.1)
]
refused_reading meaning start mid now place count used fault.Stopped within reading refused = absurd refused
refused_reading meaning start mid now place count used fault.Read within reading refused = absurd refused
refused_reading meaning start mid now place count used fault.Write within reading refused = absurd refused
refused_reading meaning start mid now place count used fault.Truncated within reading refused = absurd refused
refused_reading meaning start mid now place count used fault.TooLong within reading refused = absurd refused
