-- The first fault of `find`, in the order of its faults.
use Rattle.std.proofs.Common.{◌≡◌, ◌<◌, ◌≤◌, ℕ, List, Option, Some, None, Result, Ok, Err, IfErr, [], inl, refl, sym, subst, arith}
use Rattle.std.specs.Prelude.{IsSome}
use Rattle.duk_commands.specs.KeyArgument.{key_in}
use Rattle.duk_commands.specs.declared.key_argument.KeyArgument.{KeyArgument}
use Rattle.duk_commands.specs.declared.key_argument.KeyArgument.TheVariants.{Base, Initial}
use Rattle.duk_io.specs.Known.{Known}
use Rattle.duk_commands.specs.Find.{FindArguments, HasFoundNothing, IsFindRefused, IsStartOf, IsWindowSize, MeetsFind, MeetsStartOf, find_arguments}
use Rattle.duk_commands.specs.FindFault.{find_rank}
use Rattle.duk_commands.specs.Sought.{IsSought, MeetsClear, MeetsPan, MeetsText, MeetsWhat}
use Rattle.duk_commands.specs.inner.Find.{find_key_fault}
use Rattle.duk_commands.specs.inner.Sought.{IsSoughtRefused}
use Rattle.duk_commands.specs.declared.find_fault.FindFault.{FindFault}
use Rattle.duk_commands.specs.declared.find_fault.FindFault.TheVariants.{BdkRefused, BlockRefused, InitialRefused, KsnRefused, OutOfMemory, PanRefused, TextRefused, WhatRefused, WindowRefused}
use Rattle.duk_commands.specs.declared.sought.Clue.{Clue}
use Rattle.duk_commands.specs.declared.sought.Clue.TheVariants as clue
use Rattle.duk_commands.specs.declared.sought.Sought.{Sought}
use Rattle.duk_commands.specs.declared.sought.Sought.TheVariants as sought
use Rattle.duk_tree.specs.Serial.{Serial, ksn_of_text}

some_there : {A : Type 0} (it : Option A) → IsSome it → (a : A) × (it ≡ Some a)
some_there (Some a) there = (a, refl)
some_there None there = cc

some_here : {A : Type 0} (it : Option A) (a : A) → it ≡ Some a → IsSome it
some_here it a is = rw is refl

not_there : {A : Type 0} (it : Option A) → it ≡ None → IsSome it → ⊥
not_there (Some a) none there = cc
not_there None none there = cc

-- ---- what is read is what is demanded

pub record AreMet (what : List ℕ) (clue : Clue) : Type 0 where
  pub what_is : MeetsWhat what clue
  pub text_is : MeetsText clue
  pub pan_is : MeetsPan clue
  pub clear_is : MeetsClear clue

pub sought_met : (what : List ℕ) (clue : Clue) (sought : Sought) → IsSought what clue sought → AreMet what clue
sought_met what clue.Frame (sought.Frame bytes ksn mac) is =
    record { what_is = (bytes.items, ksn, mac, is.0, is.1); text_is = tt; pan_is = tt; clear_is = tt }
sought_met what (clue.Mac text hex) (sought.Mac message mac) is =
    record { what_is = some_here _ mac is.0; text_is = (message.items, is.1, is.2); pan_is = tt; clear_is = tt }
sought_met what (clue.PinBlock text) (sought.PinBlock pan block) is =
    record { what_is = some_here _ block is.0; text_is = tt; pan_is = is.1; clear_is = tt }
sought_met what (clue.Ciphertext text) (sought.Ciphertext clear block) is =
    record { what_is = some_here _ block is.0; text_is = tt; pan_is = tt; clear_is = some_here _ clear is.1 }
sought_met what clue sought is = absurd is

pub start_is_met : (what : List ℕ) (clue : Clue) (sought : Sought) (from : Option (List ℕ)) (start : Serial) → IsSought what clue sought
    → IsStartOf from sought start → MeetsStartOf from clue
start_is_met what clue sought (Some text) start is starts = some_here (ksn_of_text text) start starts
start_is_met what clue.Frame sought None start is starts = tt
start_is_met what (clue.Mac text hex) (sought.Mac message mac) None start is starts = absurd starts
start_is_met what (clue.PinBlock text) (sought.PinBlock pan block) None start is starts = absurd starts
start_is_met what (clue.Ciphertext text) (sought.Ciphertext clear block) None start is starts = absurd starts
start_is_met what clue sought None start is starts = absurd is

some_start : (what : List ℕ) (clue : Clue) (sought : Sought) (from : Option (List ℕ)) → IsSought what clue sought → MeetsStartOf from clue
    → (start : Serial) × IsStartOf from sought start
some_start what clue sought (Some text) is meets = some_there (ksn_of_text text) meets
some_start what clue.Frame (sought.Frame bytes ksn mac) None is meets = (record { iksn = ksn.iksn; counter = 1 }, refl)
some_start what clue.Frame sought None is meets = absurd is
some_start what clue sought None is meets = absurd meets

-- ---- what is demanded before a limit

find_met : (given : KeyArgument) (what : List ℕ) (clue : Clue) (from window : Option (List ℕ)) → IsSome (key_in given) → (limit : ℕ) → limit ≤ 6
    → (1 < limit → MeetsWhat what clue) → (2 < limit → MeetsText clue) → (3 < limit → MeetsPan clue) → (4 < limit → MeetsClear clue)
    → (5 < limit → MeetsStartOf from clue)
    → (fault : FindFault) → find_rank fault < limit → MeetsFind (find_arguments given what clue from window) fault
find_met (Base text) what clue from window key limit most is_what is_text is_pan is_clear is_start BdkRefused below = key
find_met (Initial text) what clue from window key limit most is_what is_text is_pan is_clear is_start BdkRefused below = tt
find_met (Base text) what clue from window key limit most is_what is_text is_pan is_clear is_start InitialRefused below = tt
find_met (Initial text) what clue from window key limit most is_what is_text is_pan is_clear is_start InitialRefused below = key
find_met given what clue from window key limit most is_what is_text is_pan is_clear is_start WhatRefused below = is_what below
find_met given what clue from window key limit most is_what is_text is_pan is_clear is_start TextRefused below = is_text below
find_met given what clue from window key limit most is_what is_text is_pan is_clear is_start PanRefused below = is_pan below
find_met given what clue from window key limit most is_what is_text is_pan is_clear is_start BlockRefused below = is_clear below
find_met given what clue from window key limit most is_what is_text is_pan is_clear is_start KsnRefused below = is_start below
find_met given what clue from window key limit most is_what is_text is_pan is_clear is_start WindowRefused below = absurd (omega arith)
find_met given what clue from window key limit most is_what is_text is_pan is_clear is_start fault below = tt

-- ---- why each argument is refused

pub key_refused : {T : Type 0} (given : KeyArgument) (what : List ℕ) (clue : Clue) (from window : Option (List ℕ)) (read : Result T FindFault)
    → IfErr read (λ why. (key_in given ≡ None) × (why ≡ find_key_fault given))
    → IfErr read (IsFindRefused (find_arguments given what clue from window))
key_refused given what clue from window (Ok key) cause = tt
key_refused (Base text) what clue from window (Err why) cause =
    subst (IsFindRefused (find_arguments (Base text) what clue from window)) (sym cause.1) (record {
      fails = λ there. absurd (not_there _ cause.0 there);
      earlier_met = λ fault below. absurd (omega arith);
    })
key_refused (Initial text) what clue from window (Err why) cause =
    subst (IsFindRefused (find_arguments (Initial text) what clue from window)) (sym cause.1) (record {
      fails = λ there. absurd (not_there _ cause.0 there);
      earlier_met = λ fault below. absurd (omega arith);
    })

pub sought_refused : {T : Type 0} (given : KeyArgument) (what : List ℕ) (clue : Clue) (from window : Option (List ℕ)) (read : Result T FindFault)
    → IsSome (key_in given) → IfErr read (IsSoughtRefused what clue)
    → IfErr read (IsFindRefused (find_arguments given what clue from window))
sought_refused given what clue from window (Ok sought) key cause = tt
sought_refused given what clue from window (Err WhatRefused) key cause = record {
  fails = cause;
  earlier_met = find_met given what clue from window key 1 (omega arith) (λ h. absurd (omega arith)) (λ h. absurd (omega arith))
      (λ h. absurd (omega arith)) (λ h. absurd (omega arith)) (λ h. absurd (omega arith));
}
sought_refused given what clue from window (Err TextRefused) key cause = record {
  fails = cause.1;
  earlier_met = find_met given what clue from window key 2 (omega arith) (λ h. cause.0) (λ h. absurd (omega arith))
      (λ h. absurd (omega arith)) (λ h. absurd (omega arith)) (λ h. absurd (omega arith));
}
sought_refused given what clue from window (Err PanRefused) key cause = record {
  fails = cause.2;
  earlier_met = find_met given what clue from window key 3 (omega arith) (λ h. cause.0) (λ h. cause.1)
      (λ h. absurd (omega arith)) (λ h. absurd (omega arith)) (λ h. absurd (omega arith));
}
sought_refused given what clue from window (Err BlockRefused) key cause = record {
  fails = cause.3;
  earlier_met = find_met given what clue from window key 4 (omega arith) (λ h. cause.0) (λ h. cause.1) (λ h. cause.2)
      (λ h. absurd (omega arith)) (λ h. absurd (omega arith));
}
sought_refused given what clue from window (Err OutOfMemory) key cause = (key, cause)
sought_refused given what clue from window (Err why) key cause = absurd cause

pub start_refused : {T : Type 0} (given : KeyArgument) (what : List ℕ) (clue : Clue) (from window : Option (List ℕ)) (sought : Sought)
    → (read : Result T FindFault) → IsSome (key_in given) → IsSought what clue sought
    → IfErr read (λ why. (why ≡ KsnRefused) × ((start : Serial) → ¬ IsStartOf from sought start))
    → IfErr read (IsFindRefused (find_arguments given what clue from window))
start_refused given what clue from window sought (Ok start) key is cause = tt
start_refused given what clue from window sought (Err why) key is cause =
    let met = sought_met what clue sought is in
    subst (IsFindRefused (find_arguments given what clue from window)) (sym cause.0) (record {
      fails = λ meets. let start = some_start what clue sought from is meets in cause.1 start.0 start.1;
      earlier_met = find_met given what clue from window key 5 (omega arith) (λ h. met.what_is) (λ h. met.text_is) (λ h. met.pan_is)
          (λ h. met.clear_is) (λ h. absurd (omega arith));
    })

pub window_refused : {T : Type 0} (given : KeyArgument) (what : List ℕ) (clue : Clue) (from window : Option (List ℕ)) (sought : Sought) (start : Serial)
    → (read : Result T FindFault) → IsSome (key_in given) → IsSought what clue sought → IsStartOf from sought start
    → IfErr read (λ why. (why ≡ WindowRefused) × ((most : ℕ) → ¬ IsWindowSize window most))
    → IfErr read (IsFindRefused (find_arguments given what clue from window))
window_refused given what clue from window sought start (Ok most) key is starts cause = tt
window_refused given what clue from window sought start (Err why) key is starts cause =
    let met = sought_met what clue sought is in
    subst (IsFindRefused (find_arguments given what clue from window)) (sym cause.0) (record {
      fails = λ size. cause.1 size.0 size.1;
      earlier_met = find_met given what clue from window key 6 (omega arith) (λ h. met.what_is) (λ h. met.text_is) (λ h. met.pan_is)
          (λ h. met.clear_is) (λ h. start_is_met what clue sought from start is starts);
    })

-- where nothing is searched for, no progress is told
pub unsearched : {T : Type 0} (arguments : FindArguments) (read : Result T FindFault) (now : Known) → IfErr read (IsFindRefused arguments)
    → IfErr read (λ why. HasFoundNothing arguments why now now)
unsearched arguments (Ok found) now cause = tt
unsearched arguments (Err why) now cause = record { told = []; cause = inl (cause, refl); progress = refl }
