-- How the index of a host is made of the entries of its journal: this project's own.
use Rattle.std.specs.Prelude.{◌≡◌, ◌++◌, ◌∷◌, []}
use Rattle.duk_host.specs.declared.fault.HostFault.{HostFault}
use Rattle.duk_host.specs.declared.fault.HostFault.TheVariants as fault
use Rattle.duk_journal.specs.CheckSum.{with_entry}
use Rattle.duk_journal.specs.Groups.{Entries}
use Rattle.duk_journal.specs.Standing.{UseNewNumbers}
use Rattle.duk_journal.specs.declared.entry.Entry.{Entry}
use Rattle.duk_store.specs.declared.fault.StoreFault.{StoreFault}
use Rattle.duk_store.specs.declared.fault.StoreFault.TheVariants.{Damaged, NoMemory}
use Rattle.duk_journal_host.specs.Host.{IndexOf, IsIndexOf}
use Rattle.duk_journal_host.specs.declared.check.Checking.{Checking}

-- an entry is taken into the index: of whatever entries it was, it is of these and this one
abbrev pub TakesEntry : IndexOf → Entry → IndexOf → Type 0
TakesEntry old entry new =
    (seen : Entries) → IsIndexOf seen old → IsIndexOf (seen ++ entry ∷ []) new

-- why it is not: of memory nothing is said; else it could not be appended behind them
abbrev pub IsEntryRefused : IndexOf → Entry → StoreFault → Type 0
IsEntryRefused old entry NoMemory = Unit {0}
IsEntryRefused old entry Damaged =
    (seen : Entries) → IsIndexOf seen old → ¬ UseNewNumbers (seen ++ entry ∷ [])
IsEntryRefused old entry _ = ⊥

-- it is taken into the check sum, too
pub record TakesChecked (old : Checking) (entry : Entry) (new : Checking) : Type 0 where
  pub gathered : TakesEntry old.gathered entry new.gathered
  pub sum : new.sum ≡ with_entry old.sum entry

-- the fault of a journal, as a host tells it
abbrev pub told_as : StoreFault → HostFault
told_as NoMemory = fault.NoMemory
told_as why = fault.Store why
