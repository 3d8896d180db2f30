-- Which faults tills and a host report whose stores are sound and calm: this project's own.
use Rattle.std.specs.Prelude.{◌≡◌, ◌⊎◌, ◌++◌, ◌∷◌, List, All, Any}
use Rattle.duk_host.specs.declared.fault.HostFault.{HostFault}
use Rattle.duk_host.specs.declared.fault.HostFault.TheVariants as host_fault
use Rattle.duk_store.specs.declared.fault.StoreFault.{StoreFault}
use Rattle.duk_store.specs.declared.fault.StoreFault.TheVariants.{Damaged, Device}
use Rattle.duk_stations.specs.Calm.{IsCellFault}
use Rattle.duk_till.specs.Till.{TillOf}
use Rattle.duk_till.specs.declared.fault.TillFault.{TillFault}
use Rattle.duk_till.specs.declared.fault.TillFault.TheVariants as till_fault
use Rattle.duk_books.specs.Books.{BooksOf, Meanings}
use Rattle.duk_stations.specs.Places.{HasOne, IsAt}
use Rattle.duk_books.specs.declared.event.End.{End}
use Rattle.duk_books.specs.declared.event.End.TheVariants as end
use Rattle.duk_books.specs.declared.event.Event.{Event}
use Rattle.duk_books.specs.declared.event.Event.TheVariants as event
use Rattle.duk_books.specs.declared.outcome.Outcome.{Outcome}
use Rattle.duk_books.specs.declared.outcome.Outcome.TheVariants as came

-- both cells of a till, its terminal's and the book, were made over what their own types left in
-- media of right size
pub record HasSoundCells {C B J I : Type 0} (m : Meanings C B J I) (till : TillOf C B)
    : Type 0 where
  pub of_terminal : (m.cell.state_of till.terminal.cell).sound
  pub of_book : (m.book.state_of till.book).sound

-- so were all stores: the host's journal, and the cells of all tills
pub record HasSoundStores {C B J I : Type 0} (m : Meanings C B J I) (books : BooksOf C B J I)
    : Type 0 where
  pub journal : (m.host.journal.state_of books.host.journal).sound
  pub tills : All (HasSoundCells m) books.tills

-- the store of an end is calm
abbrev pub IsCalmAt : {C B J I : Type 0} → Meanings C B J I → BooksOf C B J I → End → Type 0
IsCalmAt m books end.Host = (m.host.journal.state_of books.host.journal).calm
IsCalmAt m books (end.Terminal t) =
    (till : TillOf _ _) → IsAt books.tills t till → (m.cell.state_of till.terminal.cell).calm
IsCalmAt m books (end.Book t) =
    (till : TillOf _ _) → IsAt books.tills t till → (m.book.state_of till.book).calm

-- a till refused since its terminal's cell failed so
abbrev pub IsTerminalFault : TillFault → StoreFault → Type 0
IsTerminalFault (till_fault.Terminal why) fault = IsCellFault why fault
IsTerminalFault _ fault = ⊥

-- a till refused since its book failed so
abbrev pub IsBookFault : TillFault → StoreFault → Type 0
IsBookFault (till_fault.Store why) fault = why ≡ fault
IsBookFault _ fault = ⊥

-- the host refused since its journal failed so
abbrev pub IsJournalFault : HostFault → StoreFault → Type 0
IsJournalFault (host_fault.Store why) fault = why ≡ fault
IsJournalFault _ fault = ⊥

-- an outcome says that the store of an end failed so
abbrev pub ReportsFault : Outcome → End → StoreFault → Type 0
ReportsFault (came.TillFaulted u why) (end.Terminal t) fault =
    (u ≡ t) × IsTerminalFault why fault
ReportsFault (came.TillFaulted u why) (end.Book t) fault = (u ≡ t) × IsBookFault why fault
ReportsFault (came.HostFaulted why) end.Host fault = IsJournalFault why fault
ReportsFault _ _ fault = ⊥

-- an outcome says of no end that its store is damaged
abbrev pub ReportsNoDamage : Outcome → Type 0
ReportsNoDamage outcome = (end : End) → ¬ ReportsFault outcome end Damaged

-- the outcome is that the store of an end was armed
abbrev pub ReportsArming : End → Outcome → Type 0
ReportsArming end (came.Armed armed steps) = armed ≡ end
ReportsArming end _ = ⊥

-- where outcomes say that a device step of an end's store failed, one before it says that the
-- store was armed
abbrev pub FailsOnceArmed : End → List Outcome → Type 0
FailsOnceArmed end outcomes =
    (earlier later : List Outcome) (outcome : Outcome)
    → outcomes ≡ earlier ++ outcome ∷ later → ReportsFault outcome end Device
    → Any (ReportsArming end) earlier

-- the store of an end is calm yet, unless one of the outcomes says that it was armed
abbrev pub StaysCalm : {C B J I : Type 0} → Meanings C B J I → End → BooksOf C B J I
    → List Outcome → Type 0
StaysCalm m end books outcomes = Any (ReportsArming end) outcomes ⊎ IsCalmAt m books end

-- a restart of the host, or of a till that is there
abbrev pub IsRestartEvent : {C B J I : Type 0} → BooksOf C B J I → Event → Type 0
IsRestartEvent books (event.RestartTill t) = HasOne books.tills t
IsRestartEvent books event.RestartHost = Unit {0}
IsRestartEvent books _ = ⊥

-- the outcome is that a till or the host was brought up
abbrev pub ReportsBroughtUp : Outcome → Type 0
ReportsBroughtUp (came.TillNext t next state) = Unit {0}
ReportsBroughtUp (came.HostKeeps kept) = Unit {0}
ReportsBroughtUp _ = ⊥
