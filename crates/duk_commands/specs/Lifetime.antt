-- Runs of `issue` on one ledger, one after the other, each over what the run before may have left:
-- this project's own.
use Rattle.std.specs.Prelude.{◌≡◌, ◌≢◌, ◌⊎◌, ℕ, List, [], ◌∷◌, All, AllPairs}
use Rattle.duk_ledger.specs.Issued.{Issues}
use Rattle.duk_ledger.specs.declared.issued.Issued.{Issued}
use Rattle.duk_store.specs.Listed.{GroupAppendFailed, IsGroupAppended, ListMeaning}
use Rattle.duk_store.specs.Restart.{RestartFailed}
use Rattle.duk_store.specs.StoreState.{FindsWithin}
use Rattle.duk_store.specs.declared.fault.StoreFault.{StoreFault}
use Rattle.duk_commands.specs.Ledger.{IsExtended, IsIssued, numbers_of}

-- no initial key serial number is printed twice
abbrev pub ArePrintedOnce : List ℕ → Type 0
ArePrintedOnce printed = AllPairs (λ earlier later. earlier ≢ later) printed

-- none of these initial key serial numbers stands in the list of a ledger, and none is printed
-- twice
pub record AreFresh (issues : Issues) (printed : List ℕ) : Type 0 where
  pub new : All (λ iksn. ¬ IsIssued issues iksn) printed
  pub once : ArePrintedOnce printed

-- a run ends once some numbers are printed, whatever the cause; or at an append, whose number is
-- not printed: it is done, and the run ends before the line; or it is not done, as where the
-- machine stops in it
abbrev pub EndsAt : {L : Type 0} → ListMeaning L Issued → L → L → Type 0
EndsAt meaning mid last =
    (last ≡ mid)
    ⊎ ((issued : Issued) × (IsGroupAppended meaning mid last (issued ∷ [])
    ⊎ ((why : StoreFault) × GroupAppendFailed meaning mid last (issued ∷ []) why)))

-- the ledger is restarted, and these numbers are printed, in whole or in part. They stand behind the
-- list that was found
pub record IsRunBroughtUp
    {L : Type 0} (meaning : ListMeaning L Issued) (made : L) (printed : List ℕ) (last : L) : Type 0 where
  pub mid : L
  pub issues : Issues
  pub more : Issues
  pub extended : IsExtended meaning made mid issues more
  pub printed_are : printed ≡ numbers_of more
  pub fresh : AreFresh issues printed
  pub ends : EndsAt meaning mid last

-- the ledger's restart fails, and nothing is printed
pub record IsRunRefused
    {L : Type 0} (meaning : ListMeaning L Issued) (made : L) (printed : List ℕ) (last : L) : Type 0 where
  pub why : StoreFault
  pub refused : RestartFailed (meaning.state_of made) (meaning.state_of last) why
  pub none_printed : printed ≡ []

-- the ledger is not touched, and nothing is printed
pub record IsNoRun {L : Type 0} (made : L) (printed : List ℕ) (last : L) : Type 0 where
  pub untouched : last ≡ made
  pub none_printed : printed ≡ []

-- the numbers that a run prints, in whole or in part, and how it leaves the ledger
abbrev pub IsRun : {L : Type 0} → ListMeaning L Issued → L → List ℕ → L → Type 0
IsRun meaning made printed last =
    IsNoRun made printed last ⊎ IsRunRefused meaning made printed last
    ⊎ IsRunBroughtUp meaning made printed last

-- a ledger is made for a run. It is honest, and finds nothing but what the run before may have left
pub record IsMadeOver {L : Type 0} (meaning : ListMeaning L Issued) (left made : L) : Type 0 where
  pub honest : (meaning.state_of made).honest
  pub within : FindsWithin (meaning.state_of made) (meaning.state_of left).found

-- what runs print, one after the other, each over what the one before may have left
abbrev pub IsLifetime : {L : Type 0} → ListMeaning L Issued → L → List (List ℕ) → L → Type 0
IsLifetime meaning first [] last = last ≡ first
IsLifetime {L} meaning first (printed ∷ later) last =
    (made : L) × (left : L) × IsMadeOver meaning first made × IsRun meaning made printed left
    × IsLifetime meaning left later last

-- each one that was printed stands in every list that a restart may find
abbrev pub StandInEach : (Issues → Type 0) → List ℕ → Type 0
StandInEach found printed =
    (issues : Issues) → found issues → All (IsIssued issues) printed
