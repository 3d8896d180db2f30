-- What the calls of a cell in turn leave: this project's own.
use Rattle.std.specs.Prelude.{◌≡◌, ◌⊎◌, true, ℕ, List, [], ◌∷◌}
use Rattle.duk_store.specs.Cell.{CellMeaning, IsPut, Kept, PutFailed}
use Rattle.duk_store.specs.Restart.{RestartFailed, Restarted}
use Rattle.duk_store.specs.StoreState.{FindsOnly, FindsWithin, StaysButCalm, StoreState}
use Rattle.duk_store.specs.declared.fault.StoreFault.{StoreFault}

-- a restart, done or failed
abbrev pub IsRestarted : {C : Type 0} → CellMeaning C → C → C → Type 0
IsRestarted meaning old new =
    ((kept : Kept) × Restarted (meaning.state_of old) (meaning.state_of new) kept)
    ⊎ ((fault : StoreFault) × RestartFailed (meaning.state_of old) (meaning.state_of new) fault)

-- a put of a body, done or failed
abbrev pub IsPutOrFailed : {C : Type 0} → CellMeaning C → C → C → List ℕ → Type 0
IsPutOrFailed meaning old new body =
    IsPut meaning old new body ⊎ ((fault : StoreFault) × PutFailed meaning old new body fault)

-- a call of a cell: a restart, a put, or an arming
abbrev pub IsCellCall : {C : Type 0} → CellMeaning C → C → C → Type 0
IsCellCall meaning old new =
    IsRestarted meaning old new
    ⊎ (((body : List ℕ) × IsPutOrFailed meaning old new body)
    ⊎ StaysButCalm (meaning.state_of old) (meaning.state_of new))

-- calls in turn, which leave the cell so after each of them
abbrev pub AreCellCalls : {C : Type 0} → CellMeaning C → C → List C → C → Type 0
AreCellCalls meaning first [] last = last ≡ first
AreCellCalls meaning first (next ∷ later) last =
    IsCellCall meaning first next × AreCellCalls meaning next later last

-- each value that a restart may find is one of these two
abbrev pub FindsOneOf : StoreState Kept → Kept → Kept → Type 0
FindsOneOf store one other = FindsWithin store (λ kept. (kept ≡ one) ⊎ (kept ≡ other))

-- a restart may find at most two values
abbrev pub FindsAtMostTwo : StoreState Kept → Type 0
FindsAtMostTwo store = (one : Kept) × (other : Kept) × FindsOneOf store one other

-- a restart of a store that runs would find one value alone
abbrev pub FindsOneWhileItRuns : StoreState Kept → Type 0
FindsOneWhileItRuns store = store.running ≡ true → (kept : Kept) × FindsOnly store kept
