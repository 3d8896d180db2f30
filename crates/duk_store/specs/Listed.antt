-- What a list of items that outlives a stop means, and what its calls do to that: this project's own.
use Rattle.std.specs.Prelude.{◌≡◌, ◌≢◌, ◌⊎◌, ◌-◌, true, false, ℕ, List, ◌++◌, ◌∷◌, length, Some, slice_get, if◌then◌else◌}
use Rattle.duk_store.specs.Restart.{IsRestartFault}
use Rattle.duk_store.specs.StoreState.{FindsAsBefore, FindsOnly, FindsWithin, IsAlreadyStopped, PreservesNature, Stays, StoreState, Stops}
use Rattle.duk_store.specs.declared.fault.StoreFault.{StoreFault}
use Rattle.duk_store.specs.declared.fault.StoreFault.TheVariants.{Device, Stopped}
use Rattle.duk_store.specs.Visitor.{TakesAll}

-- what the lists of one kind mean
pub record ListMeaning (L I : Type 0) : Type 1 where
  -- what a restart may find, whether it runs, and how often it failed
  pub state_of : L → StoreState (List I)
  -- how many items it counts: those that a restart found, and those that were appended since
  pub count : L → ℕ
  -- how many items it may keep
  pub capacity : L → ℕ
  -- no device step is to fail on account of arming
  pub disarmed : L → Type 0
  -- how arming with a number of steps leaves it
  pub arms : L → ℕ → L → Type 0

-- how many items a list reports that it keeps: none while it is stopped
abbrev pub length_of : {L I : Type 0} → ListMeaning L I → L → ℕ
length_of meaning listed = if (meaning.state_of listed).running then meaning.count listed else 0

-- for how many more it has room: none while it is stopped
abbrev pub room_of : {L I : Type 0} → ListMeaning L I → L → ℕ
room_of meaning listed =
    if (meaning.state_of listed).running
    then meaning.capacity listed - meaning.count listed
    else 0

-- an honest list that runs counts what a restart would find, which is one list
abbrev pub CountsFound : {L I : Type 0} → ListMeaning L I → L → Type 0
CountsFound {L} {I} meaning listed =
    (meaning.state_of listed).running ≡ true → (meaning.state_of listed).honest
    → (items : List I) × FindsOnly (meaning.state_of listed) items
    × (length items ≡ meaning.count listed)

-- the list that a restart found: what it would find now, and could find before
pub record IsListFound {I : Type 0} (old new : StoreState (List I)) (items : List I) : Type 0 where
  pub finds : FindsOnly new items
  pub was_found : old.found items

-- so many items that a visitor took in order: those of the list that an honest store keeps
pub record IsListTaken {V I : Type 0} (takes : V → I → V → Type 0)
    (old new : StoreState (List I)) (visitor visited : V) (count : ℕ) : Type 0 where
  pub items : List I
  pub taken : TakesAll takes items visitor visited
  pub counted : length items ≡ count
  pub found : old.honest → IsListFound old new items

-- a restart that found this many items: all that a stop could leave now keeps them, so that an
-- honest list is sound from then on, whatever it was made over
pub record ListRestarted {L I V : Type 0} (meaning : ListMeaning L I) (takes : V → I → V → Type 0)
    (old new : L) (visitor visited : V) (count : ℕ) : Type 0 where
  pub nature : PreservesNature (meaning.state_of old) (meaning.state_of new)
  pub sound : (meaning.state_of old).honest → (meaning.state_of new).sound
  pub no_failure : (meaning.state_of new).failures ≡ (meaning.state_of old).failures
  pub runs : (meaning.state_of new).running ≡ true
  pub taken : IsListTaken takes (meaning.state_of old) (meaning.state_of new) visitor visited count

-- a visitor refused an item behind those that it took. Each list that the next restart may find begins
-- with these.
pub record IsItemRefused {V I : Type 0} (takes : V → I → V → Type 0)
    (refuses : V → I → StoreFault → Type 0) (old new : StoreState (List I)) (visitor : V)
    (fault : StoreFault) : Type 0 where
  pub earlier : List I
  pub item : I
  pub visited : V
  pub taken : TakesAll takes earlier visitor visited
  pub refused : refuses visited item fault
  pub begins : old.honest → FindsWithin new
      (λ items. (rest : List I) × (items ≡ earlier ++ item ∷ rest))

-- a restart that failed, for a cause of the store's or since the visitor refused: what it would find
-- next time was to be found before
pub record ListRestartFailed {L I V : Type 0} (meaning : ListMeaning L I)
    (takes : V → I → V → Type 0) (refuses : V → I → StoreFault → Type 0)
    (old new : L) (visitor : V) (fault : StoreFault) : Type 0 where
  pub stops : Stops (meaning.state_of old) (meaning.state_of new) (meaning.state_of old).found
  pub cause : IsRestartFault (meaning.state_of old) (meaning.state_of new) fault
      ⊎ (IsItemRefused takes refuses (meaning.state_of old) (meaning.state_of new) visitor fault
      × ((meaning.state_of new).failures ≡ (meaning.state_of old).failures))

-- the bytes of the record of the item at a place, which say so much of that item
pub record IsItemRead {L I : Type 0} (meaning : ListMeaning L I) (says : I → Type 0) (old new : L)
    (place : ℕ) : Type 0 where
  pub was_running : (meaning.state_of old).running ≡ true
  pub stays : Stays (meaning.state_of old) (meaning.state_of new)
  pub says_it : (meaning.state_of old).honest → (items : List I)
      → (meaning.state_of old).found items
      → (item : I) × (slice_get items place ≡ Some item) × says item

-- a reading in which a device step failed: the list is stopped, and a restart may find what it could
-- find before
pub record ItemReadStopped {L I : Type 0} (meaning : ListMeaning L I) (old new : L) : Type 0 where
  pub was_running : (meaning.state_of old).running ≡ true
  pub nature : PreservesNature (meaning.state_of old) (meaning.state_of new)
  pub not_calm : ¬ (meaning.state_of old).calm
  pub stopped : (meaning.state_of new).running ≡ false
  pub found : FindsAsBefore (meaning.state_of old) (meaning.state_of new)
  pub failure : (meaning.state_of new).failures ≢ (meaning.state_of old).failures

-- why a record is not read, and what that leaves
abbrev pub ItemReadFailed : {L I : Type 0} → ListMeaning L I → L → L → StoreFault → Type 0
ItemReadFailed meaning old new Device = ItemReadStopped meaning old new
ItemReadFailed meaning old new Stopped =
    IsAlreadyStopped (meaning.state_of old) (meaning.state_of new)
ItemReadFailed meaning old new _ = ⊥

-- these lists, each with the whole group at its end
abbrev pub WithGroup : {I : Type 0} → (List I → Type 0) → List I → List I → Type 0
WithGroup {I} lists group items = (earlier : List I) × lists earlier × (items ≡ earlier ++ group)

-- a group that is appended: a restart finds the list with all of it at its end, and nothing else
pub record IsGroupAppended
    {L I : Type 0} (meaning : ListMeaning L I) (old new : L) (group : List I) : Type 0 where
  pub was_running : (meaning.state_of old).running ≡ true
  pub nature : PreservesNature (meaning.state_of old) (meaning.state_of new)
  pub no_failure : (meaning.state_of new).failures ≡ (meaning.state_of old).failures
  pub runs : (meaning.state_of new).running ≡ true
  pub finds : (meaning.state_of old).honest → (items : List I)
      → FindsOnly (meaning.state_of old) items
      → FindsOnly (meaning.state_of new) (items ++ group)

-- the old lists, or one of them with the whole group at its end
abbrev pub OldOrWithGroup : {I : Type 0} → StoreState (List I) → List I → List I → Type 0
OldOrWithGroup old group items = old.found items ⊎ WithGroup old.found group items

-- an append in which a device step failed
pub record GroupStopped
    {L I : Type 0} (meaning : ListMeaning L I) (old new : L) (group : List I) : Type 0 where
  pub was_running : (meaning.state_of old).running ≡ true
  pub stops : Stops (meaning.state_of old) (meaning.state_of new)
      (OldOrWithGroup (meaning.state_of old) group)
  pub failure : (meaning.state_of new).failures ≢ (meaning.state_of old).failures

-- why a group is not appended, and what that leaves
abbrev pub GroupAppendFailed :
    {L I : Type 0} → ListMeaning L I → L → L → List I → StoreFault → Type 0
GroupAppendFailed meaning old new group Device = GroupStopped meaning old new group
GroupAppendFailed meaning old new group Stopped =
    IsAlreadyStopped (meaning.state_of old) (meaning.state_of new)
GroupAppendFailed meaning old new group _ = ⊥
