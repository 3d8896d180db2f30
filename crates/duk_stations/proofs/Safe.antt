-- What holds of all stations, in each move: their registers hold the future keys of their own initial
-- keys, and each number that was used is behind them.
use Rattle.std.proofs.Common.{◌≡◌, ◌≢◌, ◌⊎◌, inl, inr, ℕ, List, Option, Some, None, sym, subst}
use Rattle.duk_hsm.specs.InitialKey.{IsInitialKeyOf}
use Rattle.duk_hsm.specs.Keys.{HsmKeys}
use Rattle.duk_regs.specs.Registers.{AreFutureKeysOf, RegisterSet}
use Rattle.duk_store.specs.Cell.{CellMeaning}
use Rattle.duk_term.specs.Begin.{TakesNumber}
use Rattle.duk_term.specs.Load.{IsFirstSet, Loading, MayTake}
use Rattle.duk_term.specs.Terminal.{TerminalOf, serial_of}
use Rattle.duk_term.specs.declared.state.State.{State}
use Rattle.duk_term.specs.declared.state.State.TheVariants.{Stopped, Empty, Loaded}
use Rattle.duk_tree.specs.Serial.{Serial}
use Rattle.duk_stations.specs.inner.Moves.{GoesLoaded, GoesOn, TakesNext}
use Rattle.duk_stations.specs.Owner.{IsOwner, Owns}
use Rattle.duk_stations.specs.Places.{ChangesOnly, IsAt}
use Rattle.duk_stations.specs.Registers.{RegisterLaws}
use Rattle.duk_stations.specs.declared.owner.Owner.{Owner}
use Rattle.duk_stations.proofs.Numbers.{IsBehind, RegistersHold, SetHolds, StaysBeside, Used, holds_left, holds_loaded, not_used, registers_beside, taken_behind}
use Rattle.duk_stations.proofs.IssuedKeys.{IsOwnKey}
use Rattle.duk_stations.proofs.Owners.{OwnersGo, owner_stays}
use Rattle.duk_stations.proofs.PlacesInLists.{before_at, each_after}
use Rattle.duk_stations.proofs.Terminals.{StateHas, TerminalHas, goes_on_has, load_has, takes_has, terminal_as}

-- the rest of the machine: the keys of the host's security module, the numbers that were used, and the
-- owners
pub record Rest : Type 1 where
  pub keys : HsmKeys
  pub used : Used
  pub owners : List Owner

-- ---- registers

pub record HasOwnKeys (keys : HsmKeys) (set : RegisterSet) : Type 0 where
  pub initial : List ℕ
  pub initial_is : IsInitialKeyOf keys set.iksn initial
  pub future_keys : AreFutureKeysOf initial set

pub record SetSafe (rest : Rest) (t : ℕ) (set : RegisterSet) : Type 0 where
  pub numbers : SetHolds rest.used rest.owners t set
  pub keys : HasOwnKeys rest.keys set

abbrev pub RegistersSafe : Rest → ℕ → Option RegisterSet → Type 0
RegistersSafe rest t None = RegistersHold rest.used rest.owners t None
RegistersSafe rest t (Some set) = SetSafe rest t set

holds_of : (rest : Rest) (t : ℕ) (it : State) → StateHas (RegistersSafe rest t) it → StateHas (RegistersHold rest.used rest.owners t) it
holds_of rest t Stopped safe = tt
holds_of rest t Empty safe = safe
holds_of rest t (Loaded set pending) safe = safe.numbers

safe_beside : (t : ℕ) (rest : Rest) (used : Used) (owners : List Owner) → StaysBeside t rest.used rest.owners used owners → (it : Option RegisterSet) → RegistersSafe rest t it → RegistersSafe (record rest { used = used; owners = owners }) t it
safe_beside t rest used owners beside None safe = registers_beside t rest.used rest.owners used owners beside None safe
safe_beside t rest used owners beside (Some set) safe = record { numbers = registers_beside t rest.used rest.owners used owners beside (Some set) safe.numbers; keys = safe.keys }

module _ (laws : RegisterLaws) (rest : Rest) (t : ℕ) where
  left_safe : (used : Used) (set left : RegisterSet) (key : List ℕ) → TakesNumber set key left → ((ksn : Serial) → used ksn → rest.used ksn ⊎ (ksn ≡ serial_of set)) → SetSafe rest t set → SetSafe (record rest { used = used }) t left
  left_safe used set left key takes cases safe = record {
    numbers = holds_left laws rest.used used rest.owners t set left key takes (λ ksn has. elim (cases ksn has) [
      | inl before ↦ inl before
      | inr here ↦ inr (subst (λ (it : Serial). IsBehind it left) (sym here) (taken_behind laws set left key takes))
    ]) safe.numbers;
    keys = record {
      initial = safe.keys.initial;
      initial_is = subst (λ (it : ℕ). IsInitialKeyOf rest.keys it safe.keys.initial) (sym takes.taken.same_iksn) safe.keys.initial_is;
      future_keys = laws.future_keys safe.keys.initial set left key takes.usable takes.taken safe.keys.future_keys;
    };
  }

  loaded_safe : (asked : Loading) (it : State) (set : RegisterSet) → IsOwner rest.owners asked.iksn t → IsOwnKey rest.keys asked → MayTake it asked.iksn → IsFirstSet asked it set → StateHas (RegistersSafe rest t) it → SetSafe rest t set
  loaded_safe asked it set owned own may first safe = record {
    numbers = holds_loaded rest.used rest.owners t asked it set owned may first (holds_of rest t it safe);
    keys = record {
      initial = first.initial;
      initial_is = subst (λ (it : ℕ). IsInitialKeyOf rest.keys it first.initial) (sym first.iksn_is) (own first.initial first.wrapped);
      future_keys = first.future_keys;
    };
  }

-- ---- all stations

-- the station of this number is safe
abbrev pub IsSafeAt : {S C : Type 0} → (S → TerminalOf C) → CellMeaning C → Rest → ℕ → S → Type 0
IsSafeAt terminal_of cell rest t station = TerminalHas cell (RegistersSafe rest t) (terminal_of station)

-- each station is safe, and each used number is owned
pub record AllSafe {S C : Type 0} (terminal_of : S → TerminalOf C) (cell : CellMeaning C) (rest : Rest) (stations : List S) : Type 0 where
  pub each : (t : ℕ) (station : S) → IsAt stations t station → IsSafeAt terminal_of cell rest t station
  pub owned : (ksn : Serial) → rest.used ksn → (t : ℕ) × IsOwner rest.owners ksn.iksn t

module _ {S C : Type 0} (terminal_of : S → TerminalOf C) (cell : CellMeaning C) (laws : RegisterLaws) (rest : Rest) (stations : List S) (safe : AllSafe terminal_of cell rest stations) where
  -- a station that owns a used number is its owner
  pub owner_of : (t : ℕ) (ksn : Serial) → rest.used ksn → Owns rest.owners ksn.iksn t → IsOwner rest.owners ksn.iksn t
  owner_of t ksn used owns =
      let had = safe.owned ksn used in
      subst (IsOwner rest.owners ksn.iksn) (sym (had.1.alone t owns)) had.1

  beside : (used : Used) (owners : List Owner) (t : ℕ) (station : S) → StaysBeside t rest.used rest.owners used owners → IsSafeAt terminal_of cell rest t station → IsSafeAt terminal_of cell (record rest { used = used; owners = owners }) t station
  beside used owners t station stays was = terminal_as cell (RegistersSafe rest t) (RegistersSafe (record rest { used = used; owners = owners }) t) (terminal_of station) (safe_beside t rest used owners stays) was

  module _ (t : ℕ) (P : S → S → Type 0) (new : List S) (change : ChangesOnly t P stations new) where
    was_safe : IsSafeAt terminal_of cell rest t change.before
    was_safe = safe.each t change.before (before_at t P stations new change)

    -- it goes on, and nothing is sent
    pub goes_safe : GoesOn cell (terminal_of change.before) (terminal_of change.after) → AllSafe terminal_of cell rest new
    goes_safe goes = record {
      each = each_after t P stations new change (IsSafeAt terminal_of cell rest) (IsSafeAt terminal_of cell rest) safe.each (λ u station apart was. was)
          (goes_on_has laws cell (RegistersSafe rest t) (terminal_of change.before) (terminal_of change.after)
          (λ set left key takes was. left_safe laws rest t rest.used set left key takes (λ ksn used. inl used) was) was_safe goes);
      owned = safe.owned;
    }

    -- it takes its next number: it owns the number, nobody used it, and it is used then, or lost
    module _ (is : TakesNext cell (terminal_of change.before) (terminal_of change.after)) where
      pub taken_from : SetSafe rest t is.set
      taken_from = subst (StateHas (RegistersSafe rest t)) is.takes.had was_safe.state

      pub is_fresh : ¬ rest.used (serial_of is.set)
      is_fresh = not_used rest.used rest.owners t is.set taken_from.numbers

      module _ (used : Used) (cases : (ksn : Serial) → used ksn → rest.used ksn ⊎ (ksn ≡ serial_of is.set)) where
        beside_taken : (u : ℕ) → u ≢ t → StaysBeside u rest.used rest.owners used rest.owners
        beside_taken u apart = record {
          owner = λ iksn is. is;
          was_used = λ ksn has owned. elim (cases ksn has) [
            | inl before ↦ (before, owned)
            | inr here ↦ absurd (apart (taken_from.numbers.owned.alone u (subst (λ (it : Serial). Owns rest.owners it.iksn u) here owned.owns)))
          ];
        }

        pub sent_safe : AllSafe terminal_of cell (record rest { used = used }) new
        sent_safe = record {
          each = each_after t P stations new change (IsSafeAt terminal_of cell rest) (IsSafeAt terminal_of cell (record rest { used = used })) safe.each
              (λ u station apart was. beside used rest.owners u station (beside_taken u apart) was)
              (takes_has laws cell (RegistersSafe rest t) (RegistersSafe (record rest { used = used }) t) (terminal_of change.before) (terminal_of change.after) is was_safe
              (left_safe laws rest t used is.set is.left is.key is.takes.takes cases));
          owned = λ ksn has. elim (cases ksn has) [
            | inl before ↦ safe.owned ksn before
            | inr here ↦ (t, subst (λ (it : Serial). IsOwner rest.owners it.iksn t) (sym here) taken_from.numbers.owned)
          ];
        }

    -- it is loaded, or not, and the owners are these then
    module _ (owners : List Owner) (go : OwnersGo rest.owners owners) (asked : Loading) (own : IsOwnKey rest.keys asked) where
      -- who owns the number of what was sent is who owned it
      beside_load : (u : ℕ) → StaysBeside u rest.used rest.owners rest.used owners
      beside_load u = record {
        owner = λ iksn. owner_stays rest.owners owners go iksn u;
        was_used = λ ksn used owned.
            let had = safe.owned ksn used in
            (used, subst (IsOwner rest.owners ksn.iksn) (sym ((owner_stays rest.owners owners go ksn.iksn had.0 had.1).alone u owned.owns)) had.1);
      }

      pub load_safe : GoesLoaded cell (IsOwner owners asked.iksn t) asked (terminal_of change.before) (terminal_of change.after) → AllSafe terminal_of cell (record rest { owners = owners }) new
      load_safe goes = record {
        each = each_after t P stations new change (IsSafeAt terminal_of cell rest) (IsSafeAt terminal_of cell (record rest { owners = owners })) safe.each
            (λ u station apart was. beside rest.used owners u station (beside_load u) was)
            (load_has laws cell (RegistersSafe (record rest { owners = owners }) t) (IsOwner owners asked.iksn t) asked (terminal_of change.before) (terminal_of change.after)
            (λ owned it set may first was. loaded_safe laws (record rest { owners = owners }) t asked it set owned own may first was)
            (beside rest.used owners t change.before (beside_load t) was_safe) goes);
        owned = λ ksn used. let had = safe.owned ksn used in (had.0, owner_stays rest.owners owners go ksn.iksn had.0 had.1);
      }
