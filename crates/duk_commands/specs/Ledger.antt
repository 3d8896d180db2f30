-- A ledger of the initial keys that were issued (this project's own).
use Rattle.std.specs.Prelude.{◌↔◌, ◌<◌, ◌+◌, ◌++◌, ℕ, List, Some, map, max, AllPairs, Contains}
use Rattle.std.specs.List.{fold}
use Rattle.duk_mac.specs.CheckValue.{check_value_of}
use Rattle.duk_store.specs.Listed.{ListMeaning}
use Rattle.duk_store.specs.StoreState.{Settles}
use Rattle.duk_tree.specs.Derivation.{initial_key_of}
use Rattle.duk_ledger.specs.Issued.{Issues, run_of}
use Rattle.duk_ledger.specs.declared.issued.Issued.{Issued}
use Rattle.duk_commands.specs.Numbers.{iksn_at}
use Rattle.duk_commands.specs.declared.issue.order.Order.{Order}

-- the initial key serial numbers in the list of a ledger
abbrev pub numbers_of : Issues → List ℕ
numbers_of issues = map (λ (issued : Issued). issued.number) issues

-- an initial key serial number stands in the list of a ledger
abbrev pub IsIssued : Issues → ℕ → Type 0
IsIssued issues iksn = Contains (numbers_of issues) iksn

-- the number of the largest run that issued one of them: 0 where no run is known
abbrev pub largest_run : Issues → ℕ
largest_run issues = fold (λ (largest : ℕ) (issued : Issued). max largest (run_of issued.made)) 0 issues

-- the number of the next run
abbrev pub next_run : Issues → ℕ
next_run issues = largest_run issues + 1

-- the initial key of the terminal at a place of an order, as a ledger keeps it: with its own check
-- value, and that of the base derivation key
abbrev pub issue_at : Order → ℕ → ℕ → Issued
issue_at order run place = record {
  number = iksn_at order.first place;
  made = Some (record {
    key = check_value_of (initial_key_of order.bdk (iksn_at order.first place));
    key_set = check_value_of order.bdk;
    run = run;
  });
}

-- the places, of so many from the first number on, whose numbers are not issued, in their order
pub record AreNew (issues : Issues) (first count : ℕ) (places : List ℕ) : Type 0 where
  pub members : (place : ℕ) → Contains places place
      ↔ ((place < count) × ¬ IsIssued issues (iksn_at first place))
  pub in_order : AllPairs (λ earlier later. earlier < later) places

-- none of so many numbers from the first on is issued
abbrev pub IsNoneIssued : Issues → ℕ → ℕ → Type 0
IsNoneIssued issues first count =
    (place : ℕ) → place < count → ¬ IsIssued issues (iksn_at first place)

-- the first of them that is issued stands at this place
pub record IsFirstIssued (issues : Issues) (first count place : ℕ) : Type 0 where
  pub inside : place < count
  pub issued : IsIssued issues (iksn_at first place)
  pub none_before : IsNoneIssued issues first place

-- a ledger was restarted, found this list, and keeps these behind it
pub record IsExtended
    {L : Type 0} (meaning : ListMeaning L Issued) (old new : L) (issues more : Issues)
    : Type 0 where
  pub was_found : (meaning.state_of old).honest → (meaning.state_of old).found issues
  pub keeps : Settles (meaning.state_of old) (meaning.state_of new) (issues ++ more)
