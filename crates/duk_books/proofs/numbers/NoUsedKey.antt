-- The terminals of tills hold the key of no used number, nor of an ancestor of one, and their books find
-- nothing but last purchases.
use Rattle.std.proofs.Common.{◌<◌, ℕ, Some, None, inl, inr}
use Rattle.duk_regs.specs.Registers.{RegisterSet}
use Rattle.duk_store.specs.Cell.{Kept}
use Rattle.duk_term.specs.Body.{set_of_body}
use Rattle.duk_term.specs.declared.state.State.{State}
use Rattle.duk_term.specs.declared.state.State.TheVariants.{Stopped, Empty, Loaded}
use Rattle.duk_till.specs.Till.{TillOf}
use Rattle.duk_stations.proofs.NoUsedKey.{EachRegister, NoneUsed, above_used, each_register, has_version_2, is_body, spent_of}
use Rattle.duk_stations.proofs.PlacesInLists.{all_at}
use Rattle.duk_stations.proofs.Safe.{RegistersSafe, SetSafe, owner_of}
use Rattle.duk_stations.proofs.Terminals.{KeptHas, StateHas}
use Rattle.duk_books.specs.Books.{BooksOf, Meanings}
use Rattle.duk_books.specs.Images.{FindLast, FindVersion2, FindsLast, FindsVersion2, HasVersion2}
use Rattle.duk_books.specs.NoUsedKey.{IfKept, IfLoaded, InEachTill, IsEmptyOrOfUnusedNode, NoUsedKey, OwnsAboveUsed}
use Rattle.duk_books.specs.Reached.{Reached}
use Rattle.duk_books.proofs.numbers.AllSafe.{IsSafe, SafeLaws, rest_of, terminal_in}
use Rattle.duk_books.proofs.numbers.EachMoveSafe.{reached_safe}

module _ {C B J I : Type 0} (m : Meanings C B J I) (books : BooksOf C B J I) (laws : SafeLaws m.cell) (reached : Reached m books) where
  safe : IsSafe m books
  safe = reached_safe m laws books reached

  if_loaded : (t : ℕ) (P : RegisterSet → Type 0) (state : State) → ((set : RegisterSet) → SetSafe (rest_of books) t set → P set) → StateHas (RegistersSafe (rest_of books) t) state → IfLoaded P state
  if_loaded t P Stopped follows has = tt
  if_loaded t P Empty follows has = tt
  if_loaded t P (Loaded set pending) follows has = follows set has

  if_kept : (t : ℕ) (P : RegisterSet → Type 0) (kept : Kept) → ((set : RegisterSet) → SetSafe (rest_of books) t set → P set) → KeptHas (RegistersSafe (rest_of books) t) kept → IfKept P kept
  if_kept t P None follows has = tt
  if_kept t P (Some body) follows has = record { is_body = is_body laws.registers (rest_of books) t body has; keeps = inl has.own; holds = follows (set_of_body body) has.holds }

  -- what holds of safe registers holds of all that the terminals of tills keep
  in_each_till : (P : ℕ → RegisterSet → Type 0) → ((t : ℕ) (set : RegisterSet) → SetSafe (rest_of books) t set → P t set) → InEachTill m P books.tills
  in_each_till P follows t till at =
      let has = safe.stations.each t till at in
      record {
        registers = if_loaded t (P t) till.terminal.state (follows t) has.state;
        images = λ kept found. if_kept t (P t) kept (follows t) (has.kept kept found);
      }

  pub are_above_used : InEachTill m (OwnsAboveUsed books.host.keys books.requests books.owners) books.tills
  are_above_used = in_each_till (OwnsAboveUsed books.host.keys books.requests books.owners) (λ t set has. record {
    owned = has.numbers.owned;
    above = record {
      initial = has.keys.initial;
      initial_is = has.keys.initial_is;
      counter_is = has.numbers.is_set.counter_is;
      future_keys = has.keys.future_keys;
      above = above_used (rest_of books) t set has;
    };
    remembers = λ ksn used owns. spent_of ksn set (has.numbers.behind ksn used (owner_of terminal_in m.cell laws.registers (rest_of books) books.tills safe.stations t ksn used owns));
  })

  empty_or_unused : NoneUsed → EachRegister → (t : ℕ) (set : RegisterSet) (has : SetSafe (rest_of books) t set) (place : ℕ) → place < 21 → IsEmptyOrOfUnusedNode books.requests has.keys.initial set place
  empty_or_unused unused each t set has place within = elim (each_register (rest_of books) t set has laws.registers.fits unused each place within) [
    | inl empty ↦ inl empty
    | inr held ↦ inr (record { node = held.node; unused = record { usable = held.usable; unused = held.unused }; holds = held.holds })
  ]

  pub have_no_used_key : NoneUsed → EachRegister → InEachTill m (λ t. NoUsedKey books.host.keys books.requests) books.tills
  have_no_used_key unused each = in_each_till (λ t. NoUsedKey books.host.keys books.requests) (λ t set has. record {
    initial = has.keys.initial;
    initial_is = has.keys.initial_is;
    are_21 = has.keys.future_keys.are_21;
    registers = empty_or_unused unused each t set has;
  })

  of_version_2 : (t : ℕ) (kept : Kept) → KeptHas (RegistersSafe (rest_of books) t) kept → HasVersion2 kept
  of_version_2 t None has = tt
  of_version_2 t (Some body) has = has_version_2 laws.registers (rest_of books) t body has

  pub find_version_2 : FindVersion2 m books.tills
  find_version_2 = all_at (λ (it : TillOf C B). FindsVersion2 m it) books.tills (λ t till at kept found. of_version_2 t kept ((safe.stations.each t till at).kept kept found))

  pub find_last : FindLast m books.tills
  find_last = all_at (λ (it : TillOf C B). FindsLast m it) books.tills (λ t till at kept found. (safe.lasts t till at).found kept found)
