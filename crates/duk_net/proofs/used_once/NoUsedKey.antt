-- The terminals of a world that is reached hold the key of no used number, nor of an ancestor of one.
use Rattle.std.proofs.Common.{◌<◌, ℕ, Some, None, inl, inr}
use Rattle.duk_regs.specs.Registers.{RegisterSet}
use Rattle.duk_store.specs.Cell.{Kept}
use Rattle.duk_term.specs.Body.{set_of_body}
use Rattle.duk_term.specs.declared.state.State.{State}
use Rattle.duk_term.specs.declared.state.State.TheVariants.{Stopped, Empty, Loaded}
use Rattle.duk_stations.proofs.NoUsedKey.{EachRegister, NoneUsed, above_used, each_register, has_version_2, is_body, spent_of}
use Rattle.duk_stations.proofs.PlacesInLists.{all_at}
use Rattle.duk_stations.proofs.Safe.{RegistersSafe, SetSafe, owner_of}
use Rattle.duk_stations.proofs.Terminals.{KeptHas, StateHas}
use Rattle.duk_net.specs.Images.{FindVersion2, FindsVersion2, HasVersion2}
use Rattle.duk_net.specs.NoUsedKey.{IfKept, IfLoaded, InEachTerminal, IsEmptyOrOfUnusedNode, NoUsedKey, OwnsAboveUsed}
use Rattle.duk_net.specs.Reached.{Reached}
use Rattle.duk_net.specs.World.{Meanings, WorldOf}
use Rattle.duk_net.proofs.used_once.WorldSafe.{WorldLaws, WorldSafe, itself, reached_is_safe, rest_of}

module _ {C L I : Type 0} (m : Meanings C L I) (world : WorldOf C L I) (laws : WorldLaws m.cell) (reached : Reached m world) where
  safe : WorldSafe m world
  safe = reached_is_safe m world laws reached

  if_loaded : (t : ℕ) (P : RegisterSet → Type 0) (state : State) → ((set : RegisterSet) → SetSafe (rest_of world) t set → P set) → StateHas (RegistersSafe (rest_of world) t) state → IfLoaded P state
  if_loaded t P Stopped follows has = tt
  if_loaded t P Empty follows has = tt
  if_loaded t P (Loaded set pending) follows has = follows set has

  if_kept : (t : ℕ) (P : RegisterSet → Type 0) (kept : Kept) → ((set : RegisterSet) → SetSafe (rest_of world) t set → P set) → KeptHas (RegistersSafe (rest_of world) t) kept → IfKept P kept
  if_kept t P None follows has = tt
  if_kept t P (Some body) follows has = record { is_body = is_body laws.registers (rest_of world) t body has; keeps = inl has.own; holds = follows (set_of_body body) has.holds }

  -- what holds of safe registers holds of all that the terminals of a reached world keep
  in_each_terminal : (P : ℕ → RegisterSet → Type 0) → ((t : ℕ) (set : RegisterSet) → SetSafe (rest_of world) t set → P t set) → InEachTerminal m P world.terminals
  in_each_terminal P follows t terminal at =
      let has = safe.stations.each t terminal at in
      record {
        registers = if_loaded t (P t) terminal.state (follows t) has.state;
        images = λ kept found. if_kept t (P t) kept (follows t) (has.kept kept found);
      }

  pub are_above_used : InEachTerminal m (OwnsAboveUsed world.host.keys world.requests world.owners) world.terminals
  are_above_used = in_each_terminal (OwnsAboveUsed world.host.keys world.requests world.owners) (λ t set has. record {
    owned = has.numbers.owned;
    above = record {
      initial = has.keys.initial;
      initial_is = has.keys.initial_is;
      counter_is = has.numbers.is_set.counter_is;
      future_keys = has.keys.future_keys;
      above = above_used (rest_of world) t set has;
    };
    remembers = λ ksn used owns. spent_of ksn set (has.numbers.behind ksn used (owner_of itself m.cell laws.registers (rest_of world) world.terminals safe.stations t ksn used owns));
  })

  empty_or_unused : NoneUsed → EachRegister → (t : ℕ) (set : RegisterSet) (has : SetSafe (rest_of world) t set) (place : ℕ) → place < 21 → IsEmptyOrOfUnusedNode world.requests has.keys.initial set place
  empty_or_unused unused each t set has place within = elim (each_register (rest_of world) t set has laws.registers.fits unused each place within) [
    | inl empty ↦ inl empty
    | inr held ↦ inr (record { node = held.node; unused = record { usable = held.usable; unused = held.unused }; holds = held.holds })
  ]

  pub have_no_used_key : NoneUsed → EachRegister → InEachTerminal m (λ t. NoUsedKey world.host.keys world.requests) world.terminals
  have_no_used_key unused each = in_each_terminal (λ t. NoUsedKey world.host.keys world.requests) (λ t set has. record {
    initial = has.keys.initial;
    initial_is = has.keys.initial_is;
    are_21 = has.keys.future_keys.are_21;
    registers = empty_or_unused unused each t set has;
  })

  of_version_2 : (t : ℕ) (kept : Kept) → KeptHas (RegistersSafe (rest_of world) t) kept → HasVersion2 kept
  of_version_2 t None has = tt
  of_version_2 t (Some body) has = has_version_2 laws.registers (rest_of world) t body has

  pub find_version_2 : FindVersion2 m world.terminals
  find_version_2 = all_at (FindsVersion2 m) world.terminals (λ t terminal at kept found. of_version_2 t kept ((safe.stations.each t terminal at).kept kept found))
