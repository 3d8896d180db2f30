use Rattle.std.proofs.Common.{◌≡◌, ◌≤◌, ◌-◌, length, map, take}
use Rattle.duk_tree.specs.Derivation.{derived_key_of}
use Rattle.duk_group.proofs.derivation.derive_many.Given as goal

abbrev pub invariant-loop-done : goal.invariant-loop-done
invariant-loop-done l = record {
  kept : length l.keys ≡ length l.numbers;
  within : l.done ≤ length l.numbers;
  same : take l.done l.keys ≡ map (derived_key_of l.bdk) (take l.done l.numbers);
}

abbrev pub decreases-loop-done : goal.decreases-loop-done
decreases-loop-done l = length l.numbers - l.done
