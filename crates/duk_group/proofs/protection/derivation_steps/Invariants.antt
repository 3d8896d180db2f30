use Rattle.std.proofs.Common.{◌≡◌, ◌<◌, ◌+◌, ℕ, length}
use Rattle.duk_block.specs.Derived.{derivation_data, encryption_usage, mac_usage}
use Rattle.duk_group.specs.Numbers.{bytes_at}
use Rattle.duk_group.proofs.protection.derivation_steps.Given as goal

abbrev pub invariant-loop-step : goal.invariant-loop-step
invariant-loop-step l = record {
  size : length l.inputs ≡ 128;
  encryption : (p : ℕ) → p < l.step → bytes_at l.inputs p ≡ derivation_data (1 + p) encryption_usage l.size;
  mac : (p : ℕ) → p < l.step → bytes_at l.inputs (3 + p) ≡ derivation_data (1 + p) mac_usage l.size;
}
