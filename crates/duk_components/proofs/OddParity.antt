-- The parity of a byte.
use Rattle.std.proofs.Common.{◌≡◌, ◌+◌, ◌-◌, ◌/◌, ◌%◌, ℕ, ap, arith, count_ones}
use Rattle.std.specs.Int.Count.{ones_step}
use Rattle.duk_components.specs.NewComponent.{with_odd_parity}

pub same_but_for_parity : (byte : ℕ) → with_odd_parity byte / 2 ≡ byte / 2
same_but_for_parity byte = omega arith

pub is_odd : (byte : ℕ) → count_ones (with_odd_parity byte) % 2 ≡ 1
is_odd byte =
    let last : with_odd_parity byte % 2 ≡ 1 - count_ones (byte / 2) % 2 = omega arith in
    let step : count_ones (with_odd_parity byte) ≡ with_odd_parity byte % 2 + count_ones (with_odd_parity byte / 2) = ones_step (with_odd_parity byte) in
    let half : count_ones (with_odd_parity byte / 2) ≡ count_ones (byte / 2) = ap count_ones (same_but_for_parity byte) in
    omega (arith, step, half, last)
