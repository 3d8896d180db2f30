use Rattle.std.proofs.Common.{◌≡◌, ℕ, ◌+◌, ◌*◌, ◌<◌, length, get_or}
use Rattle.duk_lanes.specs.inner.Exchanges.{IsExchanged}
use Rattle.duk_lanes.proofs.transposition.pass.Given as goal

abbrev pub invariant-loop-k : goal.invariant-loop-k
invariant-loop-k l =
    record {
      length_is : length l.sides ≡ 64;
      exchanged : (k : ℕ) → k < l.k
          → IsExchanged l.distance l.mask (get_or l.words k 0) (get_or l.words (32 + k) 0) (get_or l.sides (2 * k) 0) (get_or l.sides (2 * k + 1) 0);
    }
