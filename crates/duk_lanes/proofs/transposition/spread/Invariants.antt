use Rattle.std.proofs.Common.{◌≡◌, ℕ, ◌-◌, ◌<◌, length, get_or}
use Rattle.duk_lanes.specs.Words.{word_lane}
use Rattle.duk_lanes.proofs.transposition.spread.Given as goal

abbrev pub invariant-loop-p : goal.invariant-loop-p
invariant-loop-p l =
    record {
      length_is : length l.words ≡ 64;
      spread : (p : ℕ) → p < l.p → (i : ℕ) → i < 64 → word_lane (get_or l.words p 0) i ≡ word_lane l.word (63 - p);
    }
