use Rattle.std.proofs.Common.{◌≡◌, ℕ, ◌≤◌, ◌<◌, false, get_or}
use Rattle.duk_lanes.specs.Words.{word_lane}
use Rattle.duk_lanes.proofs.wide.half_word.Given as goal

abbrev pub invariant-loop-i : goal.invariant-loop-i
invariant-loop-i l =
    record {
      flagged : (k : ℕ) → k < l.i → word_lane l.word k ≡ get_or l.flags k false;
      clear : (k : ℕ) → l.i ≤ k → k < 64 → word_lane l.word k ≡ false;
    }
