use Rattle.std.proofs.Common.{◌≤◌, ◌<◌, ℕ, slice_index}
use Rattle.duk_show.specs.Block.{IsFieldCharacter}
use Rattle.duk_show.proofs.block.wrong_character.Given as goal

-- the characters so far are right
abbrev pub invariant-loop-place : goal.invariant-loop-place
invariant-loop-place l = (earlier : ℕ) → 5 ≤ earlier → earlier < l.place → IsFieldCharacter earlier (slice_index l.text earlier)
