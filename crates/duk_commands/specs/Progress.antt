-- What a long search tells while it goes on (this project's own).
use Rattle.std.specs.Prelude.{◌≡◌, ◌+◌, ◌/◌, ◌%◌, ◌==◌, ◌&&◌, ◌++◌, ℕ, Bool, List, [], ◌∷◌, Option, Some, None, codes, decimal, filter, length, map, max, nat_lt}
use Rattle.std.specs.List.{range_with_len}
use Rattle.duk_commands.specs.Fault.{line_end}
use Rattle.duk_io.specs.Known.{Known}
use Rattle.duk_io.specs.Sink.{IsTried}
use Rattle.duk_commands.specs.declared.sought.Sought.{Sought}
use Rattle.duk_commands.specs.declared.sought.Sought.TheVariants as sought

-- these lines were written, one behind the other, each but for what a failed write cut off; where
-- there are none, the writer is as it was
abbrev pub AreTried : Known → Known → List (List ℕ) → Type 0
AreTried old new [] = new ≡ old
AreTried old new (line ∷ lines) =
    (between : Known) × IsTried old between line × AreTried between new lines

-- how many numbers are tried in about a second, where each of their keys makes two MACs of a text
-- of this many bytes
abbrev pub step_of : ℕ → ℕ
step_of len = max 1 (3_000_000 / (24 + len))

-- after how many numbers, each time, a search tells its progress: that of a MAC over a text does,
-- which takes the longer the longer the text is
abbrev pub progress_step : Sought → Option ℕ
progress_step (sought.Mac message mac) = Some (step_of (length message.items))
progress_step sought = None

-- this many numbers are a whole number of steps, one at least
abbrev pub is_step : ℕ → ℕ → Bool
is_step step tried = nat_lt 0 tried && (tried % step == 0)

-- the line of progress: how many numbers were tried without success, of how many at most
abbrev pub progress_line : ℕ → ℕ → List ℕ
progress_line most tried =
    codes "tried " ++ decimal tried ++ codes " of " ++ decimal most ++ line_end

-- the lines of progress, where so many numbers were tried, the last of them with success or
-- without: one after each step behind which another number was tried
abbrev pub progress_lines : Option ℕ → ℕ → ℕ → List (List ℕ)
progress_lines None most numbers = []
progress_lines (Some step) most numbers =
    map (progress_line most) (filter (is_step step) (range_with_len 0 numbers))
