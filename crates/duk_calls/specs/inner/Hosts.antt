-- What the parts of the calls over the frames of a host promise to each other: this project's own.
use Rattle.std.specs.Prelude.{◌<◌, ◌++◌, ℕ, zero, suc, List, [], ◌∷◌, slice_index_or}
use Rattle.duk_journal_host.specs.declared.settlement.Settled.{Settled}
use Rattle.duk_calls.specs.Answer.{part_at}
use Rattle.duk_calls.specs.Hosts.{SaysSettled}
use Rattle.duk_calls.specs.Requests.{front_frame}

-- the frames at so many places
abbrev pub frames_at : List ℕ → ℕ → List (List ℕ)
frames_at bytes zero = []
frames_at bytes (suc count) = frames_at bytes count ++ front_frame (part_at 64 bytes count) ∷ []

-- what was settled, at so many places that say so
abbrev pub AreRead : List ℕ → ℕ → List Settled → Type 0
AreRead bytes count settled =
    (i : ℕ) → i < count → (none one : Settled) → SaysSettled (part_at 64 bytes i) one
    → SaysSettled (part_at 64 bytes i) (slice_index_or settled i none)
