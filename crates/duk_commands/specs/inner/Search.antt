-- What only private functions and proofs say beside `Find.antt`: this project's own.
use Rattle.std.specs.Prelude.{◌≡◌, ◌⊎◌, ◌≤◌, ◌+◌, ℕ, List, [], ◌∷◌, length}
use Rattle.duk_commands.specs.Find.{IsFound, IsNotFound, Search}
use Rattle.duk_commands.specs.Origin.{way_rank}
use Rattle.duk_commands.specs.Progress.{AreTried, progress_lines, progress_step}
use Rattle.duk_commands.specs.Sought.{MakesBy}
use Rattle.duk_commands.specs.declared.origin.Origin.{Origin}
use Rattle.duk_commands.specs.declared.origin.Way.{Way}
use Rattle.duk_commands.specs.declared.sought.Sought.{Sought}
use Rattle.duk_io.specs.FirstFault.{IsFirst}
use Rattle.duk_io.specs.Known.{Known}
use Rattle.duk_tree.specs.Next.{IsChainAfter, spent_counter}
use Rattle.duk_tree.specs.Path.{IsUsable}
use Rattle.duk_tree.specs.Serial.{Serial}

-- a search for this, under this initial key and initial key serial number, over these counters
abbrev pub search_in : Sought → List ℕ → ℕ → List ℕ → Search
search_in sought initial iksn window =
    record { sought = sought; initial = initial; iksn = iksn; window = window }

-- the first usable counter from this one on
pub record IsFirstFrom (from first : ℕ) : Type 0 where
  pub is_usable : IsUsable first
  pub not_below : from ≤ first
  pub is_least : (other : ℕ) → IsUsable other → from ≤ other → first ≤ other

-- the counters that a terminal has left which uses this one next
abbrev pub AreLeft : ℕ → List ℕ → Type 0
AreLeft counter numbers = ((counter ≡ spent_counter) × (numbers ≡ []))
    ⊎ ((later : List ℕ) × IsUsable counter × IsChainAfter counter later
    × (numbers ≡ counter ∷ later))

-- the first way in which a key makes what is looked for
abbrev pub IsFirstWay : Sought → List ℕ → Way → Type 0
IsFirstWay sought key =
    IsFirst way_rank (λ way. ¬ MakesBy sought key way) (MakesBy sought key)

-- the progress of a search was told, where so many numbers were tried, of so many at most
abbrev pub IsProgressTold : Sought → ℕ → ℕ → Known → Known → Type 0
IsProgressTold sought most numbers old new =
    AreTried old new (progress_lines (progress_step sought) most numbers)

-- this is found, and the progress was told
pub record IsFoundTelling (search : Search) (most : ℕ) (ksn : Serial) (origin : Origin)
    (old new : Known) : Type 0 where
  pub found : IsFound search ksn origin
  pub progress : IsProgressTold search.sought most (length found.before + 1) old new

-- nothing is found, and the progress was told
pub record IsNotFoundTelling (search : Search) (most : ℕ) (old new : Known) : Type 0 where
  pub not_found : IsNotFound search
  pub progress : IsProgressTold search.sought most (length search.window) old new
