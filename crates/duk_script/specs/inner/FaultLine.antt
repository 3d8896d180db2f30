-- What only private functions and proofs say beside `FaultLine.antt`: this project's own.
use Rattle.std.specs.Prelude.{ℕ, List, ◌++◌, codes}

-- the line of a key of this name that is none of a configuration's
abbrev pub unknown_line : List ℕ → List ℕ
unknown_line name = codes "config: unknown " ++ name ++ codes "\n"
