-- The options that every command takes (this project's own).
use Rattle.std.specs.Prelude.{◌+◌, ℕ, Bool, List, [], ◌∷◌, Option, Some, None, codes, is_some, length, option_map, position, remove, take}
use Rattle.std.specs.Option.{unwrap_or}
use Rattle.std.specs.Str.{bytes_eq}

-- the word behind which there are no options
abbrev pub is_end : List ℕ → Bool
is_end word = bytes_eq word (codes "--")

-- the words before the first `--`, or all where there is none
abbrev pub before_end : List (List ℕ) → List (List ℕ)
before_end words = take (unwrap_or (position is_end words) (length words)) words

-- the place of an option among the arguments, the first of which is the program's name
abbrev pub option_place : List ℕ → List (List ℕ) → Option ℕ
option_place option [] = None
option_place option (name ∷ words) =
    option_map (λ place. place + 1) (position (λ word. bytes_eq word option) (before_end words))

-- whether the arguments have an option
abbrev pub is_given : List ℕ → List (List ℕ) → Bool
is_given option arguments = is_some (option_place option arguments)

-- the arguments without the word at a place
abbrev pub without : List (List ℕ) → Option ℕ → List (List ℕ)
without arguments None = arguments
without arguments (Some place) = remove arguments place

-- the arguments without the first word that is an option
abbrev pub without_option : List ℕ → List (List ℕ) → List (List ℕ)
without_option option arguments = without arguments (option_place option arguments)

-- whether faults are explained
abbrev pub is_marked : List (List ℕ) → Bool
is_marked = is_given (codes "--explain")

-- the arguments of the command itself
abbrev pub without_explain : List (List ℕ) → List (List ℕ)
without_explain = without_option (codes "--explain")
