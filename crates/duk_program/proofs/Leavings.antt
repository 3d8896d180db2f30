-- What is found after a walk, where the arguments that were not written have their defaults.
use Rattle.std.proofs.Common.{Bool, List, None, Option, Some, [], ap, append-nil, arith, bytes_eq, codes, false, fold, if◌then◌else◌, inl, inr, map, not, option_and_then, option_map, refl, slice_get, sym, true, ◌&&◌, ◌++◌, ◌∙◌, ◌∷◌, ◌≡◌}
use Rattle.std.proofs.lemmas.Bool.{and_right, cases_Bool}
use Rattle.std.proofs.lemmas.List.Folds.{find-append}
use Rattle.std.specs.Option.{option_map_or, option_or}
use Rattle.std.specs.Prelude.{unwrap_or}
use Rattle.clap.specs.Facts.{explicit_source}
use Rattle.clap.specs.Faults.{defaults_fault, given_default_fault}
use Rattle.clap.specs.Kinds.{Kinds}
use Rattle.clap.specs.Walk.{Row, Rule, Text, default_rows, has_row, is_empty, reading_by, with_default}
use Rattle.clap.specs.declared.parser.matches.ValueSource.TheVariants.{DefaultValue}
use Rattle.duk_program.specs.Asked.{texts_found}
use Rattle.duk_program.specs.CommandLine.{Kind, flag, named, needed, several}
use Rattle.duk_program.specs.Written.{AreAsMany}
use Rattle.duk_program.proofs.Parameters.{row_left}
use Rattle.duk_program.proofs.CommandRows.{given_at, row_at}

-- the default of an argument alone
abbrev pub default_of : Rule → List Row
default_of a = default_rows a.id (reading_by a) a.defaults []

default_added : (rows : List Row) (a : Rule) → has_row a.id rows ≡ false
    → default_rows a.id (reading_by a) a.defaults rows ≡ rows ++ default_of a
default_added rows a fresh = by_defaults a.defaults
  where
    by_defaults : (defaults : List Text) → default_rows a.id (reading_by a) defaults rows
        ≡ rows ++ default_rows a.id (reading_by a) defaults []
    by_defaults [] = sym (append-nil rows)
    by_defaults (text ∷ more) = given_at a.id (reading_by a) DefaultValue (text ∷ more) rows fresh

-- what is read of the row under a name, for which a default is as good as none, stays
module _ {X : Type 0} (view : Option Row → X) (name : Text) where
  either : (found default : Option Row) → view default ≡ view None → view (option_or found default) ≡ view found
  either None default none = none
  either (Some row) default none = refl

  stays_by : (rows : List Row) (a : Rule) → view (row_at name (default_of a)) ≡ view None
      → view (row_at name (with_default rows a)) ≡ view (row_at name rows)
  stays_by rows a none = elim (cases_Bool (has_row a.id rows)) [
    | inl there ↦ rw there refl
    | inr fresh ↦ rw fresh (ap (λ (rs : List Row). view (row_at name rs)) (default_added rows a fresh)
        ∙ ap view (find-append (λ (row : Row). bytes_eq row.id name) rows (default_of a))
        ∙ either (row_at name rows) (row_at name (default_of a)) none)
  ]

  pub stays : (rules : List Rule) (rows : List Row)
      → map (λ a. view (row_at name (default_of a))) rules ≡ map (λ a. view None) rules
      → view (row_at name (fold with_default rows rules)) ≡ view (row_at name rows)
  stays [] rows none = refl
  stays (a ∷ rules) rows none =
      let here : view (row_at name (default_of a)) ≡ view None = cc in
      let rest : map (λ a. view (row_at name (default_of a))) rules ≡ map (λ a. view None) rules = cc in
      stays rules (with_default rows a) rest ∙ stays_by rows a here

-- the texts in the row under a name
abbrev pub texts_in_row : Kind → Option Row → List Text
texts_in_row flag found = if option_map_or (bytes_eq (codes "true"))
    (option_and_then (λ (row : Row). slice_get row.values 0) found) false then codes "true" ∷ [] else []
texts_in_row _ found = unwrap_or (option_map (λ (row : Row). row.values) found) []

pub texts_by_row : (kind : Kind) (name : Text) (rows : List Row)
    → texts_found kind name rows ≡ texts_in_row kind (row_at name rows)
texts_by_row flag name rows = refl
texts_by_row _ name rows = refl

values_left : (name : Text) (texts : List Text)
    → unwrap_or (option_map (λ (row : Row). row.values) (row_left name texts)) [] ≡ texts
values_left name [] = refl
values_left name (text ∷ more) = refl

pub texts_left : (kind : Kind) (name : Text) (texts : List Text) → AreAsMany kind texts
    → texts_in_row kind (row_left name texts) ≡ texts
texts_left flag name texts (inl none) = rw none refl
texts_left flag name texts (inr there) = rw there refl
texts_left _ name texts many = values_left name texts

-- whether the row under a name was written
abbrev pub is_written : Option Row → Bool
is_written found = option_map_or (λ (row : Row). explicit_source row.source) found false

abbrev pub has_to_be_there : Kind → Bool
has_to_be_there needed = true
has_to_be_there several = true
has_to_be_there named = true
has_to_be_there _ = false

pub is_there : (kind : Kind) (name : Text) (texts : List Text) → AreAsMany kind texts
    → (has_to_be_there kind && not (is_written (row_left name texts))) ≡ false
is_there needed name [] many = absurd (omega arith)
is_there several name [] many = absurd (omega arith)
is_there named name [] many = absurd (omega arith)
is_there _ name [] many = refl
is_there kind name (text ∷ more) many = and_right (has_to_be_there kind) false refl

-- the fault of a default
abbrev pub own_fault : Rule → Kinds
own_fault a = if is_empty a.defaults then [] else given_default_fault a a.defaults

pub defaults_quiet : (rules : List Rule) (rows : List Row) → map own_fault rules ≡ map (λ a. []) rules
    → defaults_fault rows rules ≡ []
unfolding defaults_fault
defaults_quiet [] rows none = refl
defaults_quiet (a ∷ rules) rows none =
    let here : own_fault a ≡ [] = cc in
    let rest : map own_fault rules ≡ map (λ a. []) rules = cc in
    elim (cases_Bool (has_row a.id rows)) [
      | inl there ↦ rw there (defaults_quiet rules rows rest)
      | inr fresh ↦ rw (fresh, here) (defaults_quiet rules (default_rows a.id (reading_by a) a.defaults rows) rest)
    ]
