-- What was found, with one argument more.
use Rattle.std.proofs.Common.{◌≡◌, ◌∷◌, ◌∙◌, ◌++◌, [], List, None, Option, Some, ap, append-nil, bytes_eq, false, find, inl, inr, refl, true}
use Rattle.std.proofs.lemmas.Bool.{cases_Bool, or_parts}
use Rattle.std.proofs.lemmas.Slice.Eq.{bytes_eq-Decides}
use Rattle.clap.specs.Walk.{Row, Text, at_row, has_row, more_values, with_values, without}
use Rattle.clap.specs.declared.builder.value_parser.Reading.{Reading}
use Rattle.clap.specs.declared.builder.value_parser.Reading.TheVariants as reading
use Rattle.clap.specs.declared.parser.matches.ValueSource.{ValueSource}
use Rattle.clap.specs.declared.parser.matches.ValueSource.TheVariants.{CommandLine}

pub same_bytes : (text : Text) → bytes_eq text text ≡ true
same_bytes text = (bytes_eq-Decides text text).1 refl

-- what was found under a name
abbrev pub row_at : Text → List Row → Option Row
row_at name rows = find (λ (row : Row). bytes_eq row.id name) rows

-- what an argument with these texts leaves
abbrev pub row_with : Text → List Text → Row
row_with name texts = record {
  id = name;
  values = texts;
  count = None;
  source = Some CommandLine;
  reading = reading.AsWritten;
}

pub no_row : (name : Text) (rows : List Row) → row_at name rows ≡ None → has_row name rows ≡ false
no_row name [] none = refl
no_row name (row ∷ rows) none = elim (cases_Bool (bytes_eq row.id name)) [
  | inl same ↦
      let bad : Some row ≡ None = rw same at none in
      cc
  | inr other ↦
      let rest : row_at name rows ≡ None = rw other at none in
      rw other (no_row name rows rest)
]

changed_at : (name : Text) (change : Row → List Row) (missing rows : List Row)
    → has_row name rows ≡ false → at_row name change missing rows ≡ rows ++ missing
changed_at name change missing [] fresh = refl
changed_at name change missing (row ∷ rows) fresh =
    let parts = or_parts (bytes_eq row.id name) (has_row name rows) fresh in
    rw parts.0 (ap (λ (rest : List Row). row ∷ rest) (changed_at name change missing rows parts.1))

-- values under a name under which nothing was found
pub given_at : (name : Text) (how : Reading) (source : ValueSource) (values : List Text) (rows : List Row)
    → has_row name rows ≡ false → with_values name how source values rows
    ≡ rows ++ record { id = name; values = values; count = None; source = Some source; reading = how } ∷ []
given_at name how source values rows fresh = changed_at name (more_values source values) _ rows fresh

pub used_at : (name : Text) (texts : List Text) (rows : List Row) → has_row name rows ≡ false
    → with_values name reading.AsWritten CommandLine texts (without name rows) ≡ rows ++ row_with name texts ∷ []
used_at name texts rows fresh =
    ap (with_values name reading.AsWritten CommandLine texts)
    (changed_at name (λ _. []) [] rows fresh ∙ append-nil rows)
    ∙ given_at name reading.AsWritten CommandLine texts rows fresh
