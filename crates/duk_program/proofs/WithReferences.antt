-- What stays of a request where its references have other texts.
use Rattle.std.proofs.Common.{◌≡◌, ◌∷◌, ◌∙◌, [], Bool, List, ap, bytes_eq, false, filter, inl, inr, is_some, map, refl, slice_get, sym}
use Rattle.std.proofs.lemmas.Bool.{cases_Bool}
use Rattle.std.proofs.lemmas.Slice.Eq.{bytes_eq-Decides}
use Rattle.clap.specs.Words.{Text}
use Rattle.duk_program.specs.CommandLine.{CommandRow, row_of}
use Rattle.duk_arguments.specs.Request.{Written, flag_in, texts_in}
use Rattle.duk_program.specs.References.{may_refer, without_references, without_text}
use Rattle.duk_arguments.specs.declared.name.CommandName.{CommandName}

abbrev texts_under : Text → List (Text × Text) → List Text
texts_under name entries =
    map (λ (entry : Text × Text). entry.1) (filter (λ (entry : Text × Text). bytes_eq entry.0 name) entries)

abbrev is_under : Text → List (Text × Text) → Bool
is_under name entries = is_some (slice_get (texts_under name entries) 0)

texts_stay : (row : CommandRow) (name : Text) → may_refer name row ≡ false → (entries : List (Text × Text))
    → texts_under name (map (without_text row) entries) ≡ texts_under name entries
texts_stay row name plain [] = refl
texts_stay row name plain (entry ∷ rest) = elim (cases_Bool (bytes_eq entry.0 name)) [
  | inl same ↦
      let own : may_refer entry.0 row ≡ false =
      ap (λ (n : Text). may_refer n row) ((bytes_eq-Decides entry.0 name).0 same) ∙ plain in
      rw (same, own) (ap (λ (texts : List Text). entry.1 ∷ texts) (texts_stay row name plain rest))
  | inr other ↦ rw other (texts_stay row name plain rest)
]

names_stay : (row : CommandRow) (name : Text) (entries : List (Text × Text))
    → is_under name (map (without_text row) entries) ≡ is_under name entries
names_stay row name [] = refl
names_stay row name (entry ∷ rest) = elim (cases_Bool (bytes_eq entry.0 name)) [
  | inl same ↦ rw same refl
  | inr other ↦ rw other (names_stay row name rest)
]

module _ (made asked : Written) (rest : without_references made ≡ without_references asked) where
  pub same_texts : made.command ≡ asked.command → (name : Text)
      → may_refer name (row_of asked.command) ≡ false → texts_in name made ≡ texts_in name asked
  same_texts same name plain =
      sym (texts_stay (row_of made.command) name
      (ap (λ (command : CommandName). may_refer name (row_of command)) same ∙ plain) made.entries)
      ∙ ap (texts_under name) rest ∙ texts_stay (row_of asked.command) name plain asked.entries

  pub same_flags : (name : Text) → flag_in name made ≡ flag_in name asked
  same_flags name =
      sym (names_stay (row_of made.command) name made.entries)
      ∙ ap (is_under name) rest ∙ names_stay (row_of asked.command) name asked.entries
