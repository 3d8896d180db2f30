-- The entries of a request that may be references.
use Rattle.std.proofs.Common.{◌≡◌, ◌∙◌, ◌<◌, Bool, List, [], ◌∷◌, ap, false, get_or, length, map, refl, sym, ℕ}
use Rattle.std.proofs.lemmas.List.{get_or-map}
use Rattle.std.specs.List.{list_any}
use Rattle.duk_arguments.specs.Request.{Written, pair_of}
use Rattle.duk_program.specs.References.{references_in}
use Rattle.duk_arguments.specs.declared.entry.Entry.{Entry}
use Rattle.duk_program.specs.Secrets.{names_in, secrets_in}

texts_of : (entries : List Entry) → map (λ (entry : Entry). entry.text.now) entries ≡ map (λ (pair : List ℕ × List ℕ). pair.1) (map pair_of entries)
texts_of [] = refl
texts_of (entry ∷ rest) = ap (λ (texts : List (List ℕ)). entry.text.now ∷ texts) (texts_of rest)

names_of : (entries : List Entry) → map (λ (entry : Entry). entry.name.now) entries ≡ map (λ (pair : List ℕ × List ℕ). pair.0) (map pair_of entries)
names_of [] = refl
names_of (entry ∷ rest) = ap (λ (names : List (List ℕ)). entry.name.now ∷ names) (names_of rest)

module _ (entries : List Entry) (asked : Written) (are : map pair_of entries ≡ references_in asked) where
  pub their_texts : map (λ (entry : Entry). entry.text.now) entries ≡ secrets_in asked
  their_texts = texts_of entries ∙ ap (map (λ (pair : List ℕ × List ℕ). pair.1)) are

  pub their_name : (place : ℕ) (d : Entry) → place < length entries → (get_or entries place d).name.now ≡ get_or (names_in asked) place []
  their_name place d inside =
      sym (get_or-map (λ (entry : Entry). entry.name.now) entries place d [] inside)
      ∙ ap (λ (names : List (List ℕ)). get_or names place []) (names_of entries ∙ ap (map (λ (pair : List ℕ × List ℕ). pair.0)) are)

-- a test that the text of no entry passes
pub none_of_all : (test : List ℕ → Bool) (entries : List Entry) (asked : Written) → map pair_of entries ≡ asked.entries
    → list_any test (map (λ (entry : Entry). entry.text.now) entries) ≡ false → list_any test (map (λ (entry : List ℕ × List ℕ). entry.1) asked.entries) ≡ false
none_of_all test entries asked are none =
    sym (ap (λ (pairs : List (List ℕ × List ℕ)). list_any test (map (λ (pair : List ℕ × List ℕ). pair.1) pairs)) are)
    ∙ sym (ap (list_any test) (texts_of entries)) ∙ none
