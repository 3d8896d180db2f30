-- What an answer says, and its object of JSON (this project's own; the text of tokens is RFC 8259's).
use Rattle.std.specs.Prelude.{◌≡◌, ◌⊎◌, ℕ, Bool, true, false, List, [], ◌∷◌, ◌++◌, Option, None, Some, codes, flat_map, map, position, slice_index_or, slice_set}
use Rattle.std.specs.List.{list_any}
use Rattle.std.specs.Str.{bytes_eq}
use Rattle.json.specs.Token.{Token, begin_array, begin_object, end_array, end_object, key, string}

-- a line is its name, and behind a space its text, or its name alone
abbrev pub IsNamed : List ℕ → List ℕ → List ℕ → Type 0
IsNamed line name text = (line ≡ name ++ 32 ∷ text) ⊎ ((line ≡ name) × (text ≡ []))

-- a member: its name, and the texts that stand under it
abbrev pub Said : Type 0
Said = List ℕ × List (List ℕ)

-- the names of which one answer may have many lines: their member is an array, also of one
abbrev pub names_of_many : List (List ℕ)
names_of_many =
    codes "step" ∷ codes "register" ∷ codes "past" ∷ codes "optional-block" ∷ codes "terminal"
    ∷ codes "payment" ∷ codes "reversal" ∷ codes "issued" ∷ codes "component" ∷ codes "component-kcv"
    ∷ codes "component-cmac" ∷ []

abbrev pub may_come_again : List ℕ → Bool
may_come_again name = list_any (bytes_eq name) names_of_many

-- the place of the member of a name
abbrev pub place_of : List ℕ → List Said → Option ℕ
place_of name members = position (λ member. bytes_eq member.0 name) members

-- a member with one text more
abbrev pub with_text : Said → List ℕ → Said
with_text member text = (member.0, member.1 ++ text ∷ [])

-- the members when one more text is said under a name, which is that of the member at a place or new
abbrev pub said_at : Option ℕ → List Said → List ℕ → List ℕ → List Said
said_at None members name text = members ++ (name, text ∷ []) ∷ []
said_at (Some place) members name text =
    slice_set members place (with_text (slice_index_or members place ([], [])) text)

-- the same: it stands behind those of that name
abbrev pub said : List Said → List ℕ → List ℕ → List Said
said members name text = said_at (place_of name members) members name text

-- the tokens of a member's texts: of an array, or of the one text
abbrev pub value_of : Bool → List (List ℕ) → List Token
value_of false (text ∷ []) = string text ∷ []
value_of again texts = begin_array ∷ (map string texts ++ end_array ∷ [])

abbrev pub tokens_of_member : Said → List Token
tokens_of_member member = key member.0 ∷ value_of (may_come_again member.0) member.1

-- the tokens of the object of an answer
abbrev pub object_of : List Said → List Token
object_of members = begin_object ∷ (flat_map tokens_of_member members ++ end_object ∷ [])
